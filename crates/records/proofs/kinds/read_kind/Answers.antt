-- `records::kinds::read_kind` meets its contract.
use native.Mathlib.Omega.{arith}
use Rattle.records.specs.Record.{item_of}
use Rattle.records.proofs.KindView.{kind-column, kind-literal, kind-operation, kind-equal_pair, kind-constant, kind-normal_form, kind-equality, kind-ordering, kind-none, kind-zero}
use Rattle.records.proofs.kinds.read_kind.Goals as goal

pub returns-in-1 : goal.returns-in-1
returns-in-1 c =
    rw (kind-column c.args.kind c.args.body.now (omega arith)) c.column.ensures

pub returns-in-2 : goal.returns-in-2
returns-in-2 c =
    rw (kind-literal c.args.kind c.args.body.now (omega arith)) c.literal.ensures

pub returns-in-3 : goal.returns-in-3
returns-in-3 c =
    rw (kind-operation c.args.kind c.args.body.now (omega arith)) c.operation.ensures

pub returns-in-4 : goal.returns-in-4
returns-in-4 c =
    rw (kind-equal_pair c.args.kind c.args.body.now (omega arith)) c.equal_pair.ensures

pub returns-in-5 : goal.returns-in-5
returns-in-5 c =
    rw (kind-constant c.args.kind c.args.body.now (omega arith)) c.constant.ensures

pub returns-in-6 : goal.returns-in-6
returns-in-6 c =
    rw (kind-normal_form c.args.kind c.args.body.now (omega arith)) c.normal_form.ensures

pub returns-in-7 : goal.returns-in-7
returns-in-7 c =
    rw (kind-equality c.args.kind c.args.body.now (omega arith)) c.equality.ensures

pub returns-in-8 : goal.returns-in-8
returns-in-8 c =
    rw (kind-ordering c.args.kind c.args.body.now (omega arith)) c.ordering.ensures

pub returns-in-0 : goal.returns-in-0
unfolding item_of
returns-in-0 c =
    rw (kind-zero c.args.kind c.args.body.now (omega arith))

pub returns-in-0-2 : goal.returns-in-0-2
unfolding item_of
returns-in-0-2 c =
    rw (kind-none c.args.kind c.args.body.now (λ e. omega arith) (λ e. omega arith) (λ e. omega arith) (λ e. omega arith) (λ e. omega arith) (λ e. omega arith) (λ e. omega arith) (λ e. omega arith))
