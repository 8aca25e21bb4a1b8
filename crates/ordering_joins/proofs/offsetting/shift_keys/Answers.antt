-- `ordering_joins::offsetting::shift_keys` meets its contract.
use mathlib.Core.Path.{sym, ◌∙◌, subst}
use Rattle.std.specs.Prelude.{Result}
use Rattle.arena.specs.declared.Refusal.{Refusal}
use Rattle.orderings.specs.declared.Ordering.{Ordering}
use Rattle.ordering_joins.specs.Inner.{ShiftedKeys}
use Rattle.arena.proofs.Refusals.{handed-on}
use Rattle.ordering_joins.proofs.KeyTests.{few-keys}
use Rattle.ordering_joins.proofs.KeyWalk.{keys-begin, key-ready, number-few, keys-fit, keys-more, keys-fail, keys_end}
use borrow.Author.Rules.{rules}
use Rattle.ordering_joins.proofs.offsetting.shift_keys.Goals as goal

pub loop-k-init : goal.loop-k-init
loop-k-init c =
    keys-begin c.args.lift c.args.cells.now c.args.memo.now c.args.o c.requires c.nothing-out.result c.nothing-out.ensures

pub offset_bounds-o-k : goal.offset_bounds-o-k
offset_bounds-o-k c =
    let f = few-keys c.args.cells.now c.args.o c.requires.keys in
    search rules

pub bounds-o-k : goal.bounds-o-k
bounds-o-k c =
    let f = few-keys c.args.cells.now c.args.o c.requires.keys in
    search rules

pub shift-requires : goal.shift-requires
shift-requires c =
    let o = c.loop-k in
    key-ready c.args.lift c.args.cells.now c.args.memo.now c.args.o c.requires o.cells o.memo o.out o.k o.invariant c.loop-k-test.true c.expr_number.result c.expr_number.ensures

pub returns-in_err-e : goal.returns-in_err-e
returns-in_err-e c =
    let o = c.loop-k in
    let n = c.expr_number in
    let w = c.shift in
    let d = c.requires in
    subst (λ (r : Result Ordering Refusal). ShiftedKeys c.args.lift c.args.cells.now w.new.cells w.new.memo c.args.o r) (sym (handed-on _ _ c.from_residual.ensures.1))
    (keys-fail c.args.lift c.args.cells.now c.args.memo.now c.args.o d o.cells o.memo o.out o.k o.invariant c.loop-k-test.true w.new.cells w.new.memo n.result n.ensures w.result w.ensures _ c.in_err-e.was)

pub with_options-requires : goal.with_options-requires
with_options-requires c =
    let o = c.loop-k in
    let n = c.expr_number in
    let w = c.shift in
    number-few c.args.lift c.args.cells.now c.args.memo.now c.args.o c.requires o.cells o.memo o.out o.k o.invariant c.loop-k-test.true w.new.cells w.new.memo n.result n.ensures w.result w.ensures c.in_ok-e.e c.in_ok-e.was

pub push-requires : goal.push-requires
push-requires c = c.loop-k.invariant.short

pub returns-in_err-out : goal.returns-in_err-out
returns-in_err-out c =
    let o = c.loop-k in
    let n = c.expr_number in
    let w = c.shift in
    absurd (keys-fit c.args.lift c.args.cells.now c.args.memo.now c.args.o c.requires o.cells o.memo o.out o.k o.invariant c.loop-k-test.true w.new.cells w.new.memo n.result n.ensures w.result w.ensures c.in_ok-e.e c.in_ok-e.was c.with_options.result _ (sym c.in_err-out.was ∙ c.push.ensures))

pub loop-k-preserved : goal.loop-k-preserved
loop-k-preserved c =
    let o = c.loop-k in
    let n = c.expr_number in
    let w = c.shift in
    keys-more c.args.lift c.args.cells.now c.args.memo.now c.args.o c.requires o.cells o.memo o.out o.k o.invariant c.loop-k-test.true w.new.cells w.new.memo n.result n.ensures w.result w.ensures c.in_ok-e.e c.in_ok-e.was c.with_options.result c.with_options.ensures c.in_ok-out.out (sym c.in_ok-out.was ∙ c.push.ensures)

pub returns : goal.returns
returns c =
    let o = c.loop-k in
    keys_end c.args.lift c.args.cells.now c.args.memo.now c.args.o c.requires o.cells o.memo o.out o.k o.invariant c.loop-k-test.false
