-- `dependencies::inserting::append` meets its contract.
use mathlib.Core.List.{[]}
use mathlib.Core.Path.{sym, ◌∙◌, subst}
use native.Mathlib.Omega.{arith}
use Rattle.dependencies.specs.Calls.{key_of}
use Rattle.dependencies.specs.Inner.{Coded}
use Rattle.dependencies.proofs.MapCodec.{row-coded}
use Rattle.dependencies.proofs.MapInserts.{appended-many, first-refused, appended}
use borrow.Author.Rules.{rules}
use Rattle.dependencies.proofs.inserting.append.Goals as goal

pub returns-then-m-ge64 : goal.returns-then-m-ge64
returns-then-m-ge64 c = c.refusal.ensures ∙ sym (appended-many c.args.m c.requires.0 c.args.key (key_of c.args.target) (key_of c.args.dependency) (search rules))

pub fresh_entry-requires : goal.fresh_entry-requires
fresh_entry-requires c = c.requires.1.0

pub extend-requires : goal.extend-requires
extend-requires c = (subst Coded (sym c.fresh_entry.ensures) (row-coded (record { key = c.args.key; target = key_of c.args.target; dependencies = [] }) (omega arith)), c.requires.1.1)

pub returns-in-Ok : goal.returns-in-Ok
returns-in-Ok c =
    appended c.args.m c.requires.0 c.args.key (key_of c.args.target) (key_of c.args.dependency) c.fresh_entry.result c.in-Ok.node c.fresh_entry.ensures (sym c.in-Ok.is ∙ c.extend.ensures) (search rules)

pub returns-in-Err : goal.returns-in-Err
returns-in-Err c =
    first-refused c.args.m c.requires.0 c.args.key (key_of c.args.target) (key_of c.args.dependency) _ c.fresh_entry.result c.in-Err.why c.fresh_entry.ensures (sym c.in-Err.is ∙ c.extend.ensures)
