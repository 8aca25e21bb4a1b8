-- `projection::walking::settle` meets its contract.
use mathlib.Core.Path.{sym, ap}
use native.Mathlib.Omega.{arith}
use Rattle.projection.specs.Inner.{settled_as}
use Rattle.projection.proofs.walking.settle.Goals as goal

pub overflow_add-table : goal.overflow_add-table
overflow_add-table c =
    omega (arith, c.requires.1 c.in-Ok.i c.in-Ok.is)

pub returns-in-Ok : goal.returns-in-Ok
unfolding settled_as
returns-in-Ok c =
    sym (ap (settled_as c.args.table.now c.args.e) c.in-Ok.is)

pub returns-in_default : goal.returns-in_default
unfolding settled_as
returns-in_default c =
    sym (ap (settled_as c.args.table.now c.args.e) c.in_default.is)
