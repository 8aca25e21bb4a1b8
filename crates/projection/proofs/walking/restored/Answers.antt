-- `projection::walking::restored` meets its contract.
use mathlib.Core.Path.{sym, ap}
use Rattle.projection.specs.Inner.{restored_as}
use Rattle.projection.proofs.walking.restored.Goals as goal

pub returns-in-Ok : goal.returns-in-Ok
unfolding restored_as
returns-in-Ok c =
    sym (ap (restored_as c.args.saved.now c.args.cells.now) c.in-Ok.is)

pub returns-in-Err : goal.returns-in-Err
unfolding restored_as
returns-in-Err c =
    sym (ap (restored_as c.args.saved.now c.args.cells.now) c.in-Err.is)
