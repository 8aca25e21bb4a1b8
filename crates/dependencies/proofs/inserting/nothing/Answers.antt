-- `dependencies::inserting::nothing` meets its contract.
use mathlib.Core.Path.{refl}
use Rattle.dependencies.specs.Layout.{is_there, number_or0, row}
use Rattle.dependencies.proofs.inserting.nothing.Goals as goal

pub returns : goal.returns
unfolding row is_there number_or0
returns c = refl
