-- `orderings::making::nothing` meets its contract.
use mathlib.Core.Path.{refl}
use Rattle.orderings.specs.Layout.{row}
use Rattle.orderings.proofs.making.nothing.Goals as goal

pub returns : goal.returns
unfolding row
returns c = refl
