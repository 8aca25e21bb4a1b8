-- `orderings::making::append` meets its contract.
use mathlib.Core.Path.{refl}
use Rattle.orderings.specs.Inner.{appended}
use Rattle.orderings.proofs.making.append.Goals as goal

pub returns : goal.returns
unfolding appended
returns c = refl
