-- `enumeration::walking::go_down` meets its contract.
use mathlib.Core.Path.{refl}
use Rattle.enumeration.specs.Inner.{deeper}
use Rattle.enumeration.proofs.walking.go_down.Goals as goal

pub returns : goal.returns
unfolding deeper
returns c = refl
