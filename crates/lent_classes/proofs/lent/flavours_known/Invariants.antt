-- `lent_classes::lent::flavours_known` meets its contract.
use Prim.Native.Nat.{◌-◌}
use mathlib.Core.Path.{◌≡◌}
use lib.ListN.{length}
use Rattle.lent_classes.specs.Lent.{known_at}
use Rattle.lent_classes.proofs.LentParts.{Going}
use Rattle.lent_classes.proofs.lent.flavours_known.Given as goal

abbrev pub invariant-loop-at : goal.invariant-loop-at
invariant-loop-at l = (l.n ≡ length l.numbers) × Going (known_at l.numbers) l.numbers l.at

abbrev pub decreases-loop-at : goal.decreases-loop-at
decreases-loop-at l = l.n - l.at
