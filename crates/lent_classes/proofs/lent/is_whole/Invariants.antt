-- `lent_classes::lent::is_whole` meets its contract.
use Prim.Native.Nat.{◌-◌}
use mathlib.Core.Path.{◌≡◌}
use lib.ListN.{length}
use Rattle.lent_classes.proofs.LentParts.{WholeAt, Going}
use Rattle.lent_classes.proofs.lent.is_whole.Given as goal

abbrev pub invariant-loop-at : goal.invariant-loop-at
invariant-loop-at l = (l.n ≡ length l.numbers) × Going (WholeAt l.numbers) l.numbers l.at

abbrev pub decreases-loop-at : goal.decreases-loop-at
decreases-loop-at l = l.n - l.at
