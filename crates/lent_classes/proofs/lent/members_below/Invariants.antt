-- `lent_classes::lent::members_below` meets its contract.
use Prim.Native.Nat.{◌-◌}
use mathlib.Core.Bool.{true}
use mathlib.Core.Path.{◌≡◌}
use lib.ListN.{length}
use Rattle.lent_classes.specs.Lent.{each_from, below_at}
use Rattle.lent_classes.proofs.LentParts.{WholeAt, Going}
use Rattle.lent_classes.proofs.lent.members_below.Given as goal

abbrev pub invariant-loop-at : goal.invariant-loop-at
invariant-loop-at l = (l.n ≡ length l.numbers) × ((each_from (WholeAt l.numbers) l.numbers l.at ≡ true) × Going (below_at l.m l.numbers) l.numbers l.at)

abbrev pub decreases-loop-at : goal.decreases-loop-at
decreases-loop-at l = l.n - l.at
