-- `lent_classes::lent::list_fits` meets its contract.
use Prim.Native.Nat.{◌-◌, ◌≤◌}
use mathlib.Core.Path.{◌≡◌}
use lib.ListN.{length}
use Rattle.lent_classes.proofs.ListCounts.{Counted}
use Rattle.lent_classes.proofs.lent.list_fits.Given as goal

abbrev pub invariant-loop-at : goal.invariant-loop-at
invariant-loop-at l = (l.n ≡ length l.numbers) × ((l.count ≤ 64) × ((l.used ≤ 256) × Counted l.numbers l.count l.used l.at))

abbrev pub decreases-loop-at : goal.decreases-loop-at
decreases-loop-at l = l.n - l.at
