-- `mappings::lent::is_whole` meets its contract.
use Prim.Native.Nat.{◌-◌}
use mathlib.Core.Path.{◌≡◌}
use lib.ListN.{length}
use Rattle.mappings.specs.Lent.{next_source, next-after, whole_at}
use Rattle.mappings.proofs.Walks.{Going}
use Rattle.mappings.proofs.lent.is_whole.Given as goal

abbrev pub invariant-loop-at : goal.invariant-loop-at
invariant-loop-at l = (l.n ≡ length l.numbers) × Going (whole_at l.numbers) (next_source l.numbers) (length l.numbers) (next-after l.numbers) l.at

abbrev pub decreases-loop-at : goal.decreases-loop-at
decreases-loop-at l = l.n - l.at
