-- `mappings::lent::targets_given` meets its contract.
use Prim.Native.Nat.{◌-◌}
use mathlib.Core.Bool.{not}
use mathlib.Core.Path.{◌≡◌}
use lib.ListN.{length}
use Rattle.mappings.specs.Lent.{next_source, next-after, empty_at}
use Rattle.mappings.proofs.Walks.{Going}
use Rattle.mappings.proofs.lent.targets_given.Given as goal

abbrev pub invariant-loop-at : goal.invariant-loop-at
invariant-loop-at l = (l.n ≡ length l.numbers) × Going (λ at. not (empty_at l.numbers at)) (next_source l.numbers) (length l.numbers) (next-after l.numbers) l.at

abbrev pub decreases-loop-at : goal.decreases-loop-at
decreases-loop-at l = l.n - l.at
