-- `reduction::lent::exprs_inside` meets its contract.
use Prim.Native.Nat.{◌-◌}
use mathlib.Core.Path.{◌≡◌}
use lib.ListN.{length}
use Rattle.reduction.proofs.LentLaws.{ExprsAt, Going}
use Rattle.reduction.proofs.lent.exprs_inside.Given as goal

abbrev pub invariant-loop-at : goal.invariant-loop-at
invariant-loop-at l = (l.m ≡ length l.numbers) × Going (ExprsAt l.n l.numbers) l.numbers l.at

abbrev pub decreases-loop-at : goal.decreases-loop-at
decreases-loop-at l = l.m - l.at
