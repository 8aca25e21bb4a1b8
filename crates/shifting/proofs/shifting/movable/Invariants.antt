-- `shifting::shifting::movable` meets its contract.
use Prim.Native.Nat.{ℕ, ◌<◌}
use mathlib.Core.Bool.{Bool, false}
use mathlib.Core.List.{List}
use mathlib.Core.Path.{◌≡◌}
use lib.ListN.{length, get_or}
use Rattle.arena.specs.Expression.{expression_at}
use Rattle.shifting.specs.Shift.{can_move}
use Rattle.arena.specs.Layout.{decode}
use Rattle.shifting.specs.Inner.{lifted}
use Rattle.shifting.proofs.shifting.movable.Given as goal

-- the expression of node j can move
abbrev pub Moves : List ℕ → ℕ → ℕ → Bool
Moves cells lift j = can_move (lifted lift) (expression_at (decode cells) j)

abbrev pub invariant-loop-i : goal.invariant-loop-i
invariant-loop-i l = (length l.table ≡ 1024) × ((j : ℕ) → j < l.i → get_or l.table j false ≡ Moves l.cells l.lift j)
