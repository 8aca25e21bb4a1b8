-- What the shift of an expression answers and what it leaves in the arena, in document 01's order of refusals.
use Rattle.arena.specs.declared.Refusal.TheVariants.{IndexOutOfRange, UnknownExpression}
use Rattle.std.specs.Prelude.{ℕ, List, ltb, ℤ, length, if◌then◌else◌, Err}
use Rattle.arena.specs.Node.{Node}
use Rattle.arena.specs.Expression.{expression_at}
use Rattle.arena.specs.Arena.{add_expression}
use Rattle.shifting.specs.Shift.{moved, can_move, shifted}
use Rattle.arena.specs.Calls.{Outcome, answered}

-- shift an expression that is there: 10 where a column leaves 0..65,535, else the missing nodes of the shifted expression are added
unfoldable pub shifted_outcome : ℕ → ℤ → List Node → Outcome
shifted_outcome e offset ns =
    if can_move (moved offset) (expression_at ns e) then answered ns (add_expression (shifted (moved offset) (expression_at ns e)) ns) else (Err IndexOutOfRange, ns)

-- shift an expression by an offset
unfoldable pub add_offset : ℕ → ℤ → List Node → Outcome
add_offset e offset ns = if ltb e (length ns) then shifted_outcome e offset ns else (Err UnknownExpression, ns)
