-- Values of expressions are kept when the arena grows.
use Prim.Native.Nat.{ℕ, ◌<◌}
use mathlib.Core.List.{List}
use mathlib.Core.Path.{◌≡◌, ap}
use lib.ListN.{length}
use Rattle.arena.specs.Node.{Node}
use Rattle.arena.specs.Expression.{Expression, expression_at}
use Rattle.arena.specs.Value.{Row, Meaning, value}
use Rattle.arena.specs.Arena.{Extends}
use Rattle.arena.proofs.Trees.{expression-kept}

-- old numbers keep their values when an arena grows
pub value-kept : {A : Type 0} {ns ms : List Node} → Extends ns ms → (i : ℕ) → i < length ns → (m : Meaning A) (row : Row A) → value (expression_at ms i) m row ≡ value (expression_at ns i) m row
value-kept x i l m row = ap (λ (e : Expression). value e m row) (expression-kept x i l)
