-- Shifting an expression by a signed offset: names stay, every column's index moves.
use Rattle.std.specs.Prelude.{ℕ, Bool, true, ◌&&◌, ltb, ℤ, pos, negsuc, ◌+ℤ◌, if◌then◌else◌, Option, None, Some, is_some}
use Rattle.std.specs.Prelude.{unwrap_or}
use Rattle.arena.specs.Expression.{Expression, Expressions, col, lit, op, ∅, ◌▹◌}

-- a whole number as a column's index, if it lies in 0..65,535
unfoldable pub within : ℤ → Option ℕ
within (pos n) = if ltb n 65536 then Some n else None
within (negsuc n) = None

-- where an offset moves an index
unfoldable pub moved : ℤ → ℕ → Option ℕ
moved offset index = within (pos index +ℤ offset)

unfoldable mutual
  -- every column of an expression can move
  pub can_move : (ℕ → Option ℕ) → Expression → Bool
  can_move to (col name index) = is_some (to index)
  can_move to (lit v) = true
  can_move to (op label children) = all_move to children

  -- every column of each of them can move
  pub all_move : (ℕ → Option ℕ) → Expressions → Bool
  all_move to ∅ = true
  all_move to (e ▹ es) = can_move to e && all_move to es

unfoldable mutual
  -- the expression with every column moved, where it can
  pub shifted : (ℕ → Option ℕ) → Expression → Expression
  shifted to (col name index) = col name (unwrap_or (to index) index)
  shifted to (lit v) = lit v
  shifted to (op label children) = op label (all_shifted to children)

  -- each of them shifted
  pub all_shifted : (ℕ → Option ℕ) → Expressions → Expressions
  all_shifted to ∅ = ∅
  all_shifted to (e ▹ es) = shifted to e ▹ all_shifted to es
