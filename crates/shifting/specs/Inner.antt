-- What the inner functions ask and promise each other. The public contract (Calls) cites nothing of this file.
use Rattle.std.specs.Prelude.{ℕ, ◌+◌, ◌-◌, ◌≤◌, true, ◌&&◌, List, ◌≡◌, ltb, leb, get_or, if◌then◌else◌, Option, None, Some}
use Rattle.arena.specs.Node.{operation, node_at}
use Rattle.arena.specs.Expression.{Expression, expression_at}
use Rattle.shifting.specs.Shift.{can_move, shifted}
use Rattle.arena.specs.Layout.{children_of, decode}
use Rattle.arena.specs.Inner.{Known, Memo, operation_row}

-- where an index moves, by a lift that is 65,535 more than the offset
unfoldable pub lifted : ℕ → ℕ → Option ℕ
lifted lift index = if leb 65535 (index + lift) && ltb (index + lift) 131071 then Some (index + lift - 65535) else None

-- the shift by a lift
abbrev pub shifted_by : ℕ → Expression → Expression
shifted_by lift e = shifted (lifted lift) e

-- what the shift asks at node e
pub record Ready (lift : ℕ) (s memo : List ℕ) (e : ℕ) : Type 0 where
  pub known : Known s e
  pub small : lift ≤ 200000
  pub moves : can_move (lifted lift) (expression_at (decode s) e) ≡ true
  pub memo_true : Memo (shifted_by lift) (decode s) memo

-- what the shift of the children of node e asks: node e is an operation, and r its row
pub record ReadyAll (lift : ℕ) (s memo r : List ℕ) (e : ℕ) : Type 0 where
  pub ready : Ready lift s memo e
  pub node : node_at (decode s) e ≡ operation (get_or r 1 0) (children_of r)
  pub row_is : r ≡ operation_row r (children_of r)
