-- What the functions ask and promise. The public contracts cite nothing of this file.
-- For a node that was there before the walk the table says 0: it has no projection; 1: its projection is an operation over those of its children, not made yet; i + 2: its projection is expression i.
use Rattle.std.specs.Prelude.{ℕ, zero, suc, ◌+◌, ◌<◌, List, ◌≡◌, length, get_or, Option, None, Some}
use Rattle.arena.specs.Node.{Node, node_at}
use Rattle.arena.specs.Expression.{Expression, expression_at}
use Rattle.projection_table.specs.Projecting.{by_children}

-- what becomes of a whole expression, as an entry of the table; 0 where nothing does
unfoldable pub entry_of : Option ℕ → ℕ
entry_of None = 0
entry_of (Some i) = i + 2

-- what an entry says of node e is true: os are the nodes that were there before the walk and xs their projections, ns the nodes as they have grown
unfoldable pub Says : List Node → List (Option Expression) → List Node → ℕ → ℕ → Type 0
Says os xs ns e zero = get_or xs e None ≡ None
Says os xs ns e (suc zero) = (x : Expression) × ((get_or xs e None ≡ Some x) × (by_children xs (node_at os e) ≡ Some x))
Says os xs ns e (suc (suc i)) = (i < length ns) × (get_or xs e None ≡ Some (expression_at ns i))

-- what the table says of each old node is true
abbrev pub Tabled : List Node → List (Option Expression) → List Node → List ℕ → Type 0
Tabled os xs ns table = (e : ℕ) → e < length os → Says os xs ns e (get_or table e 0)
