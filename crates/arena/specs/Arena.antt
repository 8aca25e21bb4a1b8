-- Which arenas are sound, and how nodes and expressions are added.
use Rattle.std.specs.Prelude.{ℕ, ◌<◌, ◌≤◌, List, [], ◌∷◌, ◌++◌, ◌≡◌, ltb, length, get_or, if◌then◌else◌, Option, None, Some}
use Rattle.laws.specs.Tests.{first}
use Rattle.arena.specs.Node.{Node, column, literal, operation, node_at, same_node}
use Rattle.arena.specs.Expression.{Expression, Expressions, col, lit, op, ∅, ◌▹◌, size}

-- a node may have the number i: a column's index has 16 bits, an operation has at most 8 children, and they are lower than i
unfoldable pub Allowed : ℕ → Node → Type 0
Allowed i (column name index) = index < 65536
Allowed i (literal value) = Unit {0}
Allowed i (operation label children) = (length children ≤ 8) × ((k : ℕ) → k < length children → get_or children k 0 < i)

-- an arena is sound: at most 1,024 nodes, each allowed at its number, no two equal
pub record Sound (ns : List Node) : Type 0 where
  pub few : length ns ≤ 1024
  pub allowed : (i : ℕ) → i < length ns → Allowed i (node_at ns i)
  pub distinct : (i j : ℕ) → i < j → j < length ns → node_at ns i ≡ node_at ns j → ⊥

-- an arena with nodes added at its end, or none
pub record Extends (ns ms : List Node) : Type 0 where
  pub more : List Node
  pub is : ms ≡ ns ++ more

unfoldable mutual
  -- an expression that an arena can hold: each index has 16 bits, each operation at most 8 children
  pub Small : Expression → Type 0
  Small (col name index) = index < 65536
  Small (lit v) = Unit {0}
  Small (op label children) = (size children ≤ 8) × AllSmall children

  -- each of them is such
  pub AllSmall : Expressions → Type 0
  AllSmall ∅ = Unit {0}
  AllSmall (e ▹ es) = Small e × AllSmall es

-- what adding comes to: an answer and the arena afterwards, or no room
pub data Placed (A : Type 0) : Type 0 where
  placed : A → List Node → Placed A
  full : Placed A

-- what was placed is handed on, and where there was no room there is none
unfoldable pub and_then : {A B : Type 0} → Placed A → (A → List Node → Placed B) → Placed B
and_then (placed a ns) f = f a ns
and_then full f = full

-- the number of the node that equals n
unfoldable pub find : Node → List Node → Option ℕ
find n ns = first (λ i. same_node n (node_at ns i)) (length ns)

-- found: the old number. Not found: the next number, if one is left
unfoldable pub placed_at : Option ℕ → Node → List Node → Placed ℕ
placed_at (Some i) n ns = placed i ns
placed_at None n ns = if ltb (length ns) 1024 then placed (length ns) (ns ++ (n ∷ [])) else full

-- a node is added: one that equals an old node answers the old number, also in a full arena
unfoldable pub add : Node → List Node → Placed ℕ
add n ns = placed_at (find n ns) n ns

unfoldable mutual
  -- the missing nodes of an expression are added, children before parents, left to right
  pub add_expression : Expression → List Node → Placed ℕ
  add_expression (col name index) ns = add (column name index) ns
  add_expression (lit v) ns = add (literal v) ns
  add_expression (op label children) ns = and_then (add_expressions children ns) (λ ks ms. add (operation label ks) ms)

  -- of each, one after the other
  pub add_expressions : Expressions → List Node → Placed (List ℕ)
  add_expressions ∅ ns = placed [] ns
  add_expressions (e ▹ es) ns = and_then (add_expression e ns) (λ k ms. and_then (add_expressions es ms) (λ ks os. placed (k ∷ ks) os))
