-- A node, as document 01 has it ("Expressions"): a column with a name number and an index, a literal with a value number, or an operation with a label and the numbers of its children.
-- An arena is a list of nodes. A node's place in the list, counted from 0, is its number.
use Rattle.std.specs.Prelude.{ℕ, Bool, false, ◌&&◌, List, [], ◌∷◌, ◌++◌, eqb, length, get_or}
use Rattle.laws.specs.Lists.{same_numbers}

-- a node; document 01's three kinds
pub data Node : Type 0 where
  column : (name index : ℕ) → Node
  literal : (value : ℕ) → Node
  operation : (label : ℕ) (children : List ℕ) → Node

-- the node with a number; past the end, which no call asks for, a literal
abbrev pub node_at : List Node → ℕ → Node
node_at ns i = get_or ns i (literal 0)

-- the numbers of a node's children; a leaf has none
unfoldable pub child_numbers : Node → List ℕ
child_numbers (column name index) = []
child_numbers (literal value) = []
child_numbers (operation label children) = children

-- two nodes are equal: the same kind, the same numbers, the same children in the same order
unfoldable pub same_node : Node → Node → Bool
same_node (column a x) (column b y) = eqb a b && eqb x y
same_node (column a x) (literal w) = false
same_node (column a x) (operation m ks) = false
same_node (literal v) (column b y) = false
same_node (literal v) (literal w) = eqb v w
same_node (literal v) (operation m ks) = false
same_node (operation l js) (column b y) = false
same_node (operation l js) (literal w) = false
same_node (operation l js) (operation m ks) = eqb l m && same_numbers js ks

-- xs, and after them what a rule makes of the nodes ns, each from all that stands before it and the node's number
unfoldable pub made_after : {A : Type 0} → (List A → ℕ → Node → A) → List A → List Node → List A
made_after rule xs [] = xs
made_after rule xs (n ∷ ns) = made_after rule (xs ++ (rule xs (length xs) n ∷ [])) ns

-- what a rule makes of each node of an arena, by number, from what it makes of the nodes before it
unfoldable pub made : {A : Type 0} → (List A → ℕ → Node → A) → List Node → List A
made rule ns = made_after rule [] ns
