-- What the answers on nodes, groups, normal forms and projections come to for a caller in numbers: the number that is returned, and the places lent for the answer afterwards. `old` is what stood in them: a refusal leaves it.
use Rattle.std.specs.Prelude.{ℕ, Bool, List, [], ◌∷◌, Option, None, Some, Result}
use Rattle.arena.specs.declared.Refusal.{Refusal}
use Rattle.arena.specs.declared.Read.{Read}
use Rattle.arena.specs.declared.Read.TheVariants.{Column, Literal, Operation}
use Rattle.arena.specs.Refusals.{Added}
use Rattle.classes.specs.declared.Changed.{Changed}
use Rattle.classes.specs.declared.Constant.{Constant}
use Rattle.classes.specs.Layout.{flavour_of, value_of}
use Rattle.group_checks.specs.declared.ClassIs.{ClassIs}
use Rattle.sort_keys.specs.declared.SortKey.{SortKey}
use Rattle.sort_keys.specs.declared.Sorted.{Sorted}
use Rattle.states.specs.Cells.{told}
use Rattle.group_states.specs.Groups.{stored_group}
use Rattle.answers.specs.Answers.{bit, maybe}

-- an addition: the node's number
unfoldable pub added_in : List ℕ → Added → ℕ × List ℕ
added_in old added = told (λ i. i ∷ []) old added

-- the numbers of a node: 1 and a column's name and index, 2 and a literal's value, 3 and an operation's label and how many children it has
unfoldable pub node_numbers : Read → List ℕ
node_numbers (Column name index) = 1 ∷ name ∷ index ∷ []
node_numbers (Literal value) = 2 ∷ value ∷ 0 ∷ []
node_numbers (Operation label children) = 3 ∷ label ∷ children ∷ []

-- a node that was read
unfoldable pub read_in : List ℕ → Result Read Refusal → ℕ × List ℕ
read_in old read = told node_numbers old read

-- a child that was read: 1 and its number, or that there is none
unfoldable pub child_in : List ℕ → Result (Option ℕ) Refusal → ℕ × List ℕ
child_in old child = told maybe old child

-- the numbers of a class: 1, its place, its size, its first member, its constant; or that there is none
unfoldable pub class_numbers : Option ClassIs → List ℕ
class_numbers (Some c) = 1 ∷ c.place ∷ c.size ∷ c.first ∷ flavour_of c.constant ∷ value_of c.constant ∷ []
class_numbers None = 0 ∷ 0 ∷ 0 ∷ 0 ∷ 0 ∷ 0 ∷ []

-- the class of an expression
unfoldable pub class_in : List ℕ → Result (Option ClassIs) Refusal → ℕ × List ℕ
class_in old is = told class_numbers old is

-- a call that changes a group and answers yes or no: the group in its cells, too
unfoldable pub changed_in : List ℕ → List ℕ → Changed → (ℕ × List ℕ) × List ℕ
changed_in old cells c = (told (λ b. bit b ∷ []) old c.answer, (stored_group cells c).1)

-- the equality question
unfoldable pub answer_in : List ℕ → Result Bool Refusal → ℕ × List ℕ
answer_in old said = told (λ b. bit b ∷ []) old said

-- the constant question: flavour and value
unfoldable pub constant_in : List ℕ → Result Constant Refusal → ℕ × List ℕ
constant_in old is = told (λ c. flavour_of c ∷ value_of c ∷ []) old is

-- the normal form of a sort key: expression and options
unfoldable pub key_in : List ℕ → Result SortKey Refusal → ℕ × List ℕ
key_in old key = told (λ k. k.expr ∷ k.options ∷ []) old key

-- the normal forms of sort keys: how many, and the keys
unfoldable pub sorted_in : List ℕ → Result Sorted Refusal → ℕ × List ℕ
sorted_in old sorted = told (λ s. s.size ∷ s.keys) old sorted

-- the projection of an expression: 1 and its number, or that there is none
unfoldable pub projected_in : List ℕ → Result (Option ℕ) Refusal → ℕ × List ℕ
projected_in old projected = told maybe old projected
