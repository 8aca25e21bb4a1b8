-- What the answers on orderings, dependency maps, records and sessions come to for a caller in numbers: the number that is returned, and the places lent for the answer afterwards. `old` is what stood in them: a refusal leaves it.
use Rattle.std.specs.Prelude.{ℕ, Bool, true, false, List, [], ◌∷◌, eqb, ltb, length, if◌then◌else◌, Option, None, Some, Result}
use Rattle.arena.specs.declared.Refusal.{Refusal}
use Rattle.orderings.specs.declared.Ordering.{Ordering}
use Rattle.dependencies.specs.declared.Key.{Key}
use Rattle.dependency_orderings.specs.declared.Enumerated.{Enumerated}
use Rattle.records.specs.Chosen.{chosen_part, chosen_number}
use Rattle.records.specs.declared.Item.{Item}
use Rattle.records.specs.declared.Item.TheVariants.{Column, Literal, Operation, EqualPair, Constant, NormalFormOf, EqualityOf, OneOrdering}
use Rattle.states.specs.Cells.{told}
use Rattle.states.specs.Orders.{ordering_cells}

-- 1 for true, 0 for false
unfoldable pub bit : Bool → ℕ
bit true = 1
bit false = 0

-- a number that may be missing: 1 and the number, or 0 and 0
unfoldable pub maybe : Option ℕ → List ℕ
maybe (Some n) = 1 ∷ n ∷ []
maybe None = 0 ∷ 0 ∷ []

-- the first of two put into numbers; the second is what a call leaves in the other memory that it is lent
unfoldable pub on_first : {A B : Type 0} → (A → B) → A × List ℕ → B × List ℕ
on_first f o = (f o.0, o.1)

-- the options of an expression: 1 and these, or that there are none
unfoldable pub options_in : List ℕ → Result (Option ℕ) Refusal → ℕ × List ℕ
options_in old are = told maybe old are

-- whether an expression is partly constant
unfoldable pub partial_in : List ℕ → Result Bool Refusal → ℕ × List ℕ
partial_in old is = told (λ b. bit b ∷ []) old is

-- the joined ordering
unfoldable pub output_in : List ℕ → Result Ordering Refusal → ℕ × List ℕ
output_in old o = told ordering_cells old o

-- an enumeration: how many orderings, and how many places of the output they take
unfoldable pub enumerated_in : List ℕ → Result Enumerated Refusal → ℕ × List ℕ
enumerated_in old e = told (λ n. n.count ∷ n.used ∷ []) old e

-- a key that is given as two numbers: 4,294,967,295, which no expression has, stands for none
unfoldable pub given_from : ℕ → ℕ → Option Key
given_from e options = if eqb e 4294967295 then None else Some (record { expr = e; options = options })

-- the numbers of a record: its kind and up to three more
unfoldable pub item_numbers : Item → List ℕ
item_numbers (Column name index) = 1 ∷ name ∷ index ∷ 0 ∷ []
item_numbers (Literal value) = 2 ∷ value ∷ 0 ∷ 0 ∷ []
item_numbers (Operation label children) = 3 ∷ label ∷ children ∷ 0 ∷ []
item_numbers (EqualPair a b) = 4 ∷ a ∷ b ∷ 0 ∷ []
item_numbers (Constant e flavour value) = 5 ∷ e ∷ flavour ∷ value ∷ []
item_numbers (NormalFormOf e) = 6 ∷ e ∷ 0 ∷ 0 ∷ []
item_numbers (EqualityOf a b) = 7 ∷ a ∷ b ∷ 0 ∷ []
item_numbers (OneOrdering keys) = 8 ∷ keys ∷ 0 ∷ 0 ∷ []

-- a record that was read
unfoldable pub item_in : List ℕ → Result Item Refusal → ℕ × List ℕ
item_in old item = told item_numbers old item

-- the side that a join of kind 4 to 9 keeps
unfoldable pub side : ℕ → ℕ
side kind = if ltb kind 7 then 0 else 1

-- the chosen one of two group records: its side, and how many of its bytes, from the first on, are the part
unfoldable pub chosen_in : List ℕ → ℕ → List ℕ → List ℕ → ℕ × List ℕ
chosen_in old kind left right =
    if eqb (chosen_number kind left right) 0 then (0, side kind ∷ length (chosen_part kind left right) ∷ [])
    else (chosen_number kind left right, old)

-- a session: how many bytes were written
unfoldable pub written_in : List ℕ → Result ℕ Refusal → ℕ × List ℕ
written_in old written = told (λ n. n ∷ []) old written
