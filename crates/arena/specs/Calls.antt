-- What each public call answers and what it leaves in the arena, in document 01's order of refusals.
-- A refusal is a case that hands back what came in.
use Rattle.arena.specs.declared.Read.TheVariants.{Column, Literal, Operation}
use Rattle.arena.specs.declared.Read.{Read}
use Rattle.arena.specs.declared.Refusal.{Refusal}
use Rattle.arena.specs.declared.Refusal.TheVariants.{ArenaFull, BadState, TooManyChildren, UnknownExpression}
use Rattle.arena.specs.Refusals.{Added, number_of}
use Rattle.std.specs.Prelude.{ℕ, List, ltb, leb, length, get_or, if◌then◌else◌, Option, None, Some, Result, Ok, Err}
use Rattle.laws.specs.Tests.{each}
use Rattle.arena.specs.Node.{Node, column, literal, operation, node_at, child_numbers}
use Rattle.arena.specs.Arena.{Placed, placed, full, add}
use Rattle.arena.specs.Layout.{encode, decode, lawful}

-- what a call that changes an arena comes to: its answer, and the arena afterwards
abbrev pub Outcome : Type 0
Outcome = Added × List Node

-- where there was no room, the refusal is 3 and the arena is as it was
unfoldable pub answered : List Node → Placed ℕ → Outcome
answered ns (placed i ms) = (Ok i, ms)
answered ns full = (Err ArenaFull, ns)

-- add a column
unfoldable pub add_column : ℕ → ℕ → List Node → Outcome
add_column name index ns = answered ns (add (column name index) ns)

-- add a literal
unfoldable pub add_literal : ℕ → List Node → Outcome
add_literal value ns = answered ns (add (literal value) ns)

-- add an operation: 1 where a child is unknown, 2 where there are more than 8 children
unfoldable pub add_operation : ℕ → List ℕ → List Node → Outcome
add_operation label children ns =
    if each (λ k. ltb (get_or children k 0) (length ns)) (length children) then
    (if leb (length children) 8 then answered ns (add (operation label children) ns) else (Err TooManyChildren, ns))
    else (Err UnknownExpression, ns)

-- a node as it is read
unfoldable pub read_of : Node → Read
read_of (column name index) = Column name index
read_of (literal value) = Literal value
read_of (operation label children) = Operation label (length children)

-- read the node with a number: 1 where it is unknown
unfoldable pub read_node : ℕ → List Node → Result Read Refusal
read_node e ns = if ltb e (length ns) then Ok (read_of (node_at ns e)) else Err UnknownExpression

-- read a child of a node; a place that the node doesn't have is no refusal, and the answer says that there is none
unfoldable pub read_child : ℕ → ℕ → List Node → Result (Option ℕ) Refusal
read_child e k ns =
    if ltb e (length ns) then
    (if ltb k (length (child_numbers (node_at ns e))) then Ok (Some (get_or (child_numbers (node_at ns e)) k 0)) else Ok None)
    else Err UnknownExpression

-- a call on lent cells: where they are no arena, the refusal; else the call on the arena in them
unfoldable pub on_lent : {A : Type 0} → A → (List Node → A) → List ℕ → A
on_lent refused call cells = if lawful cells then call (decode cells) else refused

-- an answer and the arena afterwards, laid out in cells
unfoldable pub in_cells : {A : Type 0} → A × List Node → A × List ℕ
in_cells o = (o.0, encode o.1)

-- a call that changes the arena in lent cells: 11 and the cells as they were, or its outcome
abbrev pub lent : (List Node → Outcome) → List ℕ → Added × List ℕ
lent call cells = on_lent (Err BadState, cells) (λ ns. in_cells (call ns)) cells

-- the check alone: 0 or 11
abbrev pub checked : List ℕ → ℕ
checked cells = on_lent 11 (λ ns. 0) cells

-- document 01's number of each answer, 0 is done: of a call that adds
abbrev pub added_number : Added → ℕ
added_number answer = number_of answer

-- the same of a node that was read
abbrev pub read_number : Result Read Refusal → ℕ
read_number answer = number_of answer

-- and of a child that was read
abbrev pub child_number : Result (Option ℕ) Refusal → ℕ
child_number answer = number_of answer
