-- What each call that joins the orderings of lists or shifts them answers, over the lent cells and the struct, in document 01's order of refusals.
-- A refusal is a case that hands back what came in.
use Rattle.std.specs.Prelude.{ℕ, List, eqb, leb, length, ℤ, if◌then◌else◌, Result, Ok, Err}
use Rattle.arena.specs.Node.{Node}
use Rattle.arena.specs.Arena.{Placed, placed, full}
use Rattle.shifting.specs.Shift.{moved}
use Rattle.arena.specs.Layout.{decode as nodes}
use Rattle.arena.specs.Calls.{in_cells}
use Rattle.orderings.specs.Lists.{output_ordering, join_suffix}
use Rattle.ordering_joins.specs.Offset.{lists_move, shifted_lists}
use Rattle.orderings.specs.Layout.{row, encode, decode}
use Rattle.orderings.specs.declared.Orderings.{Orderings}
use Rattle.orderings.specs.declared.Listed.{Listed}
use Rattle.orderings.specs.declared.Ordering.{Ordering}
use Rattle.arena.specs.declared.Refusal.{Refusal}
use Rattle.arena.specs.declared.Refusal.TheVariants.{ArenaFull, IndexOutOfRange, TooLarge}
use Rattle.arena.specs.Refusals.{refusal}
use Rattle.orderings.specs.Calls.{list_number, ask_list, two_number, listed}

-- the joined ordering as an answer: 5 where it has more than 16 keys
unfoldable pub output_of : List ℕ → Result Ordering Refusal
output_of o = if leb (length o) 16 then Ok (row o) else Err TooLarge

-- the call on lent cells and a lent list
abbrev pub output_answer : List ℕ → Orderings → Result Ordering Refusal
output_answer cells g = ask_list (λ k. Err (refusal k)) (λ os. output_of (output_ordering os)) cells g

-- joining with another list
unfoldable pub join_answer : List ℕ → Orderings → Orderings → Listed
join_answer cells g h =
    if eqb (two_number cells g h) 0 then listed g (join_suffix (decode g) (decode h))
    else record { done = Err (refusal (two_number cells g h)); list = g }

-- a shifted list and the arena afterwards: 3 where the missing nodes don't fit, and then list and arena are as they were
unfoldable pub offset_by : Orderings → List Node → Placed (List (List ℕ)) → Listed × List Node
offset_by g ns (placed os ms) = (record { done = Ok tt; list = encode os }, ms)
offset_by g ns full = (record { done = Err ArenaFull; list = g }, ns)

-- a list shifted by an offset: 10 where a column leaves 0..65,535
unfoldable pub offset_list : ℤ → Orderings → List Node → Listed × List Node
offset_list offset g ns =
    if lists_move (moved offset) ns (decode g) then offset_by g ns (shifted_lists (moved offset) ns (decode g) ns)
    else (record { done = Err IndexOutOfRange; list = g }, ns)

-- the call on lent cells and a lent list
unfoldable pub offset_answer : ℤ → List ℕ → Orderings → Listed × List ℕ
offset_answer offset cells g =
    if eqb (list_number cells g) 0 then in_cells (offset_list offset g (nodes cells))
    else (record { done = Err (refusal (list_number cells g)); list = g }, cells)
