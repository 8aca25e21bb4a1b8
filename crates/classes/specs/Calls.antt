-- The check of a lent group, and what a call does with one, over the lent cells and the struct, in document 01's order of refusals.
use Rattle.std.specs.Prelude.{ℕ, Bool, ◌&&◌, List, [], eqb, if◌then◌else◌, Result, Ok, Err}
use Rattle.arena.specs.declared.Refusal.{Refusal}
use Rattle.arena.specs.Refusals.{refusal, number_of}
use Rattle.arena.specs.Node.{Node}
use Rattle.arena.specs.Layout.{lawful, decode as nodes}
use Rattle.classes.specs.Class.{Class}
use Rattle.classes.specs.Steps.{Outcome}
use Rattle.classes.specs.Layout.{encode, decode, in_set, lawful_group, members_inside}
use Rattle.classes.specs.declared.Group.{Group}
use Rattle.classes.specs.declared.Changed.{Changed}

-- the check of a lent group over a lent arena: 12, then 11 for the arena or the group, then 1, else 0
unfoldable pub group_number : List ℕ → Group → ℕ
group_number cells g =
    if in_set g then
    (if lawful cells && lawful_group (nodes cells) g then
    (if members_inside (nodes cells) g then 0 else 1)
    else 11)
    else 12

-- no group, beside a refusal of a call that makes one
unfoldable pub no_group : ℕ → Changed
no_group k = record { answer = Err (refusal k); group = encode 0 [] }

-- the answer of an outcome, or why it is refused
unfoldable pub answer_of : Outcome → Result Bool Refusal
answer_of o = if eqb o.number 0 then Ok o.answer else Err (refusal o.number)

-- an outcome as the struct that is handed back
unfoldable pub changed : ℕ → Outcome → Changed
changed limit o = record { answer = answer_of o; group = encode limit o.classes }

-- a call that changes a lent group: its refusal and the group as it was, or its outcome
unfoldable pub on_group : (List Node → List Class → Outcome) → List ℕ → Group → Changed
on_group call cells g =
    if eqb (group_number cells g) 0 then changed g.limit (call (nodes cells) (decode g))
    else record { answer = Err (refusal (group_number cells g)); group = g }

-- a call that only asks: its refusal, or its answer on the arena's nodes and the classes
unfoldable pub ask_group : {A : Type 0} → (ℕ → A) → (List Node → List Class → A) → List ℕ → Group → A
ask_group refused_by call cells g = if eqb (group_number cells g) 0 then call (nodes cells) (decode g) else refused_by (group_number cells g)

-- document 01's number of what a call that changes a group answers: 0 is done
abbrev pub changed_number : Changed → ℕ
changed_number r = number_of r.answer
