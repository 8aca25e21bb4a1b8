-- What a call returns is the number of its answer: for an answer in numbers, for a state in its cells, and for a call that gives both.
use Rattle.std.specs.Prelude.{Result, Ok, Err}
use Prim.Native.Nat.{ℕ}
use mathlib.Core.List.{List}
use Rattle.arena.specs.declared.Refusal.{Refusal}
use Rattle.arena.specs.Refusals.{number_of}
use Rattle.classes.specs.Calls.{changed_number}
use Rattle.classes.specs.declared.Changed.{Changed}
use Rattle.states.specs.Cells.{told}
use Rattle.group_answers.specs.Answers.{changed_in}
use Rattle.promises.proofs.Numbers.{OneOf}

-- the number that is returned beside what is lent
abbrev pub Returned : List ℕ → ℕ × List ℕ → Type 0
Returned numbers r = OneOf numbers r.0

-- an answer in the places that are lent for it
pub told_number : {A : Type 0} {numbers : List ℕ} (f : A → List ℕ) (old : List ℕ) (r : Result A Refusal) → OneOf numbers (number_of r) → Returned numbers (told f old r)
unfolding told
told_number f old (Ok a) o = o
told_number f old (Err why) o = o

-- a call that changes a group: the answer's place and the group's cells
pub changed_in_lem : {numbers : List ℕ} (old cells : List ℕ) (c : Changed) → OneOf numbers (changed_number c) → OneOf numbers (changed_in old cells c).0.0
unfolding changed_in
changed_in_lem old cells c o = told_number _ old c.answer o
