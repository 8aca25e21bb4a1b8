-- Why a call is refused, and the number that document 01's table gives it.
use Rattle.std.specs.Prelude.{ℕ, eqb, if◌then◌else◌, Result, Ok, Err}
use Rattle.arena.specs.declared.Refusal.{Refusal}
use Rattle.arena.specs.declared.Refusal.TheVariants.{UnknownExpression, TooManyChildren, ArenaFull, GroupFull, TooLarge, UnknownKey, NoTarget, OutputShort, Malformed, IndexOutOfRange, BadState, BadNumber}

-- the number of a refusal
abbrev pub refusal_number : Refusal → ℕ
refusal_number UnknownExpression = 1
refusal_number TooManyChildren = 2
refusal_number ArenaFull = 3
refusal_number GroupFull = 4
refusal_number TooLarge = 5
refusal_number UnknownKey = 6
refusal_number NoTarget = 7
refusal_number OutputShort = 8
refusal_number Malformed = 9
refusal_number IndexOutOfRange = 10
refusal_number BadState = 11
refusal_number BadNumber = 12

-- the refusal with a number of the table
unfoldable pub refusal : ℕ → Refusal
refusal k =
    if eqb k 1 then UnknownExpression else
    (if eqb k 2 then TooManyChildren else
    (if eqb k 3 then ArenaFull else
    (if eqb k 4 then GroupFull else
    (if eqb k 5 then TooLarge else
    (if eqb k 6 then UnknownKey else
    (if eqb k 7 then NoTarget else
    (if eqb k 8 then OutputShort else
    (if eqb k 9 then Malformed else
    (if eqb k 10 then IndexOutOfRange else
    (if eqb k 11 then BadState else BadNumber))))))))))

-- what a check comes to, by its number: 0 is done
unfoldable pub outcome : ℕ → Result (Unit {0}) Refusal
outcome k = if eqb k 0 then Ok tt else Err (refusal k)

-- the number of an answer: 0 is done
abbrev pub number_of : {A : Type 0} → Result A Refusal → ℕ
number_of (Ok a) = 0
number_of (Err e) = refusal_number e

-- what an addition answers: the number of the node, or why there is none
abbrev pub Added : Type 0
Added = Result ℕ Refusal
