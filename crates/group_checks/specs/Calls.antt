-- What opening a group answers, and the question for the class of an expression. The check's definition is `group_number`, Calls of the crate classes.
use Rattle.std.specs.Prelude.{ℕ, true, ◌&&◌, List, [], ◌∷◌, ltb, leb, length, get_or, if◌then◌else◌, Option, None, Some, Result, Ok, Err}
use Rattle.arena.specs.declared.Refusal.{Refusal}
use Rattle.arena.specs.declared.Refusal.TheVariants.{BadNumber, UnknownExpression}
use Rattle.arena.specs.Refusals.{number_of}
use Rattle.arena.specs.Node.{Node}
use Rattle.classes.specs.Class.{Class}
use Rattle.classes.specs.Group.{class_at, class_of}
use Rattle.classes.specs.Layout.{encode, flavour_of, value_of}
use Rattle.classes.specs.declared.Changed.{Changed}
use Rattle.group_checks.specs.declared.ClassIs.{ClassIs}

-- a group with its limit, or the refusal of a limit that is not from 1 to 256
unfoldable pub opened : ℕ → Changed
opened limit =
    if ltb 0 limit && leb limit 256 then record { answer = Ok true; group = encode limit [] }
    else record { answer = Err BadNumber; group = encode 0 [] }

-- what the question for a class answers
abbrev pub Answer : Type 0
Answer = Result (Option ClassIs) Refusal

-- the class at a place: how many members it has, the first of them, and its constant; or that there is none
unfoldable pub class_is : List Class → Option ℕ → Option ClassIs
class_is cs None = None
class_is cs (Some i) = Some (record { place = i; size = length (class_at cs i).members; first = get_or (class_at cs i).members 0 0; constant = (class_at cs i).constant })

-- the class of an expression
unfoldable pub class_answer : ℕ → List Node → List Class → Answer
class_answer e ns cs = if ltb e (length ns) then Ok (class_is cs (class_of cs e)) else Err UnknownExpression

-- document 01's number of the answer: 0 is done. The number of a call that changes a group stands in what it hands back
abbrev pub class_is_number : Answer → ℕ
class_is_number answer = number_of answer

-- the values of the answer: a class's numbers in their order; a refusal has none
abbrev pub class_is_values : Answer → List ℕ
class_is_values (Ok (Some c)) = c.place ∷ c.size ∷ c.first ∷ flavour_of c.constant ∷ value_of c.constant ∷ []
class_is_values (Ok None) = []
class_is_values (Err e) = []
