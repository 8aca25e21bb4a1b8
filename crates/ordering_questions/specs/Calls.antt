-- What each question answers, over the orderings of a lent list that passes the check, in document 01's order of refusals.
use Rattle.std.specs.Prelude.{ℕ, Bool, List, ltb, if◌then◌else◌, Option, Result, Ok, Err}
use Rattle.arena.specs.declared.Refusal.{Refusal}
use Rattle.arena.specs.declared.Refusal.TheVariants.{UnknownExpression}
use Rattle.arena.specs.Refusals.{number_of}
use Rattle.ordering_questions.specs.Questions.{get_options, partial_const}

-- the options of an expression that leads an ordering: 1 where it is unknown
unfoldable pub options_answer : ℕ → ℕ → List (List ℕ) → Result (Option ℕ) Refusal
options_answer n e os = if ltb e n then Ok (get_options os e) else Err UnknownExpression

-- whether an expression is partly constant: 1 where it is unknown
unfoldable pub partial_answer : ℕ → ℕ → List (List ℕ) → Result Bool Refusal
partial_answer n e os = if ltb e n then Ok (partial_const os e) else Err UnknownExpression

-- document 01's number of each answer: 0 is done
abbrev pub options_number : Result (Option ℕ) Refusal → ℕ
options_number answer = number_of answer

-- of the question whether an expression is partly constant
abbrev pub partial_number : Result Bool Refusal → ℕ
partial_number answer = number_of answer
