-- What each question answers, over the nodes and the classes of a lent group, with its number and its values.
use Rattle.std.specs.Prelude.{ℕ, Bool, true, false, ◌&&◌, List, [], ◌∷◌, ltb, length, if◌then◌else◌, Result, Ok, Err}
use Rattle.arena.specs.Node.{Node}
use Rattle.arena.specs.Refusals.{number_of}
use Rattle.arena.specs.declared.Refusal.{Refusal}
use Rattle.arena.specs.declared.Refusal.TheVariants.{UnknownExpression}
use Rattle.classes.specs.Class.{Class}
use Rattle.classes.specs.declared.Constant.{Constant}
use Rattle.classes.specs.Layout.{flavour_of, value_of}
use Rattle.questions.specs.Questions.{exprs_equal, expr_constant}

-- what the equality question answers
abbrev pub Answer : Type 0
Answer = Result Bool Refusal

-- what the constant question answers
abbrev pub ConstantIs : Type 0
ConstantIs = Result Constant Refusal

-- the equality question of two expressions: 1 where one is unknown
unfoldable pub equal_answer : ℕ → ℕ → List Node → List Class → Answer
equal_answer a b ns cs = if ltb a (length ns) && ltb b (length ns) then Ok (exprs_equal ns cs a b) else Err UnknownExpression

-- the constant question of an expression
unfoldable pub constant_answer : ℕ → List Node → List Class → ConstantIs
constant_answer e ns cs = if ltb e (length ns) then Ok (expr_constant ns cs e) else Err UnknownExpression

-- document 01's number of each answer: 0 is done
abbrev pub answer_number : Answer → ℕ
answer_number answer = number_of answer

-- of the constant question
abbrev pub constant_is_number : ConstantIs → ℕ
constant_is_number answer = number_of answer

-- the values of each answer: 1 for yes and 0 for no, a constant's flavour and value; a refusal has none
abbrev pub answer_values : Answer → List ℕ
answer_values (Ok true) = 1 ∷ []
answer_values (Ok false) = 0 ∷ []
answer_values (Err e) = []

-- of the constant question
abbrev pub constant_is_values : ConstantIs → List ℕ
constant_is_values (Ok c) = flavour_of c ∷ value_of c ∷ []
constant_is_values (Err e) = []
