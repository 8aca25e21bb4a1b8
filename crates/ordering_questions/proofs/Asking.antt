-- The two questions: the answer of an expression that is unknown, and of one that is known.
use Rattle.std.specs.Prelude.{Ok, Err}
use Prim.Native.Nat.{ℕ, ◌<◌, ◌≤◌}
use mathlib.Core.List.{List}
use mathlib.Core.Path.{◌≡◌}
use borrow.Author.Tests.{lt-ltb, le-ltb}
use Rattle.arena.specs.declared.Refusal.TheVariants.{UnknownExpression}
use Rattle.ordering_questions.specs.Questions.{get_options, partial_const}
use Rattle.ordering_questions.specs.Calls.{options_answer, partial_answer}

-- the two questions, of an expression that is unknown and of one that is known
module _ (n e : ℕ) (os : List (List ℕ)) where
  pub options-unknown : n ≤ e → options_answer n e os ≡ Err UnknownExpression
  unfolding options_answer
  options-unknown l = rw (le-ltb e n l)

  pub options-known : e < n → options_answer n e os ≡ Ok (get_options os e)
  unfolding options_answer
  options-known l = rw (lt-ltb e n l)

  pub partial_unknown : n ≤ e → partial_answer n e os ≡ Err UnknownExpression
  unfolding partial_answer
  partial_unknown l = rw (le-ltb e n l)

  pub partial-known : e < n → partial_answer n e os ≡ Ok (partial_const os e)
  unfolding partial_answer
  partial-known l = rw (lt-ltb e n l)
