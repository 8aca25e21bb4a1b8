-- The two questions of a lent group, by their tests.
use Prim.Native.Nat.{ℕ, ◌<◌, ◌≤◌}
use mathlib.Core.Bool.{true, false, and-false}
use mathlib.Core.List.{List}
use mathlib.Core.Path.{◌≡◌}
use borrow.Author.Tests.{lt-ltb, le-ltb}
use lib.ListN.{length}
use Rattle.arena.specs.Node.{Node}
use Rattle.classes.specs.Class.{Class}
use Rattle.questions.specs.Questions.{exprs_equal, expr_constant}
use Rattle.questions.specs.Calls.{equal_answer, constant_answer}
use Rattle.std.specs.Prelude.{Ok, Err}
use Rattle.arena.specs.declared.Refusal.TheVariants.{UnknownExpression}

-- the equality question, by its tests
module _ (ns : List Node) (cs : List Class) (a b : ℕ) where
  pub equal-left : length ns ≤ a → equal_answer a b ns cs ≡ Err UnknownExpression
  unfolding equal_answer
  equal-left l = rw (le-ltb _ _ l)

  pub equal-right : length ns ≤ b → equal_answer a b ns cs ≡ Err UnknownExpression
  unfolding equal_answer
  equal-right l = rw (le-ltb _ _ l, and-false)

  pub equal-known : a < length ns → b < length ns → equal_answer a b ns cs ≡ Ok (exprs_equal ns cs a b)
  unfolding equal_answer
  equal-known l m = rw (lt-ltb _ _ l, lt-ltb _ _ m)

  pub equal_yes : a < length ns → b < length ns → exprs_equal ns cs a b ≡ true → equal_answer a b ns cs ≡ Ok true
  unfolding equal_answer
  equal_yes l m e = rw (lt-ltb _ _ l, lt-ltb _ _ m, e)

  pub equal_no : a < length ns → b < length ns → exprs_equal ns cs a b ≡ false → equal_answer a b ns cs ≡ Ok false
  unfolding equal_answer
  equal_no l m e = rw (lt-ltb _ _ l, lt-ltb _ _ m, e)

-- the constant question, by its test
module _ (ns : List Node) (cs : List Class) (e : ℕ) where
  pub constant-unknown : length ns ≤ e → constant_answer e ns cs ≡ Err UnknownExpression
  unfolding constant_answer
  constant-unknown l = rw (le-ltb _ _ l)

  pub constant-known : e < length ns → constant_answer e ns cs ≡ Ok (expr_constant ns cs e)
  unfolding constant_answer
  constant-known l = rw (lt-ltb _ _ l)
