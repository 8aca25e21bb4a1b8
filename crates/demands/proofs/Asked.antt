-- The number of each question's answer: the check's, else 1 where an expression is unknown, else 0.
use Rattle.std.specs.Prelude.{if◌then◌else◌, Ok, Err}
use Prim.Native.Nat.{ℕ}
use mathlib.Core.Bool.{Bool, true, false, ◌&&◌}
use mathlib.Core.List.{List}
use mathlib.Core.Path.{◌≡◌, refl}
use lib.Dec.{eqb, ltb}
use lib.ListN.{length}
use Rattle.arena.specs.declared.Refusal.TheVariants.{UnknownExpression}
use Rattle.arena.specs.Refusals.{refusal, number_of}
use Rattle.arena.proofs.Refusals.{Listed, refused-number}
use Rattle.group_checks.proofs.Calling.{group-listed}
use Rattle.arena.specs.Layout.{decode as nodes}
use Rattle.classes.specs.Group.{class_of}
use Rattle.classes.specs.Layout.{decode}
use Rattle.classes.specs.Calls.{group_number, ask_group}
use Rattle.group_checks.specs.Calls.{class_is, class_answer, class_is_number}
use Rattle.classes.specs.declared.Group.{Group}
use Rattle.questions.specs.Questions.{exprs_equal, expr_constant}
use Rattle.questions.specs.Calls.{equal_answer, constant_answer, answer_number, constant_is_number}

-- the number of an answer that the check's number, or a test, decides
by_tests : {A : Type 0} (k : ℕ) (a : A) (known : Bool) → Listed k
    → number_of (if eqb k 0 then (if known then Ok a else Err UnknownExpression) else Err (refusal k)) ≡ (if eqb k 0 then (if known then 0 else 1) else k)
by_tests k a known l = go (eqb k 0) refl known
  where
    go : (p : Bool) → eqb k 0 ≡ p → (q : Bool) → number_of (if p then (if q then Ok a else Err UnknownExpression) else Err (refusal k)) ≡ (if p then (if q then 0 else 1) else k)
    go true e true = refl
    go true e false = refl
    go false e q = refused-number k l e

module _ (cells : List ℕ) (g : Group) where
  -- the check's number, or the one that the test for known expressions gives
  abbrev pub asked_number : Bool → ℕ
  asked_number known = if eqb (group_number cells g) 0 then (if known then 0 else 1) else group_number cells g

  -- an expression is below the node count
  abbrev pub in_arena : ℕ → Bool
  in_arena e = ltb e (length (nodes cells))

  pub equal-number : (a b : ℕ) → answer_number (ask_group (λ k. Err (refusal k)) (equal_answer a b) cells g) ≡ asked_number (in_arena a && in_arena b)
  unfolding ask_group equal_answer
  equal-number a b = by_tests (group_number cells g) (exprs_equal (nodes cells) (decode g) a b) (in_arena a && in_arena b) (group-listed cells g)

  pub constant_number : (e : ℕ) → constant_is_number (ask_group (λ k. Err (refusal k)) (constant_answer e) cells g) ≡ asked_number (in_arena e)
  unfolding ask_group constant_answer
  constant_number e = by_tests (group_number cells g) (expr_constant (nodes cells) (decode g) e) (in_arena e) (group-listed cells g)

  pub class-number : (e : ℕ) → class_is_number (ask_group (λ k. Err (refusal k)) (class_answer e) cells g) ≡ asked_number (in_arena e)
  unfolding ask_group class_answer
  class-number e = by_tests (group_number cells g) (class_is (decode g) (class_of (decode g) e)) (in_arena e) (group-listed cells g)
