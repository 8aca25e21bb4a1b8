-- The public calls that ask something of a list: the answer where the check refuses, and where it passes.
use Rattle.std.specs.Prelude.{Ok, Err}
use Prim.Native.Nat.{ℕ}
use mathlib.Core.List.{List}
use mathlib.Core.Bool.{◌&&◌}
use mathlib.Core.Path.{◌≡◌, refl, ap}
use borrow.Author.Tests.{eqb-true}
use Rattle.arena.specs.declared.Refusal.{Refusal}
use Rattle.arena.specs.Layout.{count, lawful}
use Rattle.arena.specs.Refusals.{outcome, refusal}
use Rattle.arena.proofs.Refusals.{ok-zero, err-refusal, Listed, listed-if}
use Rattle.orderings.specs.Layout.{decode, lawful_list, keys_inside}
use Rattle.orderings.specs.Calls.{list_number, two_number, ask_list}
use Rattle.orderings.specs.declared.Orderings.{Orderings}

-- a check that is done has number 0
pub done-zero : (k : ℕ) → outcome k ≡ Ok tt → k ≡ 0
done-zero k h = eqb-true k 0 (ok-zero k h)

-- a call that only asks
module _ {A : Type 0} (refused_by : ℕ → A) (call : List (List ℕ) → A) (cells : List ℕ) (g : Orderings) where
  pub ask_passed : outcome (list_number cells g) ≡ Ok tt → ask_list refused_by call cells g ≡ call (decode g)
  unfolding ask_list
  ask_passed z = rw (ok-zero (list_number cells g) z)

-- a refusal of the check is handed on
pub ask_refused : {A : Type 0} (f : Refusal → A) (call : List (List ℕ) → A) (cells : List ℕ) (g : Orderings) (e : Refusal) → outcome (list_number cells g) ≡ Err e
    → f e ≡ ask_list (λ k. f (refusal k)) call cells g
unfolding ask_list
ask_refused f call cells g e q = let r = err-refusal (list_number cells g) e q in rw r.0 (ap f r.1)

-- the numbers that the checks answer stand in the table
pub list_number-listed : (cells : List ℕ) (g : Orderings) → Listed (list_number cells g)
unfolding list_number outcome refusal
list_number-listed cells g =
    listed-if (lawful cells && lawful_list g) _ 11 (listed-if (keys_inside (count cells) g) 0 1 refl refl) refl

pub two_number-listed : (cells : List ℕ) (g h : Orderings) → Listed (two_number cells g h)
unfolding two_number outcome refusal
two_number-listed cells g h =
    listed-if (lawful cells && lawful_list g && lawful_list h) _ 11 (listed-if (keys_inside (count cells) g && keys_inside (count cells) h) 0 1 refl refl) refl
