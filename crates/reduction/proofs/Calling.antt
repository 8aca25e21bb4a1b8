-- The public calls that reduce a list: the answer where the check refuses, and where it passes.
use Rattle.std.specs.Prelude.{◌&&◌, Ok, Err}
use Prim.Native.Nat.{ℕ}
use mathlib.Core.List.{List, ◌++◌}
use mathlib.Core.Path.{◌≡◌, refl, ap}
use Rattle.arena.specs.declared.Refusal.{Refusal}
use Rattle.arena.specs.Layout.{count, lawful}
use Rattle.arena.specs.Refusals.{outcome, refusal}
use Rattle.arena.proofs.Refusals.{ok-zero, err-refusal, Listed, listed-if}
use Rattle.orderings.specs.Lists.{built_all}
use Rattle.reduction.specs.Lent.{options_known, whole, exprs_inside, lists_lent, orderings_lent}
use Rattle.orderings.specs.Layout.{decode, lawful_list, keys_inside}
use Rattle.reduction.specs.Calls.{reduced_list, lent_number, add_answer, extend_number, extend_answer}
use Rattle.orderings.specs.declared.Orderings.{Orderings}
use Rattle.orderings.proofs.Appending.{told}

-- adding and extending
module _ (cells : List ℕ) (g : Orderings) (numbers : List ℕ) where
  pub add-refused-by : (e : Refusal) → outcome (lent_number cells g numbers) ≡ Err e → told (Err e) g ≡ add_answer cells g numbers
  unfolding add_answer
  add-refused-by e q = let r = err-refusal (lent_number cells g numbers) e q in rw r.0 (ap (λ (x : Refusal). told (Err x) g) r.1)

  pub add-passed : outcome (lent_number cells g numbers) ≡ Ok tt → add_answer cells g numbers ≡ reduced_list g (decode g ++ built_all (lists_lent numbers))
  unfolding add_answer
  add-passed z = rw (ok-zero (lent_number cells g numbers) z)

  pub extend-refused-by : (e : Refusal) → outcome (extend_number cells g numbers) ≡ Err e → told (Err e) g ≡ extend_answer cells g numbers
  unfolding extend_answer
  extend-refused-by e q = let r = err-refusal (extend_number cells g numbers) e q in rw r.0 (ap (λ (x : Refusal). told (Err x) g) r.1)

  pub extend-passed : outcome (extend_number cells g numbers) ≡ Ok tt → extend_answer cells g numbers ≡ reduced_list g (decode g ++ lists_lent numbers)
  unfolding extend_answer
  extend-passed z = rw (ok-zero (extend_number cells g numbers) z)

  -- the numbers of the checks stand in the table
  pub lent_number-listed : Listed (lent_number cells g numbers)
  unfolding lent_number outcome refusal
  lent_number-listed =
      listed-if (options_known numbers) _ 12 (listed-if (lawful cells && lawful_list g && whole numbers) _ 11
      (listed-if (keys_inside (count cells) g && exprs_inside (count cells) numbers) 0 1 refl refl) refl) refl

  pub extend_number-listed : Listed (extend_number cells g numbers)
  unfolding extend_number outcome refusal
  extend_number-listed =
      listed-if (options_known numbers) _ 12 (listed-if (lawful cells && lawful_list g && (whole numbers && orderings_lent numbers)) _ 11
      (listed-if (keys_inside (count cells) g && exprs_inside (count cells) numbers) 0 1 refl refl) refl) refl
