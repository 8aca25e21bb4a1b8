-- Lists of numbers: zeros, and the sum of the first ones.
use Prim.Native.Nat.{ℕ, zero, suc, ◌+◌, ◌<◌, ◌≤◌}
use mathlib.Core.Bool.{false}
use mathlib.Core.List.{List, [], ◌∷◌, ◌++◌}
use mathlib.Core.Path.{◌≡◌, refl, sym}
use native.Mathlib.Decide.{ℕ_discrete}
use native.Mathlib.Numerals.{add-one}
use native.Mathlib.Omega.{arith}
use borrow.Author.Tests.{eqb-true, eq-eqb, ne_eqb}
use lib.Dec.{eqb}
use lib.ListN.{get_or, replicate}
use Rattle.laws.proofs.Booleans.{same_test}
use Rattle.classes.specs.Layout.{sum_to}

-- every place of a list of zeros is 0
pub zeros-at : (n i : ℕ) → get_or (replicate {A = ℕ} n 0) i 0 ≡ 0
zeros-at zero i = refl
zeros-at (suc n) zero = refl
zeros-at (suc n) (suc i) = zeros-at n i

-- zeros at the end of a list change no place
pub zeros-after : (xs : List ℕ) (n i : ℕ) → get_or (xs ++ replicate n 0) i 0 ≡ get_or xs i 0
zeros-after [] n i = zeros-at n i
zeros-after (x ∷ xs) n zero = refl
zeros-after (x ∷ xs) n (suc i) = zeros-after xs n i

module _ (xs : List ℕ) where
  -- the sum of none, and of one more
  pub sum-none : sum_to xs 0 ≡ 0
  unfolding sum_to
  sum-none = refl

  pub sum-next : (j : ℕ) → sum_to xs (j + 1) ≡ sum_to xs j + get_or xs j 0
  unfolding sum_to
  sum-next j = rw add-one

  -- the sum of more numbers is no smaller
  pub sum_more : (j n : ℕ) → j ≤ n → sum_to xs j ≤ sum_to xs n
  unfolding sum_to
  sum_more j zero l = let e : j ≡ 0 = omega arith in rw e (omega arith)
  sum_more j (suc n) l = at (ℕ_discrete j (suc n)) (λ l'. sum_more j n l')
    where
      at : Dec (j ≡ suc n) → (j ≤ n → sum_to xs j ≤ sum_to xs n) → sum_to xs j ≤ sum_to xs n + get_or xs n 0
      at (yes q) r = rw q (omega arith)
      at (no q) r = omega (arith, r (omega arith))

  -- a number among the first n and what stands before it are in the sum
  pub sum-holds : (j n : ℕ) → j < n → sum_to xs j + get_or xs j 0 ≤ sum_to xs n
  sum-holds j n l = omega (arith, sum-next j, sum_more (j + 1) n (omega arith))

  -- with less left than the next number, the sum is not what was to be used up
  pub sum_over : (n j left used : ℕ) → j < n → left + sum_to xs j ≡ used → left < get_or xs j 0 → false ≡ eqb (sum_to xs n) used
  sum_over n j left used l e o = sym (ne_eqb (sum_to xs n) used (λ q. omega (arith, sum-holds j n l)))

  -- with all numbers taken, nothing is left exactly where the sum is what was to be used up
  pub sum-all : (n j left used : ℕ) → j ≤ n → n ≤ j → left + sum_to xs j ≡ used → eqb left 0 ≡ eqb (sum_to xs n) used
  sum-all n j left used a b e =
      let s : sum_to xs j ≡ sum_to xs n = (let q : j ≡ n = omega arith in rw q) in
      same_test (eqb left 0) (eqb (sum_to xs n) used)
      (λ t. eq-eqb (sum_to xs n) used (omega (arith, eqb-true left 0 t)))
      (λ t. eq-eqb left 0 (omega (arith, eqb-true (sum_to xs n) used t)))
