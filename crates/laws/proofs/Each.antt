-- "For all numbers below n": from its parts, to its parts, and for another test that agrees.
use Prim.Native.Nat.{ℕ, zero, suc, ◌+◌, ◌<◌, ◌≤◌}
use mathlib.Core.Bool.{Bool, true, false, ◌&&◌}
use mathlib.Core.Path.{◌≡◌, refl, sym, subst}
use native.Mathlib.Numerals.{add-one}
use native.Mathlib.Omega.{arith}
use native.Mathlib.Decide.{ℕ_discrete}
use Rattle.laws.specs.Tests.{each}
use Rattle.laws.proofs.Booleans.{and_left, and_right, and_both, and_fails_left, and_fails_right}

module _ (p : ℕ → Bool) where
  -- for none it holds
  pub each_none : each p 0 ≡ true
  unfolding each
  each_none = refl

  -- one more
  pub each_more : (n : ℕ) → each p n ≡ true → p n ≡ true → each p (n + 1) ≡ true
  unfolding each
  each_more n e h = rw add-one (and_both e h)

  -- from all of them
  pub each_all : (n : ℕ) → ((i : ℕ) → i < n → p i ≡ true) → each p n ≡ true
  unfolding each
  each_all zero h = refl
  each_all (suc n) h = and_both (each_all n (λ i l. h i (omega arith))) (h n (omega arith))

  -- each of them
  pub each_holds : (n i : ℕ) → each p n ≡ true → i < n → p i ≡ true
  unfolding each
  each_holds zero i e l = absurd (omega arith)
  each_holds (suc n) i e l = at (ℕ_discrete i n) (λ l'. each_holds n i (and_left (each p n) (p n) e) l')
    where
      at : Dec (i ≡ n) → (i < n → p i ≡ true) → p i ≡ true
      at (yes q) r = rw q (and_right (each p n) (p n) e)
      at (no q) r = r (omega arith)

  -- one that fails
  pub each_fails : (n i : ℕ) → i < n → p i ≡ false → each p n ≡ false
  unfolding each
  each_fails zero i l f = absurd (omega arith)
  each_fails (suc n) i l f = at (ℕ_discrete i n) (λ l'. each_fails n i l' f)
    where
      at : Dec (i ≡ n) → (i < n → each p n ≡ false) → (each p n && p n) ≡ false
      at (yes q) r = and_fails_right (each p n) (p n) (rw q at f)
      at (no q) r = and_fails_left (each p n) (p n) (r (omega arith))

-- for a test that agrees below n
pub each_cong : (p q : ℕ → Bool) (n : ℕ) → ((i : ℕ) → i < n → p i ≡ q i) → each p n ≡ each q n
unfolding each
each_cong p q zero h = refl
each_cong p q (suc n) h = rw (each_cong p q n (λ i l. h i (omega arith)), h n (omega arith))

-- a loop that stops at a test that fails, and one that passes its end, in the words of their answers
pub each-stops : (p : ℕ → Bool) (n i : ℕ) → i < n → p i ≡ false → false ≡ each p n
each-stops p n i l f = sym (each_fails p n i l f)

pub each-ends : (p : ℕ → Bool) (n i : ℕ) → i ≤ n → n ≤ i → each p i ≡ true → true ≡ each p n
each-ends p n i a b h = let e : i ≡ n = omega arith in sym (subst (λ (k : ℕ). each p k ≡ true) e h)
