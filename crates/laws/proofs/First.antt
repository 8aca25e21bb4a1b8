-- "The first number below n that": the turns of the search, what an answer says, and for another test that agrees.
use Rattle.std.specs.Prelude.{if◌then◌else◌, Option, None, Some}
use Prim.Native.Nat.{ℕ, zero, suc, ◌+◌, ◌-◌, ◌<◌, ◌≤◌}
use mathlib.Core.Bool.{Bool, true, false}
use mathlib.Core.Path.{◌≡◌, refl, ap, ◌∙◌, subst}
use native.Mathlib.Nat.{sub-zero}
use native.Mathlib.Decide.{ℕ_discrete}
use native.Mathlib.Omega.{arith}
use Rattle.std.proofs.lemmas.Bool.{cases_order}
use mathlib.Core.Logic.{inl, inr}
use Rattle.laws.specs.Tests.{first_from, first}
use Rattle.laws.proofs.Booleans.{true_not_false}

-- what an answer says of the numbers from i on, k in number
record Here (p : ℕ → Bool) (i k r : ℕ) : Type 0 where
  past : i ≤ r
  below : r < i + k
  passes : p r ≡ true
  fresh : (j : ℕ) → i ≤ j → j < r → p j ≡ false

-- what an answer says: it is below n, it passes, and nothing before it does
pub record First (p : ℕ → Bool) (n r : ℕ) : Type 0 where
  pub below : r < n
  pub passes : p r ≡ true
  pub fresh : (j : ℕ) → j < r → p j ≡ false

module _ (p : ℕ → Bool) where
  -- the search begins at 0
  pub first-begins : (n : ℕ) → first p n ≡ first_from p (n - 0) 0
  unfolding first
  first-begins n = rw sub-zero

  turn : (k i : ℕ) (b : Bool) → p i ≡ b → first_from p (suc k) i ≡ (if b then Some i else first_from p k (i + 1))
  unfolding first_from
  turn k i b e = rw e

  -- a turn that finds
  pub first-hit : (n i : ℕ) → i < n → p i ≡ true → first_from p (n - i) i ≡ Some i
  first-hit n i l e = let s : n - i ≡ suc (n - (i + 1)) = omega arith in rw s (turn (n - (i + 1)) i true e)

  -- a turn that goes on
  pub first_on : (n i : ℕ) → i < n → p i ≡ false → first_from p (n - i) i ≡ first_from p (n - (i + 1)) (i + 1)
  first_on n i l e = let s : n - i ≡ suc (n - (i + 1)) = omega arith in rw s (turn (n - (i + 1)) i false e)

  -- the end
  pub first_ends : (n i : ℕ) → n ≤ i → first_from p (n - i) i ≡ None
  unfolding first_from
  first_ends n i l = let s : n - i ≡ 0 = omega arith in rw s

  -- what stands from i on, one more
  after_miss : (k i r : ℕ) → p i ≡ false → Here p (i + 1) k r → Here p i (suc k) r
  after_miss k i r q h = record { past = omega arith; below = omega arith; passes = h.passes; fresh = λ j a b. at j a b (ℕ_discrete j i) }
    where
      at : (j : ℕ) → i ≤ j → j < r → Dec (j ≡ i) → p j ≡ false
      at j a b (yes t) = rw t q
      at j a b (no t) = h.fresh j (omega arith) b

  some-here : (k i r : ℕ) → first_from p k i ≡ Some r → Here p i k r
  unfolding first_from
  some-here zero i r e = absurd (let z : ◌≡◌ {A = ℕ} 0 1 = cc in omega arith)
  some-here (suc k) i r e = go (p i) refl e (some-here k (i + 1) r)
    where
      go : (b : Bool) → p i ≡ b → (if b then Some i else first_from p k (i + 1)) ≡ Some r → (first_from p k (i + 1) ≡ Some r → Here p (i + 1) k r) → Here p i (suc k) r
      go true q s f =
          let t : i ≡ r = cc in
          record { past = omega arith; below = omega arith; passes = subst (λ (x : ℕ). p x ≡ true) t q; fresh = λ j a b. absurd (omega arith) }
      go false q s f = after_miss k i r q (f s)

  none_here : (k i : ℕ) → first_from p k i ≡ None → (j : ℕ) → i ≤ j → j < i + k → p j ≡ false
  unfolding first_from
  none_here zero i e j a b = absurd (omega arith)
  none_here (suc k) i e j a b = go (p i) refl e (none_here k (i + 1))
    where
      go : (b : Bool) → p i ≡ b → (if b then Some i else first_from p k (i + 1)) ≡ None → (first_from p k (i + 1) ≡ None → (j : ℕ) → i + 1 ≤ j → j < i + 1 + k → p j ≡ false) → p j ≡ false
      go true q s f = absurd (let z : ◌≡◌ {A = ℕ} 0 1 = cc in omega arith)
      go false q s f = at (ℕ_discrete j i)
        where
          at : Dec (j ≡ i) → p j ≡ false
          at (yes t) = rw t q
          at (no t) = f s j (omega arith) (omega arith)

  pub first_some : (n r : ℕ) → first p n ≡ Some r → First p n r
  unfolding first
  first_some n r e =
      let h = some-here n 0 r e in
      record { below = omega arith; passes = h.passes; fresh = λ j l. h.fresh j (omega arith) l }

  -- no answer: nothing below n passes
  pub first-none : (n : ℕ) → first p n ≡ None → (j : ℕ) → j < n → p j ≡ false
  unfolding first
  first-none n e j l = none_here n 0 e j (omega arith) (omega arith)

  -- the one number below n that passes is the answer
  pub first-only : (n r : ℕ) → r < n → p r ≡ true → ((j : ℕ) → j < n → p j ≡ true → j ≡ r) → first p n ≡ Some r
  first-only n r l q u = go (first p n) refl
    where
      go : (o : Option ℕ) → first p n ≡ o → first p n ≡ Some r
      go None e = absurd (true_not_false q (first-none n e r l))
      go (Some i) e = e ∙ ap {B = Option ℕ} Some (u i (first_some n i e).below (first_some n i e).passes)

  -- nothing below n passes: no answer
  pub first-missing : (n : ℕ) → ((j : ℕ) → j < n → p j ≡ false) → first p n ≡ None
  first-missing n f = go (first p n) refl
    where
      go : (o : Option ℕ) → first p n ≡ o → first p n ≡ None
      go None e = e
      go (Some i) e = absurd (true_not_false (first_some n i e).passes (f i (first_some n i e).below))

-- the number that passes with none before it is the answer
pub first-is : (p : ℕ → Bool) (n r : ℕ) → r < n → p r ≡ true → ((j : ℕ) → j < r → p j ≡ false) → first p n ≡ Some r
first-is p n r l q f = go (first p n) refl
  where
    same : (i : ℕ) → First p n i → i ≡ r
    same i h = elim (cases_order i r) [ inl e' ↦ e' | inr (inl a) ↦ absurd (true_not_false h.passes (f i a)) | inr (inr b) ↦ absurd (true_not_false q (h.fresh r b)) ]

    go : (o : Option ℕ) → first p n ≡ o → first p n ≡ Some r
    go None e = absurd (true_not_false q (first-none p n e r l))
    go (Some i) e = e ∙ ap {B = Option ℕ} Some (same i (first_some p n i e))

-- for a test that agrees below n
from_cong : (p q : ℕ → Bool) (k i : ℕ) → ((j : ℕ) → i ≤ j → j < i + k → p j ≡ q j) → first_from p k i ≡ first_from q k i
unfolding first_from
from_cong p q zero i h = refl
from_cong p q (suc k) i h = rw (h i (omega arith) (omega arith), from_cong p q k (i + 1) (λ j a b. h j (omega arith) (omega arith)))

pub first_cong : (p q : ℕ → Bool) (n : ℕ) → ((j : ℕ) → j < n → p j ≡ q j) → first p n ≡ first q n
unfolding first
first_cong p q n h = from_cong p q n 0 (λ j a b. h j (omega arith))
