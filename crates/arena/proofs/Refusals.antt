-- What an outcome says of its number, and which numbers are those of refusals.
use Rattle.std.proofs.Common.{◌≡◌, ℕ, Bool, true, false, eqb, refl, sym, ap, ◌∙◌, arith}
use Rattle.std.specs.Prelude.{if◌then◌else◌, Result, Ok, Err, IsErrAnd}
use borrow.Author.Tests.{eqb-true}
use Rattle.std.proofs.lemmas.Result.{err_from_is_err_and}
use Rattle.arena.specs.declared.Refusal.{Refusal}
use Rattle.arena.specs.Refusals.{refusal, outcome, number_of}

-- done is no refusal
pub ok-not-err : {A : Type 0} {a : A} {e : Refusal} → ◌≡◌ {A = Result A Refusal} (Ok a) (Err e) → ⊥
ok-not-err h = let z : ◌≡◌ {A = ℕ} 0 1 = cc in omega arith

branch : (k : ℕ) (b : Bool) → eqb k 0 ≡ b → outcome k ≡ (if b then Ok tt else Err (refusal k))
unfolding outcome
branch k b e = rw e

-- an outcome that is done has number 0
pub ok-zero : (k : ℕ) → outcome k ≡ Ok tt → eqb k 0 ≡ true
ok-zero k h = go (eqb k 0) refl
  where
    go : (b : Bool) → eqb k 0 ≡ b → eqb k 0 ≡ true
    go true e = e
    go false e = absurd (ok-not-err (sym h ∙ branch k false e))

pub done-zero : (k : ℕ) → outcome k ≡ Ok tt → k ≡ 0
done-zero k h = eqb-true k 0 (ok-zero k h)

-- an outcome that is refused has a number of the table
pub err-refusal : (k : ℕ) (r : Refusal) → outcome k ≡ Err r → (eqb k 0 ≡ false) × (r ≡ refusal k)
err-refusal k r h = go (eqb k 0) refl
  where
    go : (b : Bool) → eqb k 0 ≡ b → (eqb k 0 ≡ false) × (r ≡ refusal k)
    go true e = absurd (ok-not-err (sym (branch k true e) ∙ h))
    go false e = (e, let q : Err r ≡ Err (refusal k) = sym h ∙ branch k false e in cc)

-- and the other way round
pub zero-ok : (k : ℕ) → eqb k 0 ≡ true → outcome k ≡ Ok tt
zero-ok k e = branch k true e

pub refusal-err : (k : ℕ) → eqb k 0 ≡ false → outcome k ≡ Err (refusal k)
refusal-err k e = branch k false e

-- what `?` hands on is the refusal that it met
pub handed-on : {A : Type 0} (r : Result A Refusal) (e : Refusal) → IsErrAnd r (λ y. y ≡ e) → r ≡ Err e
handed-on r e h = let p = err_from_is_err_and r h in p.1 ∙ ap Err p.2

-- a number stands in the table, or is 0
abbrev pub Listed : ℕ → Type 0
Listed k = number_of (outcome k) ≡ k

-- a choice of numbers that do
pub listed-if : (b : Bool) (j k : ℕ) → Listed j → Listed k → Listed (if b then j else k)
listed-if true j k p q = p
listed-if false j k p q = q

-- a number that is refused is the number of its refusal
pub refused-number : (k : ℕ) → Listed k → eqb k 0 ≡ false → number_of {A = Unit {0}} (Err (refusal k)) ≡ k
refused-number k l e = ap number_of (sym (refusal-err k e)) ∙ l
