-- Which numbers a call gives: the laws that do not depend on the call.
use Rattle.std.specs.Prelude.{if◌then◌else◌}
use Prim.Native.Nat.{ℕ}
use mathlib.Core.Bool.{Bool, true, false, ◌&&◌, ◌||◌}
use mathlib.Core.List.{List, [], ◌∷◌}
use mathlib.Core.Path.{◌≡◌, refl, sym, subst}
use borrow.Author.Tests.{eqb-true}
use lib.Dec.{eqb}
use Rattle.laws.proofs.Booleans.{true_not_false, and_left, and_right}
use Rattle.arena.specs.Refusals.{refusal_number, refusal}
use Rattle.arena.proofs.Refusals.{Listed, refused-number}
use Rattle.classes.specs.Group.{among}

-- a number is 0 or one of some
pub record OneOf (numbers : List ℕ) (r : ℕ) : Type 0 where
  pub is : among r (0 ∷ numbers) ≡ true

-- 0 is
pub done : {numbers : List ℕ} → OneOf numbers 0
unfolding among
done = record { is = refl }

-- what holds of both sides of a test holds of the one that is taken
pub either : {A : Type 0} (P : A → Type 0) (b : Bool) {x y : A} → P x → P y → P (if b then x else y)
either P true p q = p
either P false p q = q

-- what holds of an answer, and of a refusal where the check's number is not 0, holds of what the check comes to
pub unless-zero : {A : Type 0} (P : A → Type 0) (k : ℕ) {x y : A} → P x → (eqb k 0 ≡ false → P y) → P (if eqb k 0 then x else y)
unless-zero P k {x} {y} p q = by (eqb k 0) refl
  where
    by : (b : Bool) → eqb k 0 ≡ b → P (if b then x else y)
    by true z = p
    by false z = q z

-- the number of a refusal that a check gives is the check's
pub as-refusal : {numbers : List ℕ} {k : ℕ} → Listed k → OneOf numbers k → eqb k 0 ≡ false → OneOf numbers (refusal_number (refusal k))
as-refusal {numbers} {k} l o z = subst (OneOf numbers) (sym (refused-number k l z)) o

-- ---- more numbers

-- each of some numbers is among others
unfoldable pub all_among : List ℕ → List ℕ → Bool
all_among [] ns = true
all_among (m ∷ ms) ns = among m ns && all_among ms ns

-- what is among the first is among the others
among-all : (ms ns : List ℕ) (r : ℕ) → all_among ms ns ≡ true → among r ms ≡ true → among r ns ≡ true
unfolding among all_among
among-all [] ns r a e = absurd (true_not_false e refl)
among-all (m ∷ ms) ns r a e = by (eqb m r) refl e (among-all ms ns r (and_right (among m ns) (all_among ms ns) a))
  where
    by : (b : Bool) → eqb m r ≡ b → (b || among r ms) ≡ true → (among r ms ≡ true → among r ns ≡ true) → among r ns ≡ true
    by true q z h = subst (λ (k : ℕ). among k ns ≡ true) (eqb-true m r q) (and_left (among m ns) (all_among ms ns) a)
    by false q z h = h z

-- one of some is one of more
pub wider : {ms ns : List ℕ} {r : ℕ} → OneOf ms r → all_among ms (0 ∷ ns) ≡ true → OneOf ns r
unfolding among all_among
wider {ms} {ns} {r} o a = record { is = among-all (0 ∷ ms) (0 ∷ ns) r a o.is }

-- ---- checks in steps

-- two steps: 11, then 1
pub two_steps : (a b : Bool) → OneOf (11 ∷ 1 ∷ []) (if a then (if b then 0 else 1) else 11)
unfolding among
two_steps true true = record { is = refl }
two_steps true false = record { is = refl }
two_steps false b = record { is = refl }

-- three: 12 comes first
pub three-steps : (a b c : Bool) → OneOf (12 ∷ 11 ∷ 1 ∷ []) (if a then (if b then (if c then 0 else 1) else 11) else 12)
unfolding among
three-steps true true true = record { is = refl }
three-steps true true false = record { is = refl }
three-steps true false c = record { is = refl }
three-steps false b c = record { is = refl }

-- four: 4 comes last
pub four-steps : (a b c d : Bool) → OneOf (12 ∷ 11 ∷ 1 ∷ 4 ∷ []) (if a then (if b then (if c then (if d then 0 else 4) else 1) else 11) else 12)
unfolding among
four-steps true true true true = record { is = refl }
four-steps true true true false = record { is = refl }
four-steps true true false d = record { is = refl }
four-steps true false c d = record { is = refl }
four-steps false b c d = record { is = refl }
