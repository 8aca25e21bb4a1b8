-- Laws of single tests.
use mathlib.Core.Bool.{Bool, true, false, ◌&&◌}
use mathlib.Core.Path.{◌≡◌, refl, sym, ◌∙◌, subst}
use lib.Dec.{T}

-- true is not false
pub true_not_false : {b : Bool} → b ≡ true → b ≡ false → ⊥
true_not_false p q = subst T (sym p ∙ q) tt

-- both halves of a passed `&&`
pub and_left : (a b : Bool) → (a && b) ≡ true → a ≡ true
and_left true b e = refl
and_left false b e = e

pub and_right : (a b : Bool) → (a && b) ≡ true → b ≡ true
and_right true b e = e
and_right false b e = absurd (true_not_false e refl)

-- a passed `&&` from its halves
pub and_both : {a b : Bool} → a ≡ true → b ≡ true → (a && b) ≡ true
and_both p q = rw (p, q)

-- a failed half fails the whole
pub and_fails_left : (a b : Bool) → a ≡ false → (a && b) ≡ false
and_fails_left a b p = rw p

pub and_fails_right : (a b : Bool) → b ≡ false → (a && b) ≡ false
and_fails_right true b p = p
and_fails_right false b p = refl

-- two tests that pass together are one
pub same_test : (a b : Bool) → (a ≡ true → b ≡ true) → (b ≡ true → a ≡ true) → a ≡ b
same_test true b f g = sym (f refl)
same_test false true f g = g refl
same_test false false f g = refl
