-- What is lent in parts, one directly after the other: `next` says where the part after the one at a place begins, `end` where all of them end.
-- A part takes at least one place, so as many steps as places are enough to pass them all: what counts the steps down says under it, proved, what it comes to, and nothing after looks at the count.
use Prim.Native.Nat.{ℕ, zero, suc, ◌+◌, ◌-◌, ◌<◌, ◌≤◌}
use Rattle.std.specs.Prelude.{Bool, true, ◌&&◌, ◌≡◌, if◌then◌else◌}
use mathlib.Core.List.{List, [], ◌∷◌}
use Rattle.std.proofs.Math.Path.{refl, ap}
use Rattle.std.proofs.Common.{◌∙◌, lt-ltb, le-ltb}
use native.Mathlib.Omega.{arith}
use Rattle.std.proofs.Math.Dec.{ltb}

-- what f makes of each part from a place on, in at most n steps
unfoldable pub parts_from : {A : Type 0} → (ℕ → A) → (ℕ → ℕ) → ℕ → ℕ → ℕ → List A
parts_from f next end zero at = []
parts_from f next end (suc n) at = if ltb at end then f at ∷ parts_from f next end n (next at) else []

-- what f makes of each part from a place to the end
unfoldable pub parts : {A : Type 0} → (ℕ → A) → (ℕ → ℕ) → ℕ → ℕ → List A
parts f next end at = parts_from f next end end at

-- what they come to: at the end, and by one part
module _ {A : Type 0} (f : ℕ → A) (next : ℕ → ℕ) (end : ℕ) (after : (at : ℕ) → at < next at) where
  -- all counts that are not below the places ahead come to the same
  parts-enough : (n m at : ℕ) → end ≤ n + at → end ≤ m + at → parts_from f next end n at ≡ parts_from f next end m at
  unfolding parts_from
  parts-enough zero zero at a b = refl
  parts-enough zero (suc m) at a b = rw (le-ltb at end (omega arith))
  parts-enough (suc n) zero at a b = rw (le-ltb at end (omega arith))
  parts-enough (suc n) (suc m) at a b =
      ap (λ (t : List A). if ltb at end then f at ∷ t else [])
      (parts-enough n m (next at) (omega (arith, after at)) (omega (arith, after at)))

  pub parts_end : (at : ℕ) → end ≤ at → parts f next end at ≡ []
  unfolding parts parts_from
  parts_end at l = parts-enough end 0 at (omega arith) (omega arith)

  pub parts_next : (at : ℕ) → at < end → parts f next end at ≡ f at ∷ parts f next end (next at)
  unfolding parts parts_from
  parts_next at l =
      let e : end ≡ suc (end - 1) = omega arith in
      ap (λ (n : ℕ). parts_from f next end n at) e ∙ rw (lt-ltb at end l, parts_from)
      (ap (λ (t : List A). f at ∷ t) (parts-enough (end - 1) end (next at) (omega (arith, after at)) (omega arith)))

-- each of them is true
unfoldable pub all_true : List Bool → Bool
all_true [] = true
all_true (b ∷ bs) = b && all_true bs

-- a test holds for each part from a place to the end
unfoldable pub each_part : (ℕ → Bool) → (ℕ → ℕ) → ℕ → ℕ → Bool
each_part p next end at = all_true (parts p next end at)

-- what it comes to: at the end, and by one part
module _ (p : ℕ → Bool) (next : ℕ → ℕ) (end : ℕ) (after : (at : ℕ) → at < next at) where
  pub each_end : (at : ℕ) → end ≤ at → each_part p next end at ≡ true
  unfolding each_part all_true
  each_end at l = ap all_true (parts_end p next end after at l)

  pub each_next : (at : ℕ) → at < end → each_part p next end at ≡ (p at && each_part p next end (next at))
  unfolding each_part all_true
  each_next at l = ap all_true (parts_next p next end after at l)
