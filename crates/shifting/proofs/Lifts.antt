-- A signed offset as a lift, 65,535 more than the offset: where an index moves by it, and the sum as the code has it, in 64 bits.
use Prim.Native.Nat.{ℕ, suc, ◌+◌, ◌-◌, ◌^◌, ◌<◌, ◌≤◌}
use mathlib.Core.Bool.{true, false}
use Rattle.std.specs.Prelude.{Option, None, Some, is_some}
use mathlib.Core.Path.{◌≡◌, refl, sym, ap, ◌∙◌, subst}
use native.Mathlib.Decide.{dec_lt}
use native.Mathlib.Omega.{arith}
use borrow.Author.Tests.{ltb-true, ltb-false, lt-ltb, le-ltb, le-leb, lt-leb}
use lib.Dec.{ltb}
use lib.IntN.{ℤ, pos, negsuc, ◌+ℤ◌}
use lib.Signed.{mag, lt_z}
use mir.Facts.{to_z-of_z}
use mir.Syntax.{w64}
use mir.Val.{to_z, of_z}
use Rattle.laws.proofs.Booleans.{true_not_false}
use Rattle.shifting.specs.Shift.{within, moved}
use Rattle.shifting.specs.Inner.{lifted}

-- where a lift moves an index, by the sum of the two
module _ (lift index : ℕ) where
  -- too low
  pub lifted-low : index + lift < 65535 → lifted lift index ≡ None
  unfolding lifted
  lifted-low l = rw (lt-leb 65535 (index + lift) l)

  -- too high
  pub lifted-high : 131071 ≤ index + lift → lifted lift index ≡ None
  unfolding lifted
  lifted-high l = let a : 65535 ≤ index + lift = omega arith in rw (le-leb 65535 (index + lift) a, le-ltb (index + lift) 131071 l)

  -- within the bounds
  pub lifted-some : 65535 ≤ index + lift → index + lift < 131071 → lifted lift index ≡ Some (index + lift - 65535)
  unfolding lifted
  lifted-some l m = rw (le-leb 65535 (index + lift) l, lt-ltb (index + lift) 131071 m)

-- whether an index moves, by the tests of the code
module _ (lift index : ℕ) where
  -- the first test passes: it does not
  pub moves-low : index + lift < 65535 → false ≡ is_some (lifted lift index)
  moves-low l = rw (lifted-low lift index l)

  -- it fails: the second test tells
  pub moves_end : 65535 ≤ index + lift → ltb (index + lift) 131071 ≡ is_some (lifted lift index)
  moves_end l = at (dec_lt (index + lift) 131071)
    where
      at : Dec (index + lift < 131071) → ltb (index + lift) 131071 ≡ is_some (lifted lift index)
      at (yes m) = rw (lifted-some lift index l m) (lt-ltb (index + lift) 131071 m)
      at (no m) = let h : 131071 ≤ index + lift = omega arith in rw (lifted-high lift index h) (le-ltb (index + lift) 131071 h)

-- a whole number within the bounds of an index
within-some : (n : ℕ) → n < 65536 → within (pos n) ≡ Some n
unfolding within
within-some n l = rw (lt-ltb n 65536 l)

-- and one past them
within_none : (n : ℕ) → 65536 ≤ n → within (pos n) ≡ None
unfolding within
within_none n l = rw (le-ltb n 65536 l)

-- an offset down by n + 1, of an index below that
down-none : (n i : ℕ) → i < suc n → moved (negsuc n) i ≡ None
unfolding moved within
down-none n i l = rw (lt-ltb i (suc n) l)

-- and of any other
down-some : (n i : ℕ) → suc n ≤ i → i < 65536 → moved (negsuc n) i ≡ Some (i - suc n)
unfolding moved
down-some n i l m = rw (le-ltb i (suc n) l) (within-some (i - suc n) (omega arith))

-- the lift of an offset
abbrev pub lift_of : ℤ → ℕ
lift_of (pos n) = n + 65535
lift_of (negsuc n) = 65534 - n

-- the sum is the lift
sum_is : (z : ℤ) → lt_z z (negsuc 65534) ≡ false → z +ℤ pos 65535 ≡ pos (lift_of z)
sum_is (pos n) a = refl
sum_is (negsuc n) a =
    let l : suc n ≤ 65535 = omega (arith, ltb-false 65534 n a) in
    let e : 65535 - suc n ≡ 65534 - n = omega arith in
    rw (le-ltb 65535 (suc n) l, e)

-- the lift of an offset that is not too high
lift_few : (z : ℤ) → lt_z (pos 65535) z ≡ false → lift_of z ≤ 131070
lift_few (pos n) b = omega (arith, ltb-false 65535 n b)
lift_few (negsuc n) b = omega arith

-- an offset that is too low
moved-low : (z : ℤ) → lt_z z (negsuc 65534) ≡ true → (i : ℕ) → i < 65536 → moved z i ≡ lifted 200000 i
moved-low (pos n) a i l = absurd (true_not_false a refl)
moved-low (negsuc n) a i l = down-none n i (omega (arith, ltb-true 65534 n a)) ∙ sym (lifted-high 200000 i (omega arith))

-- an offset that is too high
moved-high : (z : ℤ) → lt_z (pos 65535) z ≡ true → (i : ℕ) → i < 65536 → moved z i ≡ lifted 200000 i
unfolding moved
moved-high (pos n) b i l = within_none (i + n) (omega (arith, ltb-true 65535 n b)) ∙ sym (lifted-high 200000 i (omega arith))
moved-high (negsuc n) b i l = absurd (true_not_false b refl)

-- any other moves an index as its lift does
moved_lift : (z : ℤ) → lt_z z (negsuc 65534) ≡ false → (i : ℕ) → i < 65536 → moved z i ≡ lifted (lift_of z) i
unfolding moved
moved_lift (pos n) a i l = at (dec_lt (i + n) 65536)
  where
    at : Dec (i + n < 65536) → within (pos (i + n)) ≡ lifted (n + 65535) i
    at (yes b) =
        let e : i + (n + 65535) - 65535 ≡ i + n = omega arith in
        within-some (i + n) b ∙ sym (lifted-some (n + 65535) i (omega arith) (omega arith) ∙ ap {B = Option ℕ} Some e)
    at (no b) = within_none (i + n) (omega arith) ∙ sym (lifted-high (n + 65535) i (omega arith))
moved_lift (negsuc n) a i l = at (dec_lt i (suc n)) (ltb-false 65534 n a)
  where
    at : Dec (i < suc n) → n ≤ 65534 → moved (negsuc n) i ≡ lifted (65534 - n) i
    at (yes b) c = down-none n i b ∙ sym (lifted-low (65534 - n) i (omega arith))
    at (no b) c =
        let e : i + (65534 - n) - 65535 ≡ i - suc n = omega arith in
        down-some n i (omega arith) l ∙ sym (lifted-some (65534 - n) i (omega arith) (omega arith) ∙ ap {B = Option ℕ} Some e)

-- a number that was written in 64 bits and read again
abbrev again : ℤ → ℤ
again z = to_z w64 (of_z w64 z)

-- is the same, if 64 bits hold it
again-is : (z : ℤ) → mag z < 2 ^ 63 → again z ≡ z
again-is z f = to_z-of_z {w = w64} (record { sfits = f })

-- what the code finds of an offset
module _ (z : ℤ) (f : mag z < 2 ^ 63) where
  -- it is below -65,535
  pub offset_low : lt_z (again z) (negsuc 65534) ≡ true → (i : ℕ) → i < 65536 → moved z i ≡ lifted 200000 i
  offset_low a = moved-low z (subst (λ (y : ℤ). lt_z y (negsuc 65534) ≡ true) (again-is z f) a)

  -- it is above 65,535
  pub offset_high : lt_z (pos 65535) (again z) ≡ true → (i : ℕ) → i < 65536 → moved z i ≡ lifted 200000 i
  offset_high b = moved-high z (subst (λ (y : ℤ). lt_z (pos 65535) y ≡ true) (again-is z f) b)

  module _ (a : lt_z (again z) (negsuc 65534) ≡ false) (b : lt_z (pos 65535) (again z) ≡ false) where
    -- the first test, of the offset itself
    low : lt_z z (negsuc 65534) ≡ false
    low = subst (λ (y : ℤ). lt_z y (negsuc 65534) ≡ false) (again-is z f) a

    -- the lift is small
    pub lift_small : lift_of z ≤ 131070
    lift_small = lift_few z (subst (λ (y : ℤ). lt_z (pos 65535) y ≡ false) (again-is z f) b)

    -- it moves indices as the offset does
    pub lift_moves : (i : ℕ) → i < 65536 → moved z i ≡ lifted (lift_of z) i
    lift_moves = moved_lift z low

    -- it is the sum
    pub lift_sum : again z +ℤ pos 65535 ≡ pos (lift_of z)
    lift_sum = ap (λ (y : ℤ). y +ℤ pos 65535) (again-is z f) ∙ sum_is z low

    -- and so it is the sum that was written and read again
    pub lift_again : again (again z +ℤ pos 65535) ≡ pos (lift_of z)
    lift_again = ap again lift_sum ∙ again-is (pos (lift_of z)) (omega (arith, lift_small))
