-- The table of pairs: one bit a pair, 16 words a number. A pair that is put in changes no other pair.
use Prim.Native.Nat.{ℕ, suc, ◌+◌, ◌-◌, ◌*◌, ◌/◌, ◌%◌, ◌^◌, ◌<◌}
use mathlib.Core.Bool.{true, false}
use mathlib.Core.List.{List}
use mathlib.Core.Path.{◌≡◌, sym, ap, ◌∙◌}
use native.Mathlib.Decide.{ℕ_discrete, dec_lt}
use native.Mathlib.Nat.{div-eq_of_lt, one-mul, zero-div}
use native.Mathlib.Omega.{arith}
use lib.Bits.{bit_or, or_shr, or_mod, or_zero_r, shifted_even}
use lib.Dec.{eqb}
use lib.ListN.{length, get_or, set, replicate}
use lib.Pow.{pow-lt, pow-add, shl_exact, shl-shr}
use lib.Seq.{set_out, get_or-set_same, get_or-set_other}
use Rattle.classes.proofs.Numbers.{zeros-at}
use Rattle.questions.specs.Inner.{told_pair}

-- bit i of a power of two with another exponent is 0
other-bit : (i j : ℕ) → (i ≡ j → ⊥) → 2 ^ j / 2 ^ i % 2 ≡ 0
other-bit i j d = go (dec_lt j i)
  where
    go : Dec (j < i) → 2 ^ j / 2 ^ i % 2 ≡ 0
    go (yes l) = rw (div-eq_of_lt (pow-lt l))
    go (no l) =
        let e : j ≡ suc (j - i - 1) + i = omega arith in
        let p : 2 ^ j ≡ 2 ^ suc (j - i - 1) * 2 ^ i = ap (λ (k : ℕ). 2 ^ k) e ∙ pow-add 2 (suc (j - i - 1)) i in
        let q : 2 ^ j / 2 ^ i ≡ 2 ^ suc (j - i - 1) = ap (λ (k : ℕ). k / 2 ^ i) p ∙ shl-shr (2 ^ suc (j - i - 1)) i in
        ap (λ (k : ℕ). k % 2) (q ∙ sym (one-mul (2 ^ suc (j - i - 1)))) ∙ shifted_even 1 (j - i - 1)

-- a bit that is set changes no other
bit_kept : (w i j : ℕ) → (i ≡ j → ⊥) → bit_or w (2 ^ j) / 2 ^ i % 2 ≡ w / 2 ^ i % 2
bit_kept w i j d =
    ap (λ (k : ℕ). k % 2) (or_shr w (2 ^ j) i)
    ∙ or_mod (w / 2 ^ i) (2 ^ j / 2 ^ i) 1
    ∙ ap (bit_or (w / 2 ^ i % 2)) (other-bit i j d)
    ∙ or_zero_r (w / 2 ^ i % 2)

module _ (seen : List ℕ) where
  -- a pair that is in the table after a, b was put in, and is another, was in it before
  pub pair-kept : (a b : ℕ) → b < 1024
      → (x y : ℕ) → y < 1024
      → told_pair (set seen (a * 16 + b / 64) (bit_or (get_or seen (a * 16 + b / 64) 0) (1 * 2 ^ (b % 64) % 18446744073709551616))) x y ≡ true
      → ((x ≡ a) × (y ≡ b) → ⊥) → told_pair seen x y ≡ true
  unfolding told_pair
  pair-kept a b lb x y ly h d = go (ℕ_discrete at to) (dec_lt to (length seen))
    where
      to : ℕ
      to = a * 16 + b / 64

      at : ℕ
      at = x * 16 + y / 64

      bit : ℕ
      bit = 1 * 2 ^ (b % 64) % 18446744073709551616

      bit_is : bit ≡ 2 ^ (b % 64)
      bit_is = shl_exact {a = 1} 1 (b % 64) 64 (omega arith) (omega arith) ∙ one-mul (2 ^ (b % 64))

      word : ℕ
      word = bit_or (get_or seen to 0) bit

      go : Dec (at ≡ to) → Dec (to < length seen) → eqb (get_or seen at 0 / 2 ^ (y % 64) % 2) 1 ≡ true
      go (no n) r = ap (λ (w : ℕ). eqb (w / 2 ^ (y % 64) % 2) 1) (sym (get_or-set_other seen to at word 0 n)) ∙ h
      go (yes q) (no r) = ap (λ (l : List ℕ). eqb (get_or l at 0 / 2 ^ (y % 64) % 2) 1) (sym (set_out seen to word (omega arith))) ∙ h
      go (yes q) (yes r) =
          let n : y % 64 ≡ b % 64 → ⊥ = λ m. d (omega arith, omega arith) in
          let w : get_or (set seen to word) at 0 ≡ bit_or (get_or seen at 0) (2 ^ (b % 64)) =
          ap (λ (k : ℕ). get_or (set seen to word) k 0) q ∙ get_or-set_same seen to word 0 r ∙ ap (bit_or (get_or seen to 0)) bit_is ∙ ap (λ (k : ℕ). bit_or (get_or seen k 0) (2 ^ (b % 64))) (sym q) in
          let e : get_or (set seen to word) at 0 / 2 ^ (y % 64) % 2 ≡ get_or seen at 0 / 2 ^ (y % 64) % 2 =
          ap (λ (k : ℕ). k / 2 ^ (y % 64) % 2) w ∙ bit_kept (get_or seen at 0) (y % 64) (b % 64) n in
          ap (λ (k : ℕ). eqb k 1) (sym e) ∙ h

-- a fresh table has no pair
pub none_told : (n a b : ℕ) → told_pair (replicate n 0) a b ≡ false
unfolding told_pair
none_told n a b = rw (zeros-at n (a * 16 + b / 64), zero-div (2 ^ (b % 64)))
