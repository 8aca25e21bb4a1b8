-- How long numbers and lines are.
use Prim.Native.Nat.{ℕ, zero, suc, ◌+◌, ◌/◌, ◌%◌, ◌^◌, ◌<◌, ◌≤◌}
use mathlib.Core.List.{List, [], ◌∷◌, ◌++◌}
use mathlib.Core.Path.{◌≡◌, refl, ap, ◌∙◌}
use native.Mathlib.Decide.{dec_lt}
use native.Mathlib.Nat.{pow-suc}
use native.Mathlib.Omega.{arith}
use lib.ListN.{length, length-append}
use Rattle.lines.specs.Text.{decimal, decimal_digit, decimal-more, spaced, line}

-- a number below ten has one digit, another has one more than without its last
pub length_digit : (x : ℕ) → x < 10 → length (decimal x) ≡ 1
length_digit x l = ap (λ (l : List ℕ). length l) (decimal_digit x l)

pub length_more : (x : ℕ) → 10 ≤ x → length (decimal x) ≡ length (decimal (x / 10)) + 1
length_more x l = ap (λ (l : List ℕ). length l) (decimal-more x l) ∙ length-append (decimal (x / 10)) ((48 + x % 10) ∷ [])

-- a number below a power of ten has at most as many digits as the power says, and at least one
pub decimal-short : (k x : ℕ) → x < 10 ^ suc k → length (decimal x) ≤ suc k
decimal-short zero x l = omega (arith, length_digit x l)
decimal-short (suc k) x l = go (dec_lt x 10) (λ m. decimal-short k (x / 10) m)
  where
    go : Dec (x < 10) → (x / 10 < 10 ^ suc k → length (decimal (x / 10)) ≤ suc k) → length (decimal x) ≤ suc (suc k)
    go (yes m) f = omega (arith, length_digit x m)
    go (no m) f = omega (arith, length_more x (omega arith), f (omega (arith, pow-suc 10 (suc k))))

-- the bounds that lines need
pub below-10 : (x : ℕ) → x < 10 → length (decimal x) ≤ 1
below-10 x l = decimal-short 0 x l

pub below-100 : (x : ℕ) → x < 100 → length (decimal x) ≤ 2
below-100 x l = decimal-short 1 x l

pub below-1000 : (x : ℕ) → x < 1000 → length (decimal x) ≤ 3
below-1000 x l = decimal-short 2 x l

pub below-10000 : (x : ℕ) → x < 10000 → length (decimal x) ≤ 4
below-10000 x l = decimal-short 3 x l

pub below-100000 : (x : ℕ) → x < 100000 → length (decimal x) ≤ 5
below-100000 x l = decimal-short 4 x l

-- a space and a number
pub length-number : (x : ℕ) → length (32 ∷ decimal x) ≡ length (decimal x) + 1
length-number x = omega arith

-- a line: its word, a byte more than its digits for each number, and the line end
length-spaced : (x : ℕ) (xs : List ℕ) → length (spaced (x ∷ xs)) ≡ 1 + length (decimal x) + length (spaced xs)
unfolding spaced
length-spaced x xs = let e = length-append (decimal x) (spaced xs) in omega arith

length_none : length (spaced []) ≡ 0
unfolding spaced
length_none = refl

length-line : (word numbers : List ℕ) → length (line word numbers) ≡ length word + length (spaced numbers) + 1
unfolding line
length-line word numbers = let e = length-append word (spaced numbers ++ (10 ∷ [])) in let f = length-append (spaced numbers) (10 ∷ []) in omega arith

pub length_two : (word : List ℕ) (a b : ℕ) → length (line word (a ∷ b ∷ [])) ≡ length word + length (decimal a) + length (decimal b) + 3
length_two word a b = omega (arith, length-line word (a ∷ b ∷ []), length-spaced a (b ∷ []), length-spaced b [], length_none)

pub length_three : (word : List ℕ) (a b c : ℕ) → length (line word (a ∷ b ∷ c ∷ [])) ≡ length word + length (decimal a) + length (decimal b) + length (decimal c) + 4
length_three word a b c = omega (arith, length-line word (a ∷ b ∷ c ∷ []), length-spaced a (b ∷ c ∷ []), length-spaced b (c ∷ []), length-spaced c [], length_none)
