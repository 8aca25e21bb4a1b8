-- Lines of text: a word, then numbers in decimal, each after a space, then a line end. Bytes are ASCII.
use Rattle.std.specs.Prelude.{ℕ, zero, suc, ◌+◌, ◌/◌, ◌%◌, ◌<◌, ◌≤◌, Bool, true, false, List, [], ◌∷◌, ◌++◌, ◌≡◌, refl, ltb, if◌then◌else◌}
use Rattle.std.proofs.Common.{arith, ltb-false, lt-ltb, le-ltb}

-- a number in decimal, in at most n digits
unfoldable pub digits : ℕ → ℕ → List ℕ
digits zero x = []
digits (suc n) x = (if ltb x 10 then [] else digits n (x / 10)) ++ ((48 + x % 10) ∷ [])

-- a number in decimal: it has at most one digit more than it counts
unfoldable pub decimal : ℕ → List ℕ
decimal x = digits (suc x) x

-- more digits than enough change nothing
digits-enough : (n m x : ℕ) → x < n → x < m → digits n x ≡ digits m x
unfolding digits
digits-enough zero m x a b = absurd (omega arith)
digits-enough (suc n) zero x a b = absurd (omega arith)
digits-enough (suc n) (suc m) x a b = go (ltb x 10) refl (λ l. digits-enough n m (x / 10) (omega arith) (omega arith))
  where
    go : (t : Bool) → ltb x 10 ≡ t → (10 ≤ x → digits n (x / 10) ≡ digits m (x / 10)) → digits (suc n) x ≡ digits (suc m) x
    go true e f = rw e
    go false e f = rw (e, f (ltb-false x 10 e))

-- so a number below ten is one digit, and another is the number without its last digit, then that digit. Nothing after this looks at how many are enough
pub decimal_digit : (x : ℕ) → x < 10 → decimal x ≡ (48 + x) ∷ []
unfolding decimal digits
decimal_digit x l = let e : x % 10 ≡ x = omega arith in rw (lt-ltb x 10 l, e)

pub decimal-more : (x : ℕ) → 10 ≤ x → decimal x ≡ decimal (x / 10) ++ ((48 + x % 10) ∷ [])
unfolding decimal digits
decimal-more x l =
    let e : digits x (x / 10) ≡ digits (suc (x / 10)) (x / 10) = digits-enough x (suc (x / 10)) (x / 10) (omega arith) (omega arith) in
    rw (le-ltb x 10 l, e)

-- numbers, each after a space
unfoldable pub spaced : List ℕ → List ℕ
spaced [] = []
spaced (x ∷ xs) = 32 ∷ (decimal x ++ spaced xs)

-- a line
unfoldable pub line : List ℕ → List ℕ → List ℕ
line word numbers = word ++ (spaced numbers ++ (10 ∷ []))
