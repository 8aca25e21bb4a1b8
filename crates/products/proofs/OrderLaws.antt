-- The orders of n places by their numbers.
use Rattle.std.specs.Prelude.{if◌then◌else◌}
use Prim.Native.Nat.{ℕ, zero, suc, ◌+◌, ◌*◌, ◌<◌, ◌≤◌, ◌/◌, ◌%◌}
use mathlib.Core.Bool.{Bool, true, false}
use mathlib.Core.List.{List, [], ◌∷◌, ◌++◌, map}
use mathlib.Core.Path.{◌≡◌, refl, sym, ap, ◌∙◌}
use native.Mathlib.Decide.{ℕ_discrete}
use native.Mathlib.Nat.{mod-lt, mul-pos, mul-le-mul_right, div-lt_iff_lt-mul, div-add-mod'}
use native.Mathlib.Omega.{arith}
use lib.Dec.{ltb}
use lib.ListN.{length, get_or, length-append, length-map, get_or-append, get_or-map}
use lib.Seq.{get_or-append-add}
use Rattle.orderings.proofs.Codec.{get_d_any}
use Rattle.products.specs.Orders.{passing, beginning, orders}
use Rattle.products.specs.Inner.{factorial}

-- what a function makes of each element stands at that element's place
pub mapped_at_lem : {A B : Type 0} (f : A → B) (xs : List A) (i : ℕ) (a : A) (b : B) → i < length xs → get_or (map f xs) i b ≡ f (get_or xs i a)
mapped_at_lem f xs i a b l = get_d_any (map f xs) i b (f a) (omega (arith, length-map xs f)) ∙ get_or-map f xs i a

-- the factorial is not 0
pub factorial-some : (n : ℕ) → 0 < factorial n
unfolding factorial
factorial-some zero = omega arith
factorial-some (suc n) = mul-pos (omega arith) (factorial-some n)

-- an order of one place more that begins with place i
abbrev begun : ℕ → List ℕ → List ℕ
begun i o = i ∷ map (passing i) o

-- as many begin with each place as there are orders of the others
beginning-length : (os : List (List ℕ)) (k : ℕ) → length (beginning os k) ≡ k * length os
unfolding beginning
beginning-length os zero = omega arith
beginning-length os (suc k) = omega (arith, length-append (beginning os k) (map (begun k) os), length-map os (begun k), beginning-length os k)

-- those that begin with place i stand one after the other
beginning-at : (os : List (List ℕ)) (k i r : ℕ) → i < k → r < length os → get_or (beginning os k) (i * length os + r) [] ≡ begun i (get_or os r [])
unfolding beginning
beginning-at os zero i r a b = absurd (omega arith)
beginning-at os (suc k) i r a b = at (ℕ_discrete i k) (λ l. beginning-at os k i r l b)
  where
    at : Dec (i ≡ k) → (i < k → get_or (beginning os k) (i * length os + r) [] ≡ begun i (get_or os r []))
        → get_or (beginning os k ++ map (begun k) os) (i * length os + r) [] ≡ begun i (get_or os r [])
    at (yes q) f =
        rw (q, ← beginning-length os k) (get_or-append-add (beginning os k) (map (begun k) os) r [] ∙ mapped_at_lem (begun k) os r [] [] b)
    at (no q) f =
        let l : i < k = omega arith in
        let m : suc i * length os ≤ k * length os = mul-le-mul_right (length os) l in
        get_or-append (beginning os k) (map (begun k) os) [] (i * length os + r) (omega (arith, beginning-length os k)) ∙ f l

-- there are as many orders as the factorial says
pub orders-length : (n : ℕ) → length (orders n) ≡ factorial n
unfolding orders factorial
orders-length zero = refl
orders-length (suc n) = beginning-length (orders n) (suc n) ∙ ap (λ (k : ℕ). suc n * k) (orders-length n)

-- the first place of an order is a place
pub first_below : (n number : ℕ) → number < factorial (suc n) → number / factorial n < suc n
unfolding factorial
first_below n number in_it = (div-lt_iff_lt-mul (factorial-some n)).1 in_it

-- an order by its number: the first place is the quotient, the others are the order of the remainder
pub orders-at : (n number : ℕ) → number < factorial (suc n) → get_or (orders (suc n)) number [] ≡ (number / factorial n) ∷ map (passing (number / factorial n)) (get_or (orders n) (number % factorial n) [])
unfolding orders
orders-at n number in_it =
    let q : ℕ = number / factorial n in
    let r : ℕ = number % factorial n in
    let e : number ≡ q * length (orders n) + r = sym (div-add-mod' number (factorial n)) ∙ ap (λ (k : ℕ). q * k + r) (sym (orders-length n)) in
    ap (λ (k : ℕ). get_or (beginning (orders n) (suc n)) k []) e
    ∙ beginning-at (orders n) (suc n) q r (first_below n number in_it) (omega (arith, orders-length n, mod-lt number (factorial-some n)))

-- an order of n places has n places
pub order_length : (n number : ℕ) → number < factorial n → length (get_or (orders n) number []) ≡ n
unfolding orders
order_length zero zero in_it = refl
order_length zero (suc number) in_it = refl
order_length (suc n) number in_it =
    let q : ℕ = number / factorial n in
    let o : List ℕ = get_or (orders n) (number % factorial n) [] in
    ap (λ (p : List ℕ). length p) (orders-at n number in_it)
    ∙ ap suc (length-map o (passing q) ∙ order_length n (number % factorial n) (mod-lt number (factorial-some n)))

-- passing over a place goes at most one further
passing-below : (i j n : ℕ) → j < n → passing i j < suc n
unfolding passing
passing-below i j n l = go (ltb j i)
  where
    go : (b : Bool) → (if b then j else j + 1) < suc n
    go true = omega arith
    go false = omega arith

-- each of them is below n
pub order_below : (n number i : ℕ) → number < factorial n → i < n → get_or (get_or (orders n) number []) i 0 < n
order_below zero number i in_it in_order_lem = absurd (omega arith)
order_below (suc n) number zero in_it in_order_lem = rw (orders-at n number in_it) (first_below n number in_it)
order_below (suc n) number (suc i) in_it in_order_lem =
    let q : ℕ = number / factorial n in
    let o : List ℕ = get_or (orders n) (number % factorial n) [] in
    let b = mod-lt number (factorial-some n) in
    let l : i < n = omega arith in
    rw (orders-at n number in_it, mapped_at_lem (passing q) o i 0 0 (omega (arith, order_length n (number % factorial n) b)))
    (passing-below q (get_or o i 0) n (order_below n (number % factorial n) i b l))
