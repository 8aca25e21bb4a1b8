-- Products by their numbers, and how many orderings are generated.
use Prim.Native.Nat.{ℕ, zero, suc, ◌+◌, ◌-◌, ◌*◌, ◌<◌, ◌≤◌, ◌/◌, ◌%◌}
use mathlib.Core.List.{List, [], ◌∷◌, ◌++◌, map}
use mathlib.Core.Path.{◌≡◌, refl, ap, ◌∙◌}
use native.Mathlib.Decide.{dec_lt}
use native.Mathlib.Nat.{mod-lt, mod-eq_of_lt, mod-eq-sub-mod, div-eq_of_lt, div-eq-sub-div}
use native.Mathlib.Numerals.{add-one}
use native.Mathlib.Omega.{arith}
use lib.ListN.{length, get_or, length-append, length-map, get_or-append, get_or-map}
use lib.Seq.{get_or-append-add}
use Rattle.orderings.proofs.Codec.{get_d_any}
use Rattle.products.specs.Orders.{before_each, product, orders, beginning, passing}
use Rattle.products.specs.Generate.{in_all_orders, all_orders, generated, chained}
use Rattle.products.specs.Inner.{factorial, times_all, choices}
use Rattle.products.proofs.OrderLaws.{orders-length}

-- each of the first list comes before each of the others
before-length : {A : Type 0} (xs : List A) (yss : List (List A)) → length (before_each xs yss) ≡ length xs * length yss
unfolding before_each
before-length [] yss = omega arith
before-length (x ∷ xs) yss =
    omega (arith, length-append (map (λ ys. x ∷ ys) yss) (before_each xs yss), length-map yss (λ ys. x ∷ ys), before-length xs yss)

-- there are as many choices as the product of the lengths says
pub product-length : {A : Type 0} (ls : List (List A)) → length (product ls) ≡ choices ls
unfolding product times_all
product-length [] = refl
product-length (l ∷ ls) = before-length l (product ls) ∙ ap (λ (n : ℕ). length l * n) (product-length ls)

-- what stands at a place past the first of two lists
append-second : {A : Type 0} (xs ys : List A) (n : ℕ) (d : A) → length xs ≤ n → get_or (xs ++ ys) n d ≡ get_or ys (n - length xs) d
append-second xs ys n d l =
    let e : n ≡ length xs + (n - length xs) = omega arith in
    ap (λ (k : ℕ). get_or (xs ++ ys) k d) e ∙ get_or-append-add xs ys (n - length xs) d

-- a product that is over something has no factor 0
pub factor_some : (a b n : ℕ) → n < a * b → 0 < b
factor_some a zero n l = absurd (omega arith)
factor_some a (suc b) n l = omega arith

-- the element of the first list has the quotient, the others have the remainder
before_at : (xs : List (List ℕ)) (yss : List (List (List ℕ))) (c n : ℕ) → length yss ≡ c → n < length xs * c → get_or (before_each xs yss) n [] ≡ get_or xs (n / c) [] ∷ get_or yss (n % c) []
unfolding before_each
before_at [] yss c n e l = absurd (omega arith)
before_at (x ∷ xs) yss c n e l = at (dec_lt n c) (λ k. before_at xs yss c (n - c) e k)
  where
    firsts : List (List (List ℕ))
    firsts = map (λ ys. x ∷ ys) yss

    long : length firsts ≡ c
    long = length-map yss (λ ys. x ∷ ys) ∙ e

    at : Dec (n < c) → (n - c < length xs * c → get_or (before_each xs yss) (n - c) [] ≡ get_or xs ((n - c) / c) [] ∷ get_or yss ((n - c) % c) [])
        → get_or (firsts ++ before_each xs yss) n [] ≡ get_or (x ∷ xs) (n / c) [] ∷ get_or yss (n % c) []
    at (yes b) r =
        let k : n < length firsts = rw long b in
        rw (div-eq_of_lt b, mod-eq_of_lt b)
        (get_or-append firsts (before_each xs yss) [] n k ∙ get_d_any firsts n [] (x ∷ []) k ∙ get_or-map (λ (ys : List (List ℕ)). x ∷ ys) yss n [])
    at (no b) r =
        let some : 0 < c = factor_some (length (x ∷ xs)) c n l in
        let above : c ≤ n = omega arith in
        let k : length firsts ≤ n = rw long above in
        append-second firsts (before_each xs yss) n [] k ∙ rw (long, div-eq-sub-div some above, mod-eq-sub-mod above, add-one) (r (omega arith))

-- a choice by its number: of the first list the one with the quotient, of the others the choice with the remainder
pub product_at : (l : List (List ℕ)) (ls : List (List (List ℕ))) (number : ℕ) → number < choices (l ∷ ls) → get_or (product (l ∷ ls)) number [] ≡ get_or l (number / choices ls) [] ∷ get_or (product ls) (number % choices ls) []
unfolding product times_all
product_at l ls number in_it = before_at l (product ls) (choices ls) number (product-length ls) in_it

-- a choice has one ordering of each list
pub choice_length : (ls : List (List (List ℕ))) (number : ℕ) → number < choices ls → length (get_or (product ls) number []) ≡ length ls
unfolding product times_all
choice_length [] zero in_it = refl
choice_length [] (suc number) in_it = absurd (omega arith)
choice_length (l ∷ ls) number in_it =
    ap (λ (o : List (List ℕ)). length o) (before_at l (product ls) (choices ls) number (product-length ls) in_it)
    ∙ ap suc (choice_length ls (number % choices ls) (mod-lt number (factor_some (length l) (choices ls) number in_it)))

-- choices of one ordering give these orderings
each-one : (l : List (List ℕ)) → all_orders (before_each l ([] ∷ [])) ≡ l
unfolding before_each all_orders in_all_orders orders beginning passing chained
each-one [] = refl
each-one (o ∷ os) = ap (λ (t : List (List ℕ)). o ∷ t) (each-one os)

-- one list gives its orderings
pub generated-one : (l : List (List ℕ)) → generated (l ∷ []) ≡ l
unfolding generated product
generated-one l = each-one l

-- where each choice has n orderings, each gives as many as there are orders of n places
all-length : (n : ℕ) (cs : List (List (List ℕ))) → ((i : ℕ) → i < length cs → length (get_or cs i []) ≡ n) → length (all_orders cs) ≡ length cs * factorial n
unfolding all_orders in_all_orders
all-length n [] h = omega arith
all-length n (c ∷ cs) h =
    let first : length (in_all_orders c) ≡ factorial n = length-map (orders (length c)) (λ (o : List ℕ). chained (map (λ (i : ℕ). get_or c i []) o)) ∙ orders-length (length c) ∙ ap factorial (h 0 (omega arith)) in
    let rest = all-length n cs (λ i l. h (suc i) (omega arith)) in
    omega (arith, length-append (in_all_orders c) (all_orders cs), first, rest)

-- where something contributes, the number of orderings is the product of the lists' lengths times the factorial of their number
pub generated-length : (l : List (List ℕ)) (ls : List (List (List ℕ))) → length (generated (l ∷ ls)) ≡ choices (l ∷ ls) * factorial (length (l ∷ ls))
unfolding generated
generated-length l ls =
    let whole = product-length (l ∷ ls) in
    all-length (length (l ∷ ls)) (product (l ∷ ls)) (λ i b. choice_length (l ∷ ls) i (rw whole at b)) ∙ ap (λ (n : ℕ). n * factorial (length (l ∷ ls))) whole
