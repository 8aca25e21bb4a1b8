-- The bounds of an answer bound the prefix orderings that it is made of: each of them begins some ordering of the answer.
use Prim.Native.Nat.{ℕ, zero, suc, ◌+◌, ◌*◌, ◌<◌, ◌≤◌, ◌/◌, ◌%◌}
use mathlib.Core.Bool.{true}
use mathlib.Core.List.{List, [], ◌∷◌, ◌++◌, map}
use mathlib.Core.Path.{◌≡◌, refl, ap, ◌∙◌, subst}
use native.Mathlib.Nat.{mul-le-mul_left, mul-le-mul_right, mul-pos, le-mul_of_pos_right}
use native.Mathlib.Omega.{arith}
use borrow.Author.Tests.{leb-true, le-leb}
use lib.Arith.{digits_lt, digits_div, digits_mod}
use lib.Dec.{leb}
use lib.ListN.{length, get_or, length-append, length-map, get_or-append}
use lib.Seq.{get_or-append-add}
use Rattle.laws.proofs.Booleans.{and_left, and_right, and_both}
use Rattle.orderings.specs.Lists.{ordering_at}
use Rattle.orderings.specs.Inner.{all_short}
use Rattle.orderings.proofs.Appending.{append-all, AllShort, short-test, test_short}
use Rattle.dependencies.specs.Map.{Dependent}
use Rattle.enumeration.specs.Walk.{Walk, found, stopped, prefix_orderings}
use Rattle.enumeration.specs.Bounds.{fitting}
use Rattle.products.specs.Orders.{passing, orders, product}
use Rattle.products.specs.Generate.{Lists, lists, stops, with_list, contributing, chained, in_all_orders, all_orders, generated}
use Rattle.products.specs.Inner.{joined, factorial, times_all, choices}
use Rattle.products.proofs.Chains.{chained-grows}
use Rattle.products.proofs.OrderLaws.{mapped_at_lem, factorial-some, orders-length, orders-at}
use Rattle.products.proofs.ProductLaws.{product-length, product_at, choice_length, generated-length}

-- each ordering of a list is such
abbrev pub Each : (List ℕ → Type 0) → List (List ℕ) → Type 0
Each P os = (i : ℕ) → i < length os → P (ordering_at os i)

-- each ordering of each list is such
abbrev pub EachOfAll : (List ℕ → Type 0) → List (List (List ℕ)) → Type 0
EachOfAll P ls = (j : ℕ) → j < length ls → Each P (get_or ls j [])

-- no list is empty
abbrev pub Full : List (List (List ℕ)) → Type 0
Full ls = (j : ℕ) → j < length ls → 0 < length (get_or ls j [])

-- one more walk leaves no empty list
with-full : (w : Walk) (x : Lists) → ((ls : List (List (List ℕ))) → x ≡ lists ls → Full ls) → (ls : List (List (List ℕ))) → with_list w x ≡ lists ls → Full ls
unfolding with_list
with-full (stopped k) x h ls e = absurd (let z : ◌≡◌ {A = ℕ} 0 1 = cc in omega arith)
with-full (found [] seen) x h ls e = h ls e
with-full (found (o ∷ os) seen) (stops k) h ls e = absurd (let z : ◌≡◌ {A = ℕ} 0 1 = cc in omega arith)
with-full (found (o ∷ os) seen) (lists qs) h ls e = let q : (o ∷ os) ∷ qs ≡ ls = cc in subst Full q (more (h qs refl))
  where
    more : Full qs → Full ((o ∷ os) ∷ qs)
    more f zero l = omega arith
    more f (suc j) l = f j (omega arith)

-- of the lists that contribute none is empty
pub lists-full : (m : List Dependent) (ks : List ℕ) (ls : List (List (List ℕ))) → contributing m ks ≡ lists ls → Full ls
unfolding contributing
lists-full m [] ls e = let q : [] ≡ ls = cc in subst Full q (λ j l. absurd (omega arith))
lists-full m (k ∷ ks) ls e = with-full (prefix_orderings m k) (contributing m ks) (lists-full m ks) ls e

-- what holds of each of two lists together holds of each of the first
each_left : (P : List ℕ → Type 0) (os ps : List (List ℕ)) → Each P (os ++ ps) → Each P os
each_left P os ps h i l = subst P (get_or-append os ps [] i l) (h i (omega (arith, length-append os ps)))

-- and of each of the second
each_right : (P : List ℕ → Type 0) (os ps : List (List ℕ)) → Each P (os ++ ps) → Each P ps
each_right P os ps h i l = subst P (get_or-append-add os ps i []) (h (length os + i) (omega (arith, length-append os ps)))

-- what holds of each ordering of the lists holds of each of all
joined-holds : (P : List ℕ → Type 0) (ls : List (List (List ℕ))) → EachOfAll P ls → Each P (joined ls)
unfolding joined
joined-holds P [] h = λ i l. absurd (omega arith)
joined-holds P (l ∷ ls) h = append-all P l (joined ls) (h 0 (omega arith)) (joined-holds P ls (λ j b. h (suc j) (omega arith)))

-- what holds of each ordering of all choices holds of each of one
orders-of : (P : List ℕ → Type 0) (cs : List (List (List ℕ))) → Each P (all_orders cs) → (n : ℕ) → n < length cs → Each P (in_all_orders (get_or cs n []))
unfolding all_orders
orders-of P [] h n l = absurd (omega arith)
orders-of P (c ∷ cs) h zero l = each_left P (in_all_orders c) (all_orders cs) h
orders-of P (c ∷ cs) h (suc n) l = orders-of P cs (each_right P (in_all_orders c) (all_orders cs) h) n (omega arith)

-- lists that are not empty give a choice
choices-some : (ls : List (List (List ℕ))) → Full ls → 0 < choices ls
unfolding times_all
choices-some [] f = omega arith
choices-some (l ∷ ls) f = mul-pos (f 0 (omega arith)) (choices-some ls (λ j b. f (suc j) (omega arith)))

-- every ordering of every list is part of a choice
choice_with : (ls : List (List (List ℕ))) → Full ls → (j i : ℕ) → j < length ls → i < length (get_or ls j [])
    → (n : ℕ) × (n < choices ls) × (ordering_at (get_or (product ls) n []) j ≡ ordering_at (get_or ls j []) i)
unfolding times_all
choice_with [] f j i a b = absurd (omega arith)
choice_with (l ∷ ls) f zero i a b =
    let c : ℕ = choices ls in
    let r : 0 < c = choices-some ls (λ j b. f (suc j) (omega arith)) in
    let n : i * c + 0 < length l * c = digits_lt b r in
    (i * c + 0, n, ap (λ (o : List (List ℕ)). ordering_at o 0) (product_at l ls (i * c + 0) n) ∙ ap (λ (k : ℕ). ordering_at l k) (digits_div i r))
choice_with (l ∷ ls) f (suc j) i a b =
    let c : ℕ = choices ls in
    let r = choice_with ls (λ j b. f (suc j) (omega arith)) j i (omega arith) b in
    let n : 0 * c + r.0 < length l * c = digits_lt (f 0 (omega arith)) r.1 in
    (0 * c + r.0, n, ap (λ (o : List (List ℕ)). ordering_at o (suc j)) (product_at l ls (0 * c + r.0) n) ∙ ap (λ (k : ℕ). ordering_at (get_or (product ls) k []) j) (digits_mod 0 r.1) ∙ r.2)

-- every place leads an order
order_led : (n p : ℕ) → p < n → (number : ℕ) × (number < factorial n) × (rest : List ℕ) × (get_or (orders n) number [] ≡ p ∷ rest)
unfolding factorial
order_led zero p l = absurd (omega arith)
order_led (suc n) p l =
    let r = factorial-some n in
    let f : ℕ = factorial n in
    let b : p * f + 0 < suc n * f = digits_lt l r in
    let k : ℕ = (p * f + 0) / f in
    let rest : List ℕ = map (passing k) (get_or (orders n) ((p * f + 0) % f) []) in
    (p * f + 0, b, rest, orders-at n (p * f + 0) b ∙ ap (λ (q : ℕ). q ∷ rest) (digits_div p r))

-- where all orders of a choice have at most 16 keys, so have its parts: each leads an order
parts-short : (c : List (List ℕ)) → AllShort (in_all_orders c) → AllShort c
unfolding in_all_orders
parts-short c h p l =
    let n : ℕ = length c in
    let w = order_led n p l in
    let at : ℕ → List ℕ = λ j. get_or c j [] in
    let in_order_lem : List ℕ → List ℕ = λ o. chained (map at o) in
    let b : w.0 < length (orders n) = omega (arith, orders-length n, w.1) in
    let s = h w.0 (omega (arith, length-map (orders n) in_order_lem)) in
    let e = ap (λ (o : List ℕ). length o) (mapped_at_lem in_order_lem (orders n) w.0 [] [] b ∙ ap in_order_lem w.3) in
    omega (arith, chained-grows (at p) (map at w.2))

-- there are no more prefix orderings than lists times choices
joined-few : (ls : List (List (List ℕ))) → Full ls → length (joined ls) ≤ length ls * choices ls
unfolding joined times_all
joined-few [] f = omega arith
joined-few (l ∷ ls) f =
    let g : Full ls = λ j b. f (suc j) (omega arith) in
    let c : ℕ = choices ls in
    let a : length l ≤ length l * c = le-mul_of_pos_right (length l) (choices-some ls g) in
    let b : c ≤ c * length l = le-mul_of_pos_right c (f 0 (omega arith)) in
    let d : length ls * c ≤ length ls * (c * length l) = mul-le-mul_left (length ls) b in
    omega (arith, length-append l (joined ls), joined-few ls g)

-- a number is at most its factorial
factorial-over : (n : ℕ) → n ≤ factorial n
unfolding factorial
factorial-over zero = omega arith
factorial-over (suc n) = le-mul_of_pos_right (suc n) (factorial-some n)

-- there are no more prefix orderings than generated ones
joined-fewer : (ls : List (List (List ℕ))) → Full ls → length (joined ls) ≤ length (generated ls)
unfolding joined generated
joined-fewer [] f = omega arith
joined-fewer (l ∷ ls) f =
    omega (arith, joined-few (l ∷ ls) f, generated-length l ls, mul-le-mul_right (choices (l ∷ ls)) (factorial-over (length (l ∷ ls))))

-- where the generated orderings have at most 16 keys, so have the prefix orderings
prefixes-short : (ls : List (List (List ℕ))) → Full ls → AllShort (generated ls) → EachOfAll (λ (o : List ℕ). length o ≤ 16) ls
unfolding generated
prefixes-short [] f h j a i b = absurd (omega arith)
prefixes-short (l ∷ ls) f h j a i b =
    let w = choice_with (l ∷ ls) f j i a b in
    let c : List (List ℕ) = get_or (product (l ∷ ls)) w.0 [] in
    let s = parts-short c (orders-of (λ (o : List ℕ). length o ≤ 16) (product (l ∷ ls)) h w.0 (omega (arith, product-length (l ∷ ls), w.1))) in
    let k : j < length c = omega (arith, choice_length (l ∷ ls) w.0 w.1) in
    subst (λ (o : List ℕ). length o ≤ 16) w.2 (s j k)

-- where no list is empty, the bounds of the answer bound the prefix orderings too, in number and in keys
pub prefix_bounds_follow : (ls : List (List (List ℕ))) → Full ls → fitting (generated ls) ≡ true → fitting (joined ls) ≡ true
unfolding fitting all_short
prefix_bounds_follow ls f h =
    let few : length (generated ls) ≤ 1024 = leb-true (length (generated ls)) 1024 (and_left (leb (length (generated ls)) 1024) (all_short (generated ls)) h) in
    let short = test_short (generated ls) (and_right (leb (length (generated ls)) 1024) (all_short (generated ls)) h) in
    and_both (le-leb (length (joined ls)) 1024 (omega (arith, joined-fewer ls f)))
    (short-test (joined ls) (joined-holds (λ (o : List ℕ). length o ≤ 16) ls (prefixes-short ls f short)))
