-- The orderings that are generated from lists of prefix orderings: how many, and of which keys. Then the keys that are given, each once.
-- The theorems are what is public, with the words that they are stated in; all else serves them.
use Prim.Native.Nat.{ℕ, zero, suc, ◌*◌, ◌<◌, ◌≤◌, ◌/◌, ◌%◌}
use mathlib.Core.Bool.{Bool, true, false, ◌||◌}
use mathlib.Core.List.{List, [], ◌∷◌, ◌++◌, map, append-nil}
use mathlib.Core.Logic.{◌⊎◌, inl, inr}
use Rattle.std.specs.Prelude.{Some}
use mathlib.Core.Path.{◌≡◌, refl, sym, ap, ◌∙◌, subst}
use native.Mathlib.Decide.{ℕ_discrete}
use native.Mathlib.Nat.{mod-lt, div-lt_iff_lt-mul}
use native.Mathlib.Omega.{arith}
use borrow.Author.Tests.{eqb-true, eq-eqb}
use lib.Dec.{eqb}
use lib.ListN.{length, get_or, length-map}
use lib.Seq.{append_snoc}
use Rattle.classes.specs.Group.{among}
use Rattle.classes.specs.Good.{Distinct}
use Rattle.classes.proofs.Places.{count, count-append, count_same, count-other, among-never, among-append, among-either, among_one, get_or-among, distinct-count, count-distinct}
use Rattle.orderings.specs.Ordering.{expr_of, has_expr, pushed, extended}
use Rattle.orderings.specs.Lists.{ordering_at}
use Rattle.orderings.proofs.OneOrdering.{NoneTwice, pushed-there, pushed-new, extended-none_twice}
use Rattle.orderings.proofs.Appending.{append-all}
use Rattle.dependencies.specs.Map.{with_dependency}
use Rattle.products.specs.Orders.{orders, product}
use Rattle.products.specs.Generate.{once_each, chained, in_all_orders, all_orders, generated}
use Rattle.products.specs.Inner.{factorial, times_all, choices}
use Rattle.dependencies.proofs.MapInserts.{with-there, with-new}
use Rattle.products.proofs.OrderLaws.{mapped_at_lem, orders-length, order_length, order_below}
use Rattle.products.proofs.ProductLaws.{product-length, factor_some, product_at, choice_length, generated-length}
pub use Rattle.products.proofs.BoundLaws.{Each, EachOfAll, Full, lists-full}

-- where something contributes, the number of generated orderings is the product of the lists' lengths times the factorial of their number
pub number_of-orderings : (ls : List (List (List ℕ))) → 0 < length ls → length (generated ls) ≡ choices ls * factorial (length ls)
number_of-orderings [] filled = absurd (omega arith)
number_of-orderings (l ∷ ls) filled = generated-length l ls

-- where nothing contributes, nothing is generated
pub none-without : generated [] ≡ []
unfolding generated
none-without = refl

-- ---- what holds of each ordering

-- what holds of the first of a chain, and stays where an ordering of the others is put behind, holds of the chain
chained-holds : (P Q : List ℕ → Type 0) → ((o p : List ℕ) → P o → Q p → P (extended o p)) → (o : List ℕ) (os : List (List ℕ)) → P o → Each Q os → P (chained (o ∷ os))
unfolding chained
chained-holds P Q step o [] h q = h
chained-holds P Q step o (p ∷ os) h q = chained-holds P Q step (extended o p) os (step o p h (q 0 (omega arith))) (λ i l. q (suc i) (omega arith))

module _ (P : List ℕ → Type 0) where
  -- what holds of each ordering of the lists holds of each part of a choice
  choice_holds : (ls : List (List (List ℕ))) → EachOfAll P ls → (n : ℕ) → n < choices ls → Each P (get_or (product ls) n [])
  unfolding times_all
  choice_holds [] h n l = λ i b. absurd (omega (arith, choice_length [] n l))
  choice_holds (xs ∷ ls) h n l =
      let c : ℕ = choices ls in
      let c-some : 0 < c = factor_some (length xs) c n l in
      subst (Each P) (sym (product_at xs ls n l))
      (both (get_or xs (n / c) []) (get_or (product ls) (n % c) []) (h 0 (omega arith) (n / c) ((div-lt_iff_lt-mul c-some).1 l)) (choice_holds ls (λ j b. h (suc j) (omega arith)) (n % c) (mod-lt n c-some)))
    where
      both : (x : List ℕ) (ys : List (List ℕ)) → P x → Each P ys → Each P (x ∷ ys)
      both x ys a b zero l = a
      both x ys a b (suc i) l = b i (omega arith)

  module _ (step : (o p : List ℕ) → P o → P p → P (extended o p)) where
    -- a chain of such orderings is such
    chain-holds : (os : List (List ℕ)) → 0 < length os → Each P os → P (chained os)
    chain-holds [] l h = absurd (omega arith)
    chain-holds (o ∷ os) l h = chained-holds P P step o os (h 0 (omega arith)) (λ i b. h (suc i) (omega arith))

    -- a choice of such orderings gives such orderings
    orders-hold : (c : List (List ℕ)) → 0 < length c → Each P c → Each P (in_all_orders c)
    unfolding in_all_orders
    orders-hold c filled h i l =
        let n : ℕ = length c in
        let b : i < length (orders n) = omega (arith, length-map (orders n) (λ (o : List ℕ). chained (map (λ (j : ℕ). get_or c j []) o))) in
        let f : i < factorial n = omega (arith, orders-length n) in
        let o : List ℕ = get_or (orders n) i [] in
        let s = order_length n i f in
        let t = length-map o (λ (j : ℕ). get_or c j []) in
        subst P (sym (mapped_at_lem (λ (o : List ℕ). chained (map (λ (j : ℕ). get_or c j []) o)) (orders n) i [] [] b))
        (chain-holds (map (λ (j : ℕ). get_or c j []) o) (omega arith)
        (λ j k. let m : j < n = omega arith in
        subst P (sym (mapped_at_lem (λ (j : ℕ). get_or c j []) o j 0 [] (omega arith))) (h (get_or o j 0) (order_below n i j f m))))

    -- choices of such orderings give such orderings
    all_hold : (cs : List (List (List ℕ))) → ((i : ℕ) → i < length cs → 0 < length (get_or cs i [])) → EachOfAll P cs → Each P (all_orders cs)
    unfolding all_orders
    all_hold [] f h = λ i l. absurd (omega arith)
    all_hold (c ∷ cs) f h =
        append-all P (in_all_orders c) (all_orders cs) (orders-hold c (f 0 (omega arith)) (h 0 (omega arith)))
        (all_hold cs (λ i l. f (suc i) (omega arith)) (λ j l. h (suc j) (omega arith)))

    -- what holds of each ordering of the lists, and stays where such an ordering is put behind, holds of what is generated
    generated-holds : (ls : List (List (List ℕ))) → EachOfAll P ls → Each P (generated ls)
    unfolding generated
    generated-holds [] h = λ i l. absurd (omega arith)
    generated-holds (l ∷ ls) h =
        let e = product-length (l ∷ ls) in
        all_hold (product (l ∷ ls)) (λ n b. omega (arith, choice_length (l ∷ ls) n (omega arith))) (λ n b. choice_holds (l ∷ ls) h n (omega arith))

-- ---- keys

-- a key is one of an ordering of one of the lists
pub record KeyOf (ls : List (List (List ℕ))) (k : ℕ) : Type 0 where
  pub list : ℕ
  pub list-below : list < length ls
  pub place : ℕ
  pub place-below : place < length (get_or ls list [])
  pub has : among k (ordering_at (get_or ls list []) place) ≡ true

-- a key that is there after a push was there or is the pushed one
pushed-from : (k : ℕ) (o : List ℕ) (x : ℕ) → among k (pushed o x) ≡ true → (among k o ≡ true) ⊎ (x ≡ k)
pushed-from k o x h = go (has_expr (expr_of x) o) refl
  where
    which : (among k o ≡ true) ⊎ (among k (x ∷ []) ≡ true) → (among k o ≡ true) ⊎ (x ≡ k)
    which (inl a) = inl a
    which (inr a) = inr (among_one k x a)

    go : (b : Bool) → has_expr (expr_of x) o ≡ b → (among k o ≡ true) ⊎ (x ≡ k)
    go true q = inl (rw (pushed-there o x q) at h)
    go false q = which (among-either k o (x ∷ []) (rw (pushed-new o x q) at h))

-- a key of an extended ordering is one of the two
extended-from : (k : ℕ) (o ks : List ℕ) → among k (extended o ks) ≡ true → (among k o ≡ true) ⊎ (among k ks ≡ true)
unfolding extended among
extended-from k o [] h = inl h
extended-from k o (x ∷ ks) h = which (extended-from k (pushed o x) ks h)
  where
    later : (b : Bool) → among k ks ≡ true → (b || among k ks) ≡ true
    later true a = refl
    later false a = a

    which : (among k (pushed o x) ≡ true) ⊎ (among k ks ≡ true) → (among k o ≡ true) ⊎ ((eqb x k || among k ks) ≡ true)
    which (inr a) = inr (later (eqb x k) a)
    which (inl a) = first (pushed-from k o x a)
      where
        first : (among k o ≡ true) ⊎ (x ≡ k) → (among k o ≡ true) ⊎ ((eqb x k || among k ks) ≡ true)
        first (inl b) = inl b
        first (inr e) = inr (rw (eq-eqb x k e))

-- every key of a generated ordering is a key of one of the lists' orderings
pub keys_from-lists : (ls : List (List (List ℕ))) (i k : ℕ) → i < length (generated ls) → k < length (ordering_at (generated ls) i) → KeyOf ls (get_or (ordering_at (generated ls) i) k 0)
keys_from-lists ls i k l b =
    generated-holds From step ls (λ j a n c x h. record { list = j; list-below = a; place = n; place-below = c; has = h }) i l
    (get_or (ordering_at (generated ls) i) k 0) (get_or-among (ordering_at (generated ls) i) k b)
  where
    -- each key of an ordering is one of the lists
    From : List ℕ → Type 0
    From o = (x : ℕ) → among x o ≡ true → KeyOf ls x

    step : (o p : List ℕ) → From o → From p → From (extended o p)
    step o p f g x h = which (extended-from x o p h)
      where
        which : (among x o ≡ true) ⊎ (among x p ≡ true) → KeyOf ls x
        which (inl a) = f x a
        which (inr a) = g x a

-- where the orderings of all lists hold no expression twice, so do the generated ones
pub expressions-once : (ls : List (List (List ℕ))) → EachOfAll NoneTwice ls → Each NoneTwice (generated ls)
expressions-once ls h = generated-holds NoneTwice (λ o p n m. extended-none_twice o p n) ls h

-- ---- the keys that are given, each once

-- a key that was there already makes no difference to which keys are there
there-already : (k d : ℕ) (ks ds : List ℕ) → among d ks ≡ true → among k (ks ++ ds) ≡ among k (ks ++ (d ∷ ds))
unfolding among
there-already k d ks ds h = among-append k ks ds ∙ go (eqb d k) refl ∙ sym (among-append k ks (d ∷ ds))
  where
    go : (b : Bool) → eqb d k ≡ b → (among k ks || among k ds) ≡ (among k ks || (b || among k ds))
    go true q = rw (subst (λ (x : ℕ). among x ks ≡ true) (eqb-true d k q) h)
    go false q = refl

-- the keys after those that came before are those of both
same_from : (k : ℕ) (ks ds : List ℕ) → among k (once_each ks ds) ≡ among k (ks ++ ds)
unfolding once_each
same_from k ks [] = ap (among k) (sym (append-nil ks))
same_from k ks (d ∷ ds) = same_from k (with_dependency ks (Some d)) ds ∙ go (among d ks) refl
  where
    go : (b : Bool) → among d ks ≡ b → among k (with_dependency ks (Some d) ++ ds) ≡ among k (ks ++ (d ∷ ds))
    go true q = rw (with-there ks d q) (there-already k d ks ds q)
    go false q = rw (with-new ks d q, append_snoc ks d ds)

-- one key more, added once, stands there once
with-distinct : (ks : List ℕ) (d : ℕ) → Distinct ks → Distinct (with_dependency ks (Some d))
with-distinct ks d h = go (among d ks) refl
  where
    once : among d ks ≡ false → (e : ℕ) → Dec (d ≡ e) → count e (ks ++ (d ∷ [])) ≤ 1
    once q e (yes s) = subst (λ (x : ℕ). count x (ks ++ (d ∷ [])) ≤ 1) s (omega (arith, count-append d ks (d ∷ []), count_same d, among-never d ks q))
    once q e (no s) = omega (arith, count-append e ks (d ∷ []), count-other e d s, distinct-count ks h e)

    go : (b : Bool) → among d ks ≡ b → Distinct (with_dependency ks (Some d))
    go true q = rw (with-there ks d q) h
    go false q = rw (with-new ks d q) (count-distinct (ks ++ (d ∷ [])) (λ e. once q e (ℕ_discrete d e)))

-- so do all
distinct_from : (ks ds : List ℕ) → Distinct ks → Distinct (once_each ks ds)
unfolding once_each
distinct_from ks [] h = h
distinct_from ks (d ∷ ds) h = distinct_from (with_dependency ks (Some d)) ds (with-distinct ks d h)

-- the last of the given keys is added last
last-from : (ks ds : List ℕ) (d : ℕ) → once_each ks (ds ++ (d ∷ [])) ≡ with_dependency (once_each ks ds) (Some d)
unfolding once_each
last-from ks [] d = refl
last-from ks (x ∷ ds) d = last-from (with_dependency ks (Some x)) ds d

-- of the given keys each stands once: no key stands at two places
pub once-each : (ks : List ℕ) → Distinct (once_each [] ks)
once-each ks = distinct_from [] ks (record { apart = λ i j a b q. omega arith })

-- they are exactly the given keys
pub same_keys : (ks : List ℕ) (k : ℕ) → among k (once_each [] ks) ≡ among k ks
same_keys ks k = same_from k [] ks

-- they stand in order of first arrival: a key that has not been there comes to the end
pub first_arrival : (ks : List ℕ) (k : ℕ) → among k ks ≡ false → once_each [] (ks ++ (k ∷ [])) ≡ once_each [] ks ++ (k ∷ [])
first_arrival ks k h = last-from [] ks k ∙ with-new (once_each [] ks) k (same_keys ks k ∙ h)

-- and a key that has been there changes nothing
pub later_arrival : (ks : List ℕ) (k : ℕ) → among k ks ≡ true → once_each [] (ks ++ (k ∷ [])) ≡ once_each [] ks
later_arrival ks k h = last-from [] ks k ∙ with-there (once_each [] ks) k (same_keys ks k ∙ h)
