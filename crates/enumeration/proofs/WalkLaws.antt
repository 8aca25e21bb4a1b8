-- The walk from a key doesn't depend on the count of pairs that bounds it: each pair is expanded once, so the count is never used up.
use Rattle.std.specs.Prelude.{if◌then◌else◌, Option, None, Some}
use Prim.Native.Nat.{ℕ, zero, suc, ◌+◌, ◌<◌, ◌≤◌}
use mathlib.Core.Bool.{Bool, true, false, ◌&&◌, ◌||◌, or-true}
use mathlib.Core.List.{List, [], ◌∷◌, ◌++◌, map}
use mathlib.Core.Logic.{◌⊎◌, inl, inr}
use mathlib.Core.Path.{◌≡◌, refl, sym, ap, ◌∙◌, subst}
use native.Mathlib.Omega.{arith}
use borrow.Author.Tests.{eq-eqb}
use lib.Dec.{eqb}
use lib.ListN.{length, get_or}
use Rattle.laws.proofs.Booleans.{true_not_false}
use Rattle.orderings.specs.Ordering.{pushed}
use Rattle.dependencies.specs.Map.{Dependent, entry_at, place_of}
use Rattle.enumeration.specs.Walk.{Walk, found, stopped, go_on, is_seen, over_dependencies, at_target, at_entry, at_place, constructed, pairs, construct_orderings, over_start, prefix_orderings}

-- how many of some dependencies of a target were not expanded
unfoldable pub unseen_of : ℕ → List ℕ → List (ℕ × ℕ) → ℕ
unseen_of t [] s = 0
unseen_of t (d ∷ ds) s = (if is_seen t d s then 0 else 1) + unseen_of t ds s

-- how many pairs of an entry were not expanded; without a target it has none
unfoldable pub unseen_at : Option ℕ → List ℕ → List (ℕ × ℕ) → ℕ
unseen_at None ds s = 0
unseen_at (Some t) ds s = unseen_of t ds s

-- how many pairs of a map were not expanded
unfoldable pub unseen : List Dependent → List (ℕ × ℕ) → ℕ
unseen [] s = 0
unseen (e ∷ m) s = unseen_at e.target e.dependencies s + unseen m s

-- what is expanded in the first account is expanded in the second
abbrev pub Grows : List (ℕ × ℕ) → List (ℕ × ℕ) → Type 0
Grows s u = (t d : ℕ) → is_seen t d s ≡ true → is_seen t d u ≡ true

-- what was expanded still is with a pair more at the end
seen_more : (t d : ℕ) (s : List (ℕ × ℕ)) (p : ℕ × ℕ) → is_seen t d s ≡ true → is_seen t d (s ++ (p ∷ [])) ≡ true
unfolding is_seen
seen_more t d [] p e = absurd (true_not_false e refl)
seen_more t d (q ∷ s) p e = go (eqb q.0 t && eqb q.1 d) e (seen_more t d s p)
  where
    go : (b : Bool) → (b || is_seen t d s) ≡ true → (is_seen t d s ≡ true → is_seen t d (s ++ (p ∷ [])) ≡ true) → (b || is_seen t d (s ++ (p ∷ []))) ≡ true
    go true h f = refl
    go false h f = f h

-- and that pair is expanded then
seen_last : (t d : ℕ) (s : List (ℕ × ℕ)) → is_seen t d (s ++ ((t, d) ∷ [])) ≡ true
unfolding is_seen
seen_last t d [] = rw (eq-eqb t t refl, eq-eqb d d refl)
seen_last t d (q ∷ s) = rw (seen_last t d s) (or-true (eqb q.0 t && eqb q.1 d))

-- of some dependencies, at most all are unseen
unseen_of-few : (t : ℕ) (ds : List ℕ) (s : List (ℕ × ℕ)) → unseen_of t ds s ≤ length ds
unfolding unseen_of
unseen_of-few t [] s = omega arith
unseen_of-few t (d ∷ ds) s = go (is_seen t d s) (unseen_of-few t ds s)
  where
    go : (b : Bool) → unseen_of t ds s ≤ length ds → (if b then 0 else 1) + unseen_of t ds s ≤ suc (length ds)
    go true h = omega arith
    go false h = omega arith

-- so it is at an entry
unseen_at-few : (o : Option ℕ) (ds : List ℕ) (s : List (ℕ × ℕ)) → unseen_at o ds s ≤ length ds
unfolding unseen_at
unseen_at-few None ds s = omega arith
unseen_at-few (Some t) ds s = unseen_of-few t ds s

-- no more pairs are unseen than the map has
pub unseen-few : (m : List Dependent) (s : List (ℕ × ℕ)) → unseen m s ≤ pairs m
unfolding unseen pairs
unseen-few [] s = omega arith
unseen-few (e ∷ m) s = omega (arith, unseen_at-few e.target e.dependencies s, unseen-few m s)

-- an account that has all of another, and perhaps more
module _ (s u : List (ℕ × ℕ)) (g : Grows s u) where
  -- a pair that counts as unseen counted before
  one_less : (t d : ℕ) → (if is_seen t d u then 0 else 1) ≤ (if is_seen t d s then 0 else 1)
  one_less t d = go (is_seen t d s) (is_seen t d u) (g t d)
    where
      go : (a b : Bool) → (a ≡ true → b ≡ true) → (if b then 0 else 1) ≤ (if a then 0 else 1)
      go true true f = omega arith
      go true false f = absurd (true_not_false (f refl) refl)
      go false true f = omega arith
      go false false f = omega arith

  -- no more of some dependencies are unseen
  unseen_of-less : (t : ℕ) (ds : List ℕ) → unseen_of t ds u ≤ unseen_of t ds s
  unfolding unseen_of
  unseen_of-less t [] = omega arith
  unseen_of-less t (d ∷ ds) = omega (arith, one_less t d, unseen_of-less t ds)

  -- no more pairs of an entry are unseen
  unseen_at-less : (o : Option ℕ) (ds : List ℕ) → unseen_at o ds u ≤ unseen_at o ds s
  unfolding unseen_at
  unseen_at-less None ds = omega arith
  unseen_at-less (Some t) ds = unseen_of-less t ds

  -- no more pairs of a map are unseen
  pub unseen-less : (m : List Dependent) → unseen m u ≤ unseen m s
  unfolding unseen
  unseen-less [] = omega arith
  unseen-less (e ∷ m) = omega (arith, unseen_at-less e.target e.dependencies, unseen-less m)

  -- a pair that it has and the other has not
  module _ (t d : ℕ) (new : is_seen t d s ≡ false) (now : is_seen t d u ≡ true) where
    -- where its dependency is one of some, fewer of these are unseen
    unseen_of_falls : (ds : List ℕ) (j : ℕ) → j < length ds → get_or ds j 0 ≡ d → unseen_of t ds u < unseen_of t ds s
    unfolding unseen_of
    unseen_of_falls [] j l e = absurd (omega arith)
    unseen_of_falls (x ∷ ds) zero l e = rw (e, new, now) (omega (arith, unseen_of-less t ds))
    unseen_of_falls (x ∷ ds) (suc j) l e = omega (arith, one_less t x, unseen_of_falls ds j (omega arith) e)

    -- where it stands in a map, fewer pairs of the map are unseen
    pub unseen_falls : (m : List Dependent) (i j : ℕ) → (entry_at m i).target ≡ Some t → j < length (entry_at m i).dependencies → get_or (entry_at m i).dependencies j 0 ≡ d → unseen m u < unseen m s
    unfolding unseen unseen_at
    unseen_falls [] i j o l e = absurd (omega arith)
    unseen_falls (x ∷ m) zero j o l e = rw o (omega (arith, unseen_of_falls x.dependencies j l e, unseen-less m))
    unseen_falls (x ∷ m) (suc i) j o l e = omega (arith, unseen_at-less x.target x.dependencies, unseen_falls m i j o l e)

-- two walks are one: they found the same and what was expanded before still is; or they stopped with 6 or 7
data Settled (s : List (ℕ × ℕ)) : Walk → Walk → Type 0 where
  goes : (os : List (List ℕ)) (u : List (ℕ × ℕ)) → Grows s u → Settled s (found os u) (found os u)
  stops : (j : ℕ) → (j ≡ 6) ⊎ (j ≡ 7) → Settled s (stopped j) (stopped j)

-- they are equal
settled_is : {s : List (ℕ × ℕ)} {w v : Walk} → Settled s w v → w ≡ v
settled_is (goes os u g) = refl
settled_is (stops j e) = refl

-- where they are one, and so is what goes on after them, the whole is one
settled_on : {s : List (ℕ × ℕ)} {w v : Walk} (f h : List (List ℕ) → List (ℕ × ℕ) → Walk) → Settled s w v → ((os : List (List ℕ)) (u : List (ℕ × ℕ)) → Grows s u → Settled s (f os u) (h os u)) → Settled s (go_on w f) (go_on v h)
unfolding go_on
settled_on f h (goes os u g) k = k os u g
settled_on f h (stops j e) k = stops j e

-- two walks that are one are so too as seen from an account that has less
settled-from : {s u : List (ℕ × ℕ)} {w v : Walk} → Grows s u → Settled u w v → Settled s w v
settled-from g (goes os v h) = goes os v (λ t d e. h t d (g t d e))
settled-from g (stops j e) = stops j e

-- a dependency of a target stands in the map
record Stands (m : List Dependent) (t d : ℕ) : Type 0 where
  place : ℕ
  among : ℕ
  target : (entry_at m place).target ≡ Some t
  inside : among < length (entry_at m place).dependencies
  is : get_or (entry_at m place).dependencies among 0 ≡ d

-- two accounts of the walks from each key that agree wherever fewer than n pairs are unseen
module _ (m : List Dependent) (n : ℕ) (a b : ℕ → List (ℕ × ℕ) → Walk) (agree : (k : ℕ) (u : List (ℕ × ℕ)) → unseen m u < n → Settled u (a k u) (b k u)) where
  -- they agree over the dependencies of a target of the map
  settled-over : (t : ℕ) (ds : List ℕ) (s : List (ℕ × ℕ)) → unseen m s ≤ n → ((j : ℕ) → j < length ds → Stands m t (get_or ds j 0)) → Settled s (over_dependencies a t ds s) (over_dependencies b t ds s)
  unfolding over_dependencies
  settled-over t [] s l st = goes [] s (λ x y e. e)
  settled-over t (d ∷ ds) s l st = go (is_seen t d s) refl (λ u h. settled-over t ds u h (λ j i. st (suc j) (omega arith)))
    where
      -- what comes after the walk below the pair
      rest : (ℕ → List (ℕ × ℕ) → Walk) → List (List ℕ) → List (ℕ × ℕ) → Walk
      rest at os u = go_on (over_dependencies at t ds u) (λ ps v. found (map (λ (o : List ℕ). pushed o t) os ++ ps) v)

      go : (q : Bool) → is_seen t d s ≡ q → ((u : List (ℕ × ℕ)) → unseen m u ≤ n → Settled u (over_dependencies a t ds u) (over_dependencies b t ds u))
          → Settled s (if q then over_dependencies a t ds s else go_on (a d (s ++ ((t, d) ∷ []))) (rest a)) (if q then over_dependencies b t ds s else go_on (b d (s ++ ((t, d) ∷ []))) (rest b))
      go true q f = f s l
      go false q f =
          let s' : List (ℕ × ℕ) = s ++ ((t, d) ∷ []) in
          let more : Grows s s' = λ x y e. seen_more x y s (t, d) e in
          let p = st 0 (omega arith) in
          let fewer : unseen m s' < unseen m s = unseen_falls s s' more t d q (seen_last t d s) m p.place p.among p.target p.inside p.is in
          settled_on (rest a) (rest b) (settled-from more (agree d s' (omega arith)))
          (λ os u g. settled_on (λ ps v. found (map (λ (o : List ℕ). pushed o t) os ++ ps) v) (λ ps v. found (map (λ (o : List ℕ). pushed o t) os ++ ps) v)
          (settled-from g (f u (omega (arith, unseen-less s u g m)))) (λ ps v h. goes (map (λ (o : List ℕ). pushed o t) os ++ ps) v h))

  -- at a target of the map
  settled-target : (t : ℕ) (ds : List ℕ) (s : List (ℕ × ℕ)) → unseen m s ≤ n → ((j : ℕ) → j < length ds → Stands m t (get_or ds j 0)) → Settled s (at_target a t ds s) (at_target b t ds s)
  unfolding at_target
  settled-target t [] s l st = goes ((t ∷ []) ∷ []) s (λ x y e. e)
  settled-target t (d ∷ ds) s l st = settled-over t (d ∷ ds) s l st

  -- at an entry of the map
  settled-entry : (i : ℕ) (o : Option ℕ) (s : List (ℕ × ℕ)) → unseen m s ≤ n → (entry_at m i).target ≡ o → Settled s (at_entry a o (entry_at m i).dependencies s) (at_entry b o (entry_at m i).dependencies s)
  unfolding at_entry
  settled-entry i None s l e = stops 7 (inr refl)
  settled-entry i (Some t) s l e = settled-target t (entry_at m i).dependencies s l (λ j h. record { place = i; among = j; target = e; inside = h; is = refl })

  -- at a place of the map
  settled-place : (o : Option ℕ) (s : List (ℕ × ℕ)) → unseen m s ≤ n → Settled s (at_place a m o s) (at_place b m o s)
  unfolding at_place
  settled-place None s l = stops 6 (inl refl)
  settled-place (Some i) s l = settled-entry i (entry_at m i).target s l refl

-- a count that is greater than the number of unseen pairs, and the next count, give one walk
settled : (n : ℕ) (m : List Dependent) (k : ℕ) (s : List (ℕ × ℕ)) → unseen m s < n → Settled s (constructed n m k s) (constructed (suc n) m k s)
unfolding constructed
settled zero m k s l = absurd (omega arith)
settled (suc n) m k s l = settled-place m n (constructed n m) (constructed (suc n) m) (λ x u h. settled n m x u h) (place_of m k) s (omega arith)

-- so does each larger count
larger : (j n : ℕ) (m : List Dependent) (k : ℕ) (s : List (ℕ × ℕ)) → unseen m s < n → constructed n m k s ≡ constructed (n + j) m k s
larger zero n m k s l = let e : n + 0 ≡ n = omega arith in rw e
larger (suc j) n m k s l = let e : n + suc j ≡ suc n + j = omega arith in rw e (settled_is (settled n m k s l) ∙ larger j (suc n) m k s (omega arith))

-- the count of a walk is never used up: each count that is greater than the number of unseen pairs gives the same walk
pub never-left : (m : List Dependent) (k : ℕ) (s : List (ℕ × ℕ)) (n : ℕ) → unseen m s < n → constructed n m k s ≡ construct_orderings m k s
unfolding construct_orderings
never-left m k s n l =
    let e : n + suc (pairs m) ≡ suc (pairs m) + n = omega arith in
    larger (suc (pairs m)) n m k s l ∙ ap (λ (x : ℕ). constructed x m k s) e ∙ sym (larger n (suc (pairs m)) m k s (omega (arith, unseen-few m s)))

-- the walk from a key is the one with a count more
walk-settled : (m : List Dependent) (k : ℕ) (s : List (ℕ × ℕ)) → Settled s (construct_orderings m k s) (constructed (suc (suc (pairs m))) m k s)
unfolding construct_orderings
walk-settled m k s = settled (suc (pairs m)) m k s (omega (arith, unseen-few m s))

-- the walk from a key, as a reader expects it: without the count
pub walk_from_lem : (m : List Dependent) (k : ℕ) (s : List (ℕ × ℕ)) → construct_orderings m k s ≡ at_place (construct_orderings m) m (place_of m k) s
unfolding constructed construct_orderings
walk_from_lem m k s = settled_is (walk-settled m k s)

-- a walk stops with 6 or 7 only
pub stops-by : (m : List Dependent) (k : ℕ) (s : List (ℕ × ℕ)) (j : ℕ) → construct_orderings m k s ≡ stopped j → (j ≡ 6) ⊎ (j ≡ 7)
stops-by m k s j e = go (walk-settled m k s) e
  where
    go : {w v : Walk} → Settled s w v → w ≡ stopped j → (j ≡ 6) ⊎ (j ≡ 7)
    go (goes os u g) q = absurd (let z : ◌≡◌ {A = ℕ} 0 1 = cc in omega arith)
    go (stops i p) q = let r : i ≡ j = cc in subst (λ (x : ℕ). (x ≡ 6) ⊎ (x ≡ 7)) r p

-- what was expanded before a walk still is after it
pub account-grows : (m : List Dependent) (k : ℕ) (s : List (ℕ × ℕ)) (os : List (List ℕ)) (u : List (ℕ × ℕ)) (t d : ℕ) → construct_orderings m k s ≡ found os u → is_seen t d s ≡ true → is_seen t d u ≡ true
account-grows m k s os u t d e = go (walk-settled m k s) e
  where
    go : {w v : Walk} → Settled s w v → w ≡ found os u → is_seen t d s ≡ true → is_seen t d u ≡ true
    go (goes ps x g) q h = let r : x ≡ u = cc in subst (λ (y : List (ℕ × ℕ)). is_seen t d y ≡ true) r (g t d h)
    go (stops i p) q h = absurd (let z : ◌≡◌ {A = ℕ} 0 1 = cc in omega arith)

-- the prefix orderings of a key that is in the map: the walks from its dependencies
pub prefix-there : (m : List Dependent) (k i : ℕ) → place_of m k ≡ Some i → prefix_orderings m k ≡ over_start m (entry_at m i).dependencies []
unfolding prefix_orderings
prefix-there m k i e = rw e

-- a key that is not in the map is 6
pub prefix-missing : (m : List Dependent) (k : ℕ) → place_of m k ≡ None → prefix_orderings m k ≡ stopped 6
unfolding prefix_orderings
prefix-missing m k e = rw e
