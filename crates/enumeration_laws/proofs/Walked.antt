-- Theorems on the walk over a dependency map: that it ends, and what the orderings are that it finds. They hold for every map, also for one with cycles.
use Rattle.std.specs.Prelude.{if◌then◌else◌, Option, None, Some}
use Prim.Native.Nat.{ℕ, zero, suc, ◌<◌, ◌≤◌}
use mathlib.Core.Bool.{Bool, true, false}
use mathlib.Core.List.{List, [], ◌∷◌, ◌++◌, map}
use mathlib.Core.Logic.{◌⊎◌, inl}
use mathlib.Core.Path.{◌≡◌, refl, sym, ap, ◌∙◌, subst}
use native.Mathlib.Decide.{ℕ_discrete}
use native.Mathlib.Omega.{arith}
use lib.Dec.{eqb}
use lib.ListN.{length, get_or, length-append, length-map, get_or-append}
use lib.Seq.{get_or_at}
use Rattle.laws.proofs.First.{first_some}
use Rattle.classes.specs.Group.{among}
use Rattle.classes.proofs.Places.{among-left, among-right, one-among}
use Rattle.orderings.specs.Ordering.{expr_of, has_expr, pushed, extended}
use Rattle.orderings.specs.Lists.{ordering_at}
use Rattle.orderings.specs.Good.{GoodOrdering}
use Rattle.orderings.proofs.OneOrdering.{NoneTwice, place-has, pushed-there, pushed-new, pushed-has, pushed-none_twice}
use Rattle.orderings.proofs.Extending.{extended-grows}
use Rattle.orderings.proofs.Appending.{append-all}
use Rattle.dependencies.specs.Map.{Dependent, entry_at, place_of}
use Rattle.enumeration.specs.Walk.{Walk, found, stopped, go_on, is_seen, over_dependencies, at_target, at_entry, at_place, constructed, pairs, construct_orderings, over_start, prefix_orderings}
use Rattle.enumeration.proofs.WalkLaws.{unseen-few, never-left, walk_from_lem, stops-by, prefix-there, prefix-missing}
use Rattle.products.specs.Generate.{Lists, lists, stops, with_list, contributing}
use Rattle.products.proofs.OrderLaws.{mapped_at_lem}

-- ---- The walk ends

-- a walk stops with 6 or 7 only
abbrev pub SixOrSeven : Walk → Type 0
SixOrSeven w = (j : ℕ) → w ≡ stopped j → (j ≡ 6) ⊎ (j ≡ 7)

-- the walk from a key ends: every count above the number of pairs gives the same walk, the walk meets its equation without a count, and it stops with 6 or 7 only
pub record Ends (m : List Dependent) (k : ℕ) (s : List (ℕ × ℕ)) : Type 0 where
  pub every_count : (n : ℕ) → pairs m < n → constructed n m k s ≡ construct_orderings m k s
  pub without-count : construct_orderings m k s ≡ at_place (construct_orderings m) m (place_of m k) s
  pub six-or-seven : SixOrSeven (construct_orderings m k s)

-- the walk from every key of every map ends
pub walk_ends : (m : List Dependent) (k : ℕ) (s : List (ℕ × ℕ)) → Ends m k s
walk_ends m k s = record {
  every_count = λ n l. never-left m k s n (omega (arith, unseen-few m s));
  without-count = walk_from_lem m k s;
  six-or-seven = stops-by m k s;
}

-- ---- The start of a prefix enumeration

-- a start that is not in the map is 6
pub start-missing : (m : List Dependent) (k : ℕ) → place_of m k ≡ None → prefix_orderings m k ≡ stopped 6
start-missing = prefix-missing

-- of the start's entry only the dependencies count: what its target is, or whether it has one, is not asked (a walk that comes back to the start asks for its target as for any other)
pub start_needs_no_target : (m : List Dependent) (k i : ℕ) → place_of m k ≡ Some i → prefix_orderings m k ≡ over_start m (entry_at m i).dependencies []
start_needs_no_target = prefix-there

-- so two starts with the same dependencies, with a target or without, have the same prefix orderings
pub same-dependencies : (m : List Dependent) (k l i j : ℕ) → place_of m k ≡ Some i → place_of m l ≡ Some j → (entry_at m i).dependencies ≡ (entry_at m j).dependencies → prefix_orderings m k ≡ prefix_orderings m l
same-dependencies m k l i j p q e =
    start_needs_no_target m k i p ∙ ap (λ (ds : List ℕ). over_start m ds []) e ∙ sym (start_needs_no_target m l j q)

-- ---- What a walk stops with

-- a walk that found something did not stop
not_stopped : (os : List (List ℕ)) (u : List (ℕ × ℕ)) → SixOrSeven (found os u)
not_stopped os u j e = absurd (let z : ◌≡◌ {A = ℕ} 0 1 = cc in omega arith)

-- where a walk stops with 6 or 7 only, and so does what goes on after it, the whole does
on-stops : (w : Walk) (f : List (List ℕ) → List (ℕ × ℕ) → Walk) → SixOrSeven w → ((os : List (List ℕ)) (u : List (ℕ × ℕ)) → SixOrSeven (f os u)) → SixOrSeven (go_on w f)
unfolding go_on
on-stops (found os u) f h g = g os u
on-stops (stopped i) f h g = h

-- the walks from some keys, one after the other, stop with 6 or 7 only
pub start-stops : (m : List Dependent) (ds : List ℕ) (s : List (ℕ × ℕ)) → SixOrSeven (over_start m ds s)
unfolding over_start
start-stops m [] s = not_stopped [] s
start-stops m (d ∷ ds) s =
    on-stops (construct_orderings m d s) (λ os u. go_on (over_start m ds u) (λ ps v. found (os ++ ps) v)) (stops-by m d s)
    (λ os u. on-stops (over_start m ds u) (λ ps v. found (os ++ ps) v) (start-stops m ds u) (λ ps v. not_stopped (os ++ ps) v))

-- a prefix enumeration stops with 6 or 7 only
pub prefix-stops : (m : List Dependent) (k : ℕ) → SixOrSeven (prefix_orderings m k)
prefix-stops m k = go (place_of m k) refl
  where
    go : (o : Option ℕ) → place_of m k ≡ o → SixOrSeven (prefix_orderings m k)
    go None e = rw (start-missing m k e) (λ j q. inl (let r : 6 ≡ j = cc in sym r))
    go (Some i) e = rw (start_needs_no_target m k i e) (start-stops m (entry_at m i).dependencies [])

-- one list more stops with 6 or 7 only
more-stops : (w : Walk) (ls : Lists) → SixOrSeven w → ((j : ℕ) → ls ≡ stops j → (j ≡ 6) ⊎ (j ≡ 7)) → (j : ℕ) → with_list w ls ≡ stops j → (j ≡ 6) ⊎ (j ≡ 7)
unfolding with_list
more-stops (stopped i) ls h g j e = h j (let r : i ≡ j = cc in ap {B = Walk} stopped r)
more-stops (found [] u) ls h g j e = g j e
more-stops (found (o ∷ os) u) (lists l) h g j e = absurd (let z : ◌≡◌ {A = ℕ} 0 1 = cc in omega arith)
more-stops (found (o ∷ os) u) (stops i) h g j e = g j e

-- the prefix enumerations of some keys stop with 6 or 7 only
pub contributing-stops : (m : List Dependent) (ks : List ℕ) (j : ℕ) → contributing m ks ≡ stops j → (j ≡ 6) ⊎ (j ≡ 7)
unfolding contributing
contributing-stops m [] j e = absurd (let z : ◌≡◌ {A = ℕ} 0 1 = cc in omega arith)
contributing-stops m (k ∷ ks) j e = more-stops (prefix_orderings m k) (contributing m ks) (prefix-stops m k) (contributing-stops m ks) j e

-- ---- Which orderings are found

-- what holds of each ordering of a list
abbrev pub All : (List ℕ → Type 0) → List (List ℕ) → Type 0
All P os = (j : ℕ) → j < length os → P (ordering_at os j)

-- what holds of each ordering that a walk found
abbrev pub AllFound : (List ℕ → Type 0) → Walk → Type 0
AllFound P w = (os : List (List ℕ)) (u : List (ℕ × ℕ)) → w ≡ found os u → All P os

-- an ordering leads to a key: the key's target alone where it depends on nothing; else an ordering that leads to one of its dependencies, with the target pushed
pub data LeadsTo (m : List Dependent) : ℕ → List ℕ → Type 0 where
  alone : (k i t : ℕ) → place_of m k ≡ Some i → (entry_at m i).target ≡ Some t → (entry_at m i).dependencies ≡ [] → LeadsTo m k (t ∷ [])
  after : (k i t d : ℕ) (o : List ℕ) → place_of m k ≡ Some i → (entry_at m i).target ≡ Some t → among d (entry_at m i).dependencies ≡ true → LeadsTo m d o → LeadsTo m k (pushed o t)

-- a walk that stopped found nothing
none_found_lem : (P : List ℕ → Type 0) (i : ℕ) → AllFound P (stopped i)
none_found_lem P i os u e = absurd (let z : ◌≡◌ {A = ℕ} 0 1 = cc in omega arith)

-- what holds of each of some orderings holds of each that a walk with these found
all_found : (P : List ℕ → Type 0) (os : List (List ℕ)) (u : List (ℕ × ℕ)) → All P os → AllFound P (found os u)
all_found P os u h ps v e = let r : os ≡ ps = cc in subst (All P) r h

-- of no orderings everything holds
all_none : (P : List ℕ → Type 0) → All P []
all_none P j l = absurd (omega arith)

-- what goes on after a walk, from what the walk found
on-found : (P Q : List ℕ → Type 0) (w : Walk) (f : List (List ℕ) → List (ℕ × ℕ) → Walk) → AllFound P w → ((os : List (List ℕ)) (u : List (ℕ × ℕ)) → All P os → AllFound Q (f os u)) → AllFound Q (go_on w f)
unfolding go_on
on-found P Q (found os u) f h g = g os u (h os u refl)
on-found P Q (stopped i) f h g = none_found_lem Q i

-- what is made of each ordering of a list
all_map : (P Q : List ℕ → Type 0) (f : List ℕ → List ℕ) (os : List (List ℕ)) → ((o : List ℕ) → P o → Q (f o)) → All P os → All Q (map f os)
all_map P Q f os g h j l =
    let b : j < length os = omega (arith, length-map os f) in
    subst Q (sym (mapped_at_lem f os j [] [] b)) (g (ordering_at os j) (h j b))

-- walks, one from each key, that find only orderings that lead to it
module _ (m : List Dependent) (at : ℕ → List (ℕ × ℕ) → Walk) (leads : (d : ℕ) (s : List (ℕ × ℕ)) → AllFound (LeadsTo m d) (at d s)) (k : ℕ) where
  -- over dependencies of the key
  over-leads : (i t : ℕ) → place_of m k ≡ Some i → (entry_at m i).target ≡ Some t → (ds : List ℕ) (s : List (ℕ × ℕ)) → ((d : ℕ) → among d ds ≡ true → among d (entry_at m i).dependencies ≡ true)
      → AllFound (LeadsTo m k) (over_dependencies at t ds s)
  unfolding over_dependencies
  over-leads i t p q [] s h = all_found (LeadsTo m k) [] s (all_none (LeadsTo m k))
  over-leads i t p q (d ∷ ds) s h = go (is_seen t d s) (λ u. over-leads i t p q ds u (λ x e. h x (among-right x (d ∷ []) ds e)))
    where
      -- an ordering that leads to the dependency, with the target pushed
      up : (o : List ℕ) → LeadsTo m d o → LeadsTo m k (pushed o t)
      up o w = after k i t d o p q (h d (among-left d (d ∷ []) ds (one-among d))) w

      -- what comes after the walk from the dependency
      rest : List (List ℕ) → List (ℕ × ℕ) → Walk
      rest os u = go_on (over_dependencies at t ds u) (λ ps v. found (map (λ (o : List ℕ). pushed o t) os ++ ps) v)

      go : (b : Bool) → ((u : List (ℕ × ℕ)) → AllFound (LeadsTo m k) (over_dependencies at t ds u))
          → AllFound (LeadsTo m k) (if b then over_dependencies at t ds s else go_on (at d (s ++ ((t, d) ∷ []))) rest)
      go true f = f s
      go false f =
          on-found (LeadsTo m d) (LeadsTo m k) (at d (s ++ ((t, d) ∷ []))) rest (leads d (s ++ ((t, d) ∷ [])))
          (λ os u a. on-found (LeadsTo m k) (LeadsTo m k) (over_dependencies at t ds u) (λ ps v. found (map (λ (o : List ℕ). pushed o t) os ++ ps) v) (f u)
          (λ ps v b. all_found (LeadsTo m k) (map (λ (o : List ℕ). pushed o t) os ++ ps) v
          (append-all (LeadsTo m k) (map (λ (o : List ℕ). pushed o t) os) ps (all_map (LeadsTo m d) (LeadsTo m k) (λ (o : List ℕ). pushed o t) os up a) b)))

  -- at the key's target
  target-leads : (i t : ℕ) → place_of m k ≡ Some i → (entry_at m i).target ≡ Some t → (ds : List ℕ) (s : List (ℕ × ℕ)) → (entry_at m i).dependencies ≡ ds → AllFound (LeadsTo m k) (at_target at t ds s)
  unfolding at_target
  target-leads i t p q [] s e = all_found (LeadsTo m k) ((t ∷ []) ∷ []) s one
    where
      one : All (LeadsTo m k) ((t ∷ []) ∷ [])
      one zero l = alone k i t p q e
      one (suc j) l = absurd (omega arith)
  target-leads i t p q (d ∷ ds) s e = over-leads i t p q (d ∷ ds) s (λ x h. rw e h)

  -- at the key's entry
  entry-leads : (i : ℕ) (o : Option ℕ) (s : List (ℕ × ℕ)) → place_of m k ≡ Some i → (entry_at m i).target ≡ o → AllFound (LeadsTo m k) (at_entry at o (entry_at m i).dependencies s)
  unfolding at_entry
  entry-leads i None s p q = none_found_lem (LeadsTo m k) 7
  entry-leads i (Some t) s p q = target-leads i t p q (entry_at m i).dependencies s refl

  -- at the key's place
  place-leads : (o : Option ℕ) (s : List (ℕ × ℕ)) → place_of m k ≡ o → AllFound (LeadsTo m k) (at_place at m o s)
  unfolding at_place
  place-leads None s p = none_found_lem (LeadsTo m k) 6
  place-leads (Some i) s p = entry-leads i (entry_at m i).target s p refl

-- with every count
count-leads : (n : ℕ) (m : List Dependent) (k : ℕ) (s : List (ℕ × ℕ)) → AllFound (LeadsTo m k) (constructed n m k s)
unfolding constructed
count-leads zero m k s = none_found_lem (LeadsTo m k) 0
count-leads (suc n) m k s = place-leads m (constructed n m) (count-leads n m) k (place_of m k) s refl

-- each ordering that the walk from a key finds leads to the key
pub walk-leads : (m : List Dependent) (k : ℕ) (s : List (ℕ × ℕ)) → AllFound (LeadsTo m k) (construct_orderings m k s)
unfolding construct_orderings
walk-leads m k s = count-leads (suc (pairs m)) m k s

-- an ordering leads to one of some keys
pub record LeadsToOne (m : List Dependent) (ds : List ℕ) (o : List ℕ) : Type 0 where
  pub key : ℕ
  pub is_one : among key ds ≡ true
  pub leads : LeadsTo m key o

-- each ordering that the walks from some keys find leads to one of them
pub start-leads : (m : List Dependent) (ds : List ℕ) (s : List (ℕ × ℕ)) → AllFound (LeadsToOne m ds) (over_start m ds s)
unfolding over_start
start-leads m [] s = all_found (LeadsToOne m []) [] s (all_none (LeadsToOne m []))
start-leads m (d ∷ ds) s =
    on-found (LeadsTo m d) (LeadsToOne m (d ∷ ds)) (construct_orderings m d s) (λ os u. go_on (over_start m ds u) (λ ps v. found (os ++ ps) v)) (walk-leads m d s)
    (λ os u a. on-found (LeadsToOne m ds) (LeadsToOne m (d ∷ ds)) (over_start m ds u) (λ ps v. found (os ++ ps) v) (start-leads m ds u)
    (λ ps v b. all_found (LeadsToOne m (d ∷ ds)) (os ++ ps) v
    (append-all (LeadsToOne m (d ∷ ds)) os ps
    (λ j l. record { key = d; is_one = among-left d (d ∷ []) ds (one-among d); leads = a j l })
    (λ j l. let r = b j l in record { key = r.key; is_one = among-right r.key (d ∷ []) ds r.is_one; leads = r.leads }))))

-- an ordering leads to a dependency of a start that is in the map
pub record LeadsUpTo (m : List Dependent) (k : ℕ) (o : List ℕ) : Type 0 where
  pub start : ℕ
  pub there : place_of m k ≡ Some start
  pub one : LeadsToOne m (entry_at m start).dependencies o

-- each prefix ordering of a start leads to one of its dependencies
pub prefix-leads : (m : List Dependent) (k : ℕ) → AllFound (LeadsUpTo m k) (prefix_orderings m k)
prefix-leads m k = go (place_of m k) refl
  where
    go : (o : Option ℕ) → place_of m k ≡ o → AllFound (LeadsUpTo m k) (prefix_orderings m k)
    go None e = rw (start-missing m k e) (none_found_lem (LeadsUpTo m k) 6)
    go (Some i) e =
        rw (start_needs_no_target m k i e)
        (λ os u q j l. record { start = i; there = e; one = start-leads m (entry_at m i).dependencies [] os u q j l })

-- ---- What holds of all of them

-- what holds of each ordering that is found: by the walk from a key, by the walks from some keys, by a prefix enumeration
pub record Everywhere (m : List Dependent) (P : List ℕ → Type 0) : Type 0 where
  pub walk : (k : ℕ) (s : List (ℕ × ℕ)) → AllFound P (construct_orderings m k s)
  pub start : (ds : List ℕ) (s : List (ℕ × ℕ)) → AllFound P (over_start m ds s)
  pub prefix : (k : ℕ) → AllFound P (prefix_orderings m k)

-- what holds of every ordering that leads to a key holds of each that is found
pub everywhere : (m : List Dependent) (P : List ℕ → Type 0) → ((k : ℕ) (o : List ℕ) → LeadsTo m k o → P o) → Everywhere m P
everywhere m P h = record {
  walk = λ k s os u e j l. h k (ordering_at os j) (walk-leads m k s os u e j l);
  start = λ ds s os u e j l. let r = start-leads m ds s os u e j l in h r.key (ordering_at os j) r.leads;
  prefix = λ k os u e j l. let r = (prefix-leads m k os u e j l).one in h r.key (ordering_at os j) r.leads;
}

-- a number is the target of an entry of the map
abbrev pub IsTarget : List Dependent → ℕ → Type 0
IsTarget m t = (i : ℕ) × (i < length m) × ((entry_at m i).target ≡ Some t)

-- the place of a key is in the map
place-below : (m : List Dependent) (k i : ℕ) → place_of m k ≡ Some i → i < length m
unfolding place_of
place-below m k i p = (first_some (λ j. eqb (entry_at m j).key k) (length m) i p).below

-- what holds of each key of an ordering and of a key that is pushed holds of each key afterwards
pushed-each : (P : ℕ → Type 0) (o : List ℕ) (t : ℕ) → ((j : ℕ) → j < length o → P (get_or o j 0)) → P t → (j : ℕ) → j < length (pushed o t) → P (get_or (pushed o t) j 0)
pushed-each P o t h one = go (has_expr (expr_of t) o) refl
  where
    go : (b : Bool) → has_expr (expr_of t) o ≡ b → (j : ℕ) → j < length (pushed o t) → P (get_or (pushed o t) j 0)
    go true q = rw (pushed-there o t q) h
    go false q = rw (pushed-new o t q) (λ j l. at j l (ℕ_discrete j (length o)))
      where
        at : (j : ℕ) → j < length (o ++ (t ∷ [])) → Dec (j ≡ length o) → P (get_or (o ++ (t ∷ [])) j 0)
        at j l (yes r) = subst P (sym (get_or_at o t [] 0 j (sym r))) one
        at j l (no r) =
            let b : j < length o = omega (arith, length-append o (t ∷ [])) in
            subst P (sym (get_or-append o (t ∷ []) 0 j b)) (h j b)

-- the keys of an ordering that leads to a key are targets
leads-targets : (m : List Dependent) {k : ℕ} {o : List ℕ} → LeadsTo m k o → (j : ℕ) → j < length o → IsTarget m (get_or o j 0)
leads-targets m (alone k i t p q e) zero l = (i, place-below m k i p, q)
leads-targets m (alone k i t p q e) (suc j) l = absurd (omega arith)
leads-targets m (after k i t d x p q h w) j l = pushed-each (IsTarget m) x t (λ a b. leads-targets m w a b) (i, place-below m k i p, q) j l

-- every key of every ordering that is found is a target of the map
pub keys-are-targets : (m : List Dependent) → Everywhere m (λ (o : List ℕ). (j : ℕ) → j < length o → IsTarget m (get_or o j 0))
keys-are-targets m = everywhere m (λ (o : List ℕ). (j : ℕ) → j < length o → IsTarget m (get_or o j 0)) (λ k o w. leads-targets m w)

-- an ordering that leads to a key holds no expression twice
leads-once : (m : List Dependent) {k : ℕ} {o : List ℕ} → LeadsTo m k o → NoneTwice o
leads-once m (alone k i t p q e) = λ a b l c r. omega arith
leads-once m (after k i t d x p q h w) = pushed-none_twice x t (leads-once m w)

-- and is not empty
leads-filled : (m : List Dependent) {k : ℕ} {o : List ℕ} → LeadsTo m k o → 0 < length o
unfolding extended
leads-filled m (alone k i t p q e) = omega arith
leads-filled m (after k i t d x p q h w) = omega (arith, leads-filled m w, extended-grows x (t ∷ []))

-- no ordering that is found holds an expression twice, and none is empty
pub expressions-once : (m : List Dependent) → Everywhere m (λ (o : List ℕ). NoneTwice o × (0 < length o))
expressions-once m = everywhere m (λ (o : List ℕ). NoneTwice o × (0 < length o)) (λ k o w. (leads-once m w, leads-filled m w))

-- so each that has at most 16 keys is an ordering as a state may hold it
pub orderings-good : (m : List Dependent) → Everywhere m (λ (o : List ℕ). length o ≤ 16 → GoodOrdering o)
orderings-good m = everywhere m (λ (o : List ℕ). length o ≤ 16 → GoodOrdering o) (λ k o w l. record { filled = leads-filled m w; few = l; distinct = leads-once m w })

-- an ordering holds the expression of the target of a dependency of a start
pub record HoldsTarget (m : List Dependent) (k : ℕ) (o : List ℕ) : Type 0 where
  pub start : ℕ
  pub start-there : place_of m k ≡ Some start
  pub dependency : ℕ
  pub of-start : among dependency (entry_at m start).dependencies ≡ true
  pub place : ℕ
  pub there : place_of m dependency ≡ Some place
  pub target : ℕ
  pub is-target : (entry_at m place).target ≡ Some target
  pub holds : has_expr (expr_of target) o ≡ true

-- a key that an ordering leads to has a target, and the ordering holds its expression
leads-holds : (m : List Dependent) {k : ℕ} {o : List ℕ} → LeadsTo m k o → (i : ℕ) × (t : ℕ) × (place_of m k ≡ Some i) × ((entry_at m i).target ≡ Some t) × (has_expr (expr_of t) o ≡ true)
leads-holds m (alone k i t p q e) = (i, t, p, q, place-has (expr_of t) (t ∷ []) 0 (omega arith) refl)
leads-holds m (after k i t d x p q h w) = (i, t, p, q, pushed-has x t)

-- every prefix ordering holds the expression of the target of one of the start's dependencies
pub holds-a-target : (m : List Dependent) (k : ℕ) → AllFound (HoldsTarget m k) (prefix_orderings m k)
holds-a-target m k os u e j l =
    let r = prefix-leads m k os u e j l in
    let h = leads-holds m r.one.leads in
    record {
      start = r.start;
      start-there = r.there;
      dependency = r.one.key;
      of-start = r.one.is_one;
      place = h.0;
      there = h.2;
      target = h.1;
      is-target = h.3;
      holds = h.4;
    }
