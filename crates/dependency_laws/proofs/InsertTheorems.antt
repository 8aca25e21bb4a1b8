-- Theorems on the dependency map: what is opened and what an insert makes passes the check, a refusal hands the map back, and what an insert adds and keeps.
use Rattle.std.specs.Prelude.{if◌then◌else◌, Option, None, Some, Ok, Err}
use Prim.Native.Nat.{ℕ, ◌+◌, ◌*◌, ◌<◌, ◌≤◌}
use mathlib.Core.Bool.{Bool, true, false}
use mathlib.Core.List.{List, [], ◌∷◌, ◌++◌}
use mathlib.Core.Path.{◌≡◌, refl, sym, ap, ◌∙◌, subst}
use native.Mathlib.Decide.{ℕ_discrete}
use native.Mathlib.Omega.{arith}
use borrow.Author.Tests.{leb-true, ltb-true, eqb-true}
use lib.Dec.{eqb, ltb, leb}
use lib.ListN.{length, get_or, set, length-append, length-set, get_or-append}
use lib.Seq.{get_or_at, get_or-set_same, get_or-set_other, ext_get_or}
use Rattle.laws.specs.Tests.{each}
use Rattle.laws.proofs.Booleans.{true_not_false, and_left, and_right}
use Rattle.laws.proofs.Each.{each_holds}
use Rattle.arena.specs.Layout.{count, lawful}
use Rattle.arena.specs.Refusals.{refusal}
use Rattle.arena.specs.declared.Refusal.TheVariants.{TooLarge}
use Rattle.arena.proofs.Refusals.{ok-not-err}
use Rattle.classes.specs.Group.{among}
use Rattle.classes.proofs.Places.{get_or-among, among-right, one-among}
use Rattle.orderings.specs.Ordering.{expr_of}
use Rattle.orderings.proofs.ListChecks.{three}
use Rattle.dependencies.specs.Map.{Dependent, entry_at, place_of, with_dependency, inserted, fits}
use Rattle.dependencies.specs.Layout.{number_or0, encode, decode}
use Rattle.dependencies.specs.Calls.{map_number, options_known, given_below, key_of, insert_number, judged, insert_answer}
use Rattle.dependencies.specs.declared.DependencyMap.{DependencyMap}
use Rattle.dependencies.specs.declared.Key.{Key}
use Rattle.dependencies.specs.declared.Inserted.{Inserted}
use Rattle.dependencies.proofs.MapChecks.{number-arena}
use Rattle.dependencies.proofs.MapCalls.{insert-tests}
use Rattle.dependency_laws.proofs.Inserts.{nothing, more, place-below, place_none, there-is, there-length, there-entry, there-other, new-length, new-entry, new-other, keys_kept, place_kept, place-new}
use Rattle.dependency_laws.proofs.GoodMaps.{GoodEntry, GoodMap, number-good, good-number}

-- ---- what passes the check

-- the empty map passes beside every arena
pub open_valid : (cells : List ℕ) → lawful cells ≡ true → map_number cells (encode []) ≡ 0
open_valid cells w = good-number cells [] w (record { few = omega arith; entries = λ i l. absurd (omega arith); apart = λ i k l b. absurd (omega arith) })

-- a good entry with one dependency more that it didn't have
module _ (n : ℕ) (x : Dependent) (g : GoodEntry n x) (d : ℕ) (f : among d x.dependencies ≡ false) (b : expr_of d < n) where
  abbrev ks : List ℕ
  ks = x.dependencies

  old : (i : ℕ) → i < length ks → get_or (ks ++ (d ∷ [])) i 0 ≡ get_or ks i 0
  old i l = get_or-append ks (d ∷ []) 0 i l

  new : (i : ℕ) → i ≡ length ks → get_or (ks ++ (d ∷ [])) i 0 ≡ d
  new i e = get_or_at ks d [] 0 i (sym e)

  longer-good : length (ks ++ (d ∷ [])) ≤ 16 → GoodEntry n (record { key = x.key; target = x.target; dependencies = ks ++ (d ∷ []) })
  longer-good s = record {
    short = s;
    apart = λ i k l c q. apart i k l c q (ℕ_discrete k (length ks));
    key_below = g.key_below;
    target_below = g.target_below;
    dependencies-below = λ k c. below k c (ℕ_discrete k (length ks));
  }
    where
      z : length (ks ++ (d ∷ [])) ≡ length ks + 1
      z = length-append ks (d ∷ [])

      apart : (i k : ℕ) → i < k → k < length (ks ++ (d ∷ [])) → get_or (ks ++ (d ∷ [])) i 0 ≡ get_or (ks ++ (d ∷ [])) k 0 → Dec (k ≡ length ks) → ⊥
      apart i k l c q (yes e) =
          let a : i < length ks = omega arith in
          let same : get_or ks i 0 ≡ d = sym (old i a) ∙ q ∙ new k e in
          true_not_false (subst (λ (y : ℕ). among y ks ≡ true) same (get_or-among ks i a)) f
      apart i k l c q (no e) = let a : k < length ks = omega (arith, z) in g.apart i k l a (sym (old i (omega arith)) ∙ q ∙ old k a)

      below : (k : ℕ) → k < length (ks ++ (d ∷ [])) → Dec (k ≡ length ks) → expr_of (get_or (ks ++ (d ∷ [])) k 0) < n
      below k c (yes e) = subst (λ (y : ℕ). expr_of y < n) (sym (new k e)) b
      below k c (no e) = let a : k < length ks = omega (arith, z) in subst (λ (y : ℕ). expr_of y < n) (sym (old k a)) (g.dependencies-below k a)

-- a good entry with the dependency that is given
more-good : (n : ℕ) (x : Dependent) (d : Option ℕ) → GoodEntry n x → expr_of (number_or0 d) < n → length (with_dependency x.dependencies d) ≤ 16 → GoodEntry n (more x d)
unfolding with_dependency number_or0
more-good n x None g b s = g
more-good n x (Some d) g b s = go (among d x.dependencies) refl s
  where
    made : Bool → List ℕ
    made t = if t then x.dependencies else x.dependencies ++ (d ∷ [])

    go : (t : Bool) → among d x.dependencies ≡ t → length (made t) ≤ 16 → GoodEntry n (record { key = x.key; target = x.target; dependencies = made t })
    go true q l = g
    go false q l = longer-good n x g d q b l

-- an insert into a good map, of known expressions, that fits
module _ (n : ℕ) (ds : List Dependent) (k : ℕ) (t d : Option ℕ) (g : GoodMap n ds) (a : expr_of k < n) (b : expr_of (number_or0 t) < n) (c : expr_of (number_or0 d) < n) (f : fits (inserted ds k t d) ≡ true) where
  abbrev made : List Dependent
  made = inserted ds k t d

  few : length made ≤ 64
  unfolding fits
  few = leb-true (length made) 64 (and_left (leb (length made) 64) (each (λ i. leb (length (entry_at made i).dependencies) 16) (length made)) f)

  short : (i : ℕ) → i < length made → length (entry_at made i).dependencies ≤ 16
  unfolding fits
  short i l =
      leb-true (length (entry_at made i).dependencies) 16
      (each_holds (λ i. leb (length (entry_at made i).dependencies) 16) (length made) i (and_right (leb (length made) 64) (each (λ i. leb (length (entry_at made i).dependencies) 16) (length made)) f) l)

  -- the entry at a place where an insert made it from a good one
  from-good : (i : ℕ) → i < length made → (x : Dependent) → GoodEntry n x → entry_at made i ≡ more x d → GoodEntry n (entry_at made i)
  from-good i l x h e =
      subst (λ (y : Dependent). GoodEntry n y) (sym e) (more-good n x d h c (subst (λ (y : Dependent). length y.dependencies ≤ 16) e (short i l)))

  -- a new entry without a dependency
  bare-good : GoodEntry n (record { key = k; target = t; dependencies = [] })
  bare-good = record { short = omega arith; apart = λ i k l c. absurd (omega arith); key_below = a; target_below = b; dependencies-below = λ i l. absurd (omega arith) }

  inserted-good : GoodMap n made
  inserted-good = go (place_of ds k) refl
    where
      go : (o : Option ℕ) → place_of ds k ≡ o → GoodMap n made
      go (Some i) e =
          let z = there-length ds k t d i e in
          record {
            few = few;
            entries = λ j l. entry j l (ℕ_discrete j i);
            apart = λ j h l b q.
                let w : h < length ds = omega arith in
                g.apart j h l w (sym (keys_kept ds k t d j (omega arith)) ∙ q ∙ keys_kept ds k t d h w);
          }
        where
          entry : (j : ℕ) → j < length made → Dec (j ≡ i) → GoodEntry n (entry_at made j)
          entry j l (yes s) =
              from-good j l (entry_at ds i) (g.entries i (place-below ds k i e)) (ap (λ (h : ℕ). entry_at made h) s ∙ there-entry ds k t d i e)
          entry j l (no s) =
              let w : j < length ds = omega (arith, there-length ds k t d i e) in
              subst (λ (y : Dependent). GoodEntry n y) (sym (there-other ds k t d i e j s)) (g.entries j w)
      go None e =
          record {
            few = few;
            entries = λ j l. entry j l (ℕ_discrete j (length ds));
            apart = λ j h l b q. apart j h l b q (ℕ_discrete h (length ds));
          }
        where
          z : length made ≡ length ds + 1
          z = new-length ds k t d e

          entry : (j : ℕ) → j < length made → Dec (j ≡ length ds) → GoodEntry n (entry_at made j)
          entry j l (yes s) =
              from-good j l (record { key = k; target = t; dependencies = [] }) bare-good (ap (λ (h : ℕ). entry_at made h) s ∙ new-entry ds k t d e)
          entry j l (no s) =
              let w : j < length ds = omega (arith, z) in
              subst (λ (y : Dependent). GoodEntry n y) (sym (new-other ds k t d e j w)) (g.entries j w)

          apart : (j h : ℕ) → j < h → h < length made → (entry_at made j).key ≡ (entry_at made h).key → Dec (h ≡ length ds) → ⊥
          apart j h l b q (yes s) =
              let w : j < length ds = omega arith in
              place_none ds k e j w (sym (keys_kept ds k t d j w) ∙ q ∙ ap (λ (i : ℕ). (entry_at made i).key) s ∙ ap (λ (x : Dependent). x.key) (new-entry ds k t d e))
          apart j h l b q (no s) =
              let w : h < length ds = omega (arith, z) in
              g.apart j h l w (sym (keys_kept ds k t d j (omega arith)) ∙ q ∙ keys_kept ds k t d h w)

-- the expression of a key
expr-key : (e options : ℕ) → options ≤ 3 → expr_of (e * 4 + options) ≡ e
unfolding expr_of
expr-key e options l = omega arith

-- a key that is given, if one is, is known
given-known : (n : ℕ) (g : Option Key) → 0 < n → options_known g ≡ true → given_below n g ≡ true → expr_of (number_or0 (key_of g)) < n
unfolding options_known given_below key_of number_or0 expr_of
given-known n (Some k) z o b = let l = leb-true k.options 3 o in let w = ltb-true k.expr n b in omega arith
given-known n None z o b = omega arith

-- what a number 0 says of what is lent and given
record Lent (cells : List ℕ) (m : DependencyMap) (e options : ℕ) (target dependency : Option Key) : Type 0 where
  checked : map_number cells m ≡ 0
  key : expr_of (e * 4 + options) < count cells
  target-known : expr_of (number_or0 (key_of target)) < count cells
  dependency-known : expr_of (number_or0 (key_of dependency)) < count cells

module _ (cells : List ℕ) (m : DependencyMap) (e options : ℕ) (target dependency : Option Key) where
  lent-known : insert_number cells m e options target dependency ≡ 0 → Lent cells m e options target dependency
  lent-known q =
      let p = insert-tests cells m e options target dependency q in
      let o = three (leb options 3) (options_known target) (options_known dependency) p.0 in
      let b = three (ltb e (count cells)) (given_below (count cells) target) (given_below (count cells) dependency) p.2 in
      let l = ltb-true e (count cells) b.0 in
      record {
        checked = p.1;
        key = omega (arith, expr-key e options (leb-true options 3 o.0));
        target-known = given-known (count cells) target (omega arith) o.1 b.1;
        dependency-known = given-known (count cells) dependency (omega arith) o.2 b.2;
      }

  abbrev after : List Dependent
  after = inserted (decode m) (e * 4 + options) (key_of target) (key_of dependency)

  -- the answer, by the check and by whether the map fits
  abbrev answer_by : Bool → Bool → Inserted
  answer_by p q =
      if p then (if q then record { done = Ok tt; map = encode after } else record { done = Err TooLarge; map = m }) else record { done = Err (refusal (insert_number cells m e options target dependency)); map = m }

  -- a map that an insert made passes the check
  pub insert_valid : (insert_answer cells m e options target dependency).done ≡ Ok tt → map_number cells (insert_answer cells m e options target dependency).map ≡ 0
  unfolding insert_answer judged
  insert_valid = go (eqb (insert_number cells m e options target dependency) 0) (fits after) refl refl
    where
      go : (p q : Bool) → eqb (insert_number cells m e options target dependency) 0 ≡ p → fits after ≡ q → (answer_by p q).done ≡ Ok tt → map_number cells (answer_by p q).map ≡ 0
      go true true s f z =
          let l = lent-known (eqb-true (insert_number cells m e options target dependency) 0 s) in
          good-number cells after (number-arena cells m l.checked)
          (inserted-good (count cells) (decode m) (e * 4 + options) (key_of target) (key_of dependency) (number-good cells m l.checked) l.key l.target-known l.dependency-known f)
      go true false s f z = absurd (ok-not-err (sym z))
      go false q s f z = absurd (ok-not-err (sym z))

  -- a refusal hands the map back as it was
  pub refusal-keeps-map : ((insert_answer cells m e options target dependency).done ≡ Ok tt → ⊥) → (insert_answer cells m e options target dependency).map ≡ m
  unfolding insert_answer judged
  refusal-keeps-map = go (eqb (insert_number cells m e options target dependency) 0) (fits after)
    where
      go : (p q : Bool) → ((answer_by p q).done ≡ Ok tt → ⊥) → (answer_by p q).map ≡ m
      go true true n = absurd (n refl)
      go true false n = refl
      go false q n = refl

-- ---- what an insert adds and keeps

module _ (ds : List Dependent) (k : ℕ) (t d : Option ℕ) where
  -- the key has a place then
  pub key-there : (i : ℕ) × (place_of (inserted ds k t d) k ≡ Some i)
  key-there = go (place_of ds k) refl
    where
      go : (o : Option ℕ) → place_of ds k ≡ o → (i : ℕ) × (place_of (inserted ds k t d) k ≡ Some i)
      go None e = (length ds, place-new ds k t d e)
      go (Some i) e = (i, place_kept ds k t d i e)

  -- a key that is there keeps its first target
  pub first_target-kept : (i : ℕ) → place_of ds k ≡ Some i → (entry_at (inserted ds k t d) i).target ≡ (entry_at ds i).target
  first_target-kept i e = ap (λ (x : Dependent). x.target) (there-entry ds k t d i e)

  -- a new key comes to the end with the target that is given
  pub target-taken : place_of ds k ≡ None → (entry_at (inserted ds k t d) (length ds)).target ≡ t
  target-taken e = ap (λ (x : Dependent). x.target) (new-entry ds k t d e)

  -- every entry but the key's is kept
  pub others-kept : (j : ℕ) → j < length ds → (place_of ds k ≡ Some j → ⊥) → entry_at (inserted ds k t d) j ≡ entry_at ds j
  others-kept j l n = go (place_of ds k) refl
    where
      go : (o : Option ℕ) → place_of ds k ≡ o → entry_at (inserted ds k t d) j ≡ entry_at ds j
      go None e = new-other ds k t d e j l
      go (Some i) e = there-other ds k t d i e j (λ q. n (e ∙ ap {B = Option ℕ} Some (sym q)))

-- a dependency that is given is there then
with-among : (ks : List ℕ) (d : ℕ) → among d (with_dependency ks (Some d)) ≡ true
unfolding with_dependency
with-among ks d = go (among d ks) refl
  where
    go : (b : Bool) → among d ks ≡ b → among d (if b then ks else ks ++ (d ∷ [])) ≡ true
    go true q = q
    go false q = among-right d ks (d ∷ []) (one-among d)

module _ (ds : List Dependent) (k : ℕ) (t : Option ℕ) (d : ℕ) where
  abbrev depending : List Dependent
  depending = inserted ds k t (Some d)

  -- the entry of the key has the dependency then
  pub dependency-there : (i : ℕ) → place_of depending k ≡ Some i → among d (entry_at depending i).dependencies ≡ true
  dependency-there i p = go (place_of ds k) refl
    where
      at : (j : ℕ) → place_of depending k ≡ Some j → among d (entry_at depending j).dependencies ≡ true → among d (entry_at depending i).dependencies ≡ true
      at j q h = let w : ◌≡◌ {A = Option ℕ} (Some j) (Some i) = sym q ∙ p in let s : j ≡ i = cc w in subst (λ (x : ℕ). among d (entry_at depending x).dependencies ≡ true) s h

      go : (o : Option ℕ) → place_of ds k ≡ o → among d (entry_at depending i).dependencies ≡ true
      go None e = at (length ds) (place-new ds k t (Some d) e) (ap (λ (x : Dependent). among d x.dependencies) (new-entry ds k t (Some d) e) ∙ with-among [] d)
      go (Some j) e = at j (place_kept ds k t (Some d) j e) (ap (λ (x : Dependent). among d x.dependencies) (there-entry ds k t (Some d) j e) ∙ with-among (entry_at ds j).dependencies d)

  -- a dependency that the key has already changes nothing
  pub dependency-once : (i : ℕ) → place_of ds k ≡ Some i → among d (entry_at ds i).dependencies ≡ true → depending ≡ ds
  unfolding with_dependency
  dependency-once i e h = there-is ds k t (Some d) i e ∙ ap (λ (x : Dependent). set ds i x) same ∙ ext_get_or nothing (set ds i (entry_at ds i)) ds (length-set ds i (entry_at ds i)) (λ j l. at j (ℕ_discrete j i))
    where
      same : more (entry_at ds i) (Some d) ≡ entry_at ds i
      same = rw h

      at : (j : ℕ) → Dec (j ≡ i) → entry_at (set ds i (entry_at ds i)) j ≡ entry_at ds j
      at j (yes q) = rw q (get_or-set_same ds i (entry_at ds i) nothing (place-below ds k i e))
      at j (no q) = get_or-set_other ds i j (entry_at ds i) nothing q
