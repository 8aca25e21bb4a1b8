-- Bridging and the kept list: what holds of each class of a list holds of each class of the result, and no two classes of the result have an expression in common.
use Rattle.std.specs.Prelude.{if◌then◌else◌, Option, None, Some}
use Prim.Native.Nat.{ℕ, zero, suc, ◌+◌, ◌-◌, ◌<◌, ◌≤◌}
use mathlib.Core.Bool.{Bool, true, false, ◌&&◌, ◌||◌}
use mathlib.Core.List.{List, [], ◌∷◌, ◌++◌}
use mathlib.Core.Logic.{◌⊎◌, inl, inr}
use mathlib.Core.Path.{◌≡◌, refl, sym, ap, ◌∙◌, subst}
use native.Mathlib.Decide.{ℕ_discrete, dec_lt}
use native.Mathlib.Omega.{arith}
use borrow.Author.Tests.{ltb-true, lt-ltb}
use lib.Dec.{eqb, ltb}
use lib.ListN.{length}
use Rattle.laws.proofs.Booleans.{true_not_false}
use Rattle.classes.specs.Class.{Class, merged}
use Rattle.classes.specs.Group.{among, class_at, removed, length_removed, merged_at}
use Rattle.classes.specs.Good.{flat}
use Rattle.classes.proofs.Places.{sum, count, count-append, count-other, among-once, once-among, among-never, among-left, among-right, among-either, among_one, one-among, counts, All, flat-class, count-flat, removed-gap, removed-other, length-merged_at, merged_at-same, merged_at-other, all-removed}
use Rattle.merging.specs.Extending.{without, missing, extended, any_among, contains_any, is_trivial}
use Rattle.merging.specs.Merging.{dropped_at, drop_below, kept_classes, meeting_below, last_meeting, bridged, length-bridged, bridge_rest, bridge_end, bridge_next, bridge_meets, bridge_classes, from_classes}

-- ---- what a class brings to another

module _ (e : ℕ) (ms : List ℕ) where
  -- what is left over stands no more often than before
  pub count-without : (es : List ℕ) → count e (without ms es) ≤ count e es
  unfolding without count
  count-without [] = omega arith
  count-without (x ∷ es) = go (among x ms) (count-without es)
    where
      go : (b : Bool) → count e (without ms es) ≤ count e es → count e (if b then without ms es else x ∷ without ms es) ≤ (if eqb x e then 1 else 0) + count e es
      go true h = omega arith
      go false h = omega arith

  -- not at all where it stands in the first list
  pub without_gone : (es : List ℕ) → among e ms ≡ true → count e (without ms es) ≡ 0
  unfolding without count
  without_gone [] h = refl
  without_gone (x ∷ es) h = go (among x ms) refl (without_gone es h)
    where
      go : (b : Bool) → among x ms ≡ b → count e (without ms es) ≡ 0 → count e (if b then without ms es else x ∷ without ms es) ≡ 0
      go true q r = r
      go false q r = omega (arith, count-other e x (λ t. true_not_false h (subst (λ (k : ℕ). among k ms ≡ false) t q)))

  -- and as often as before where it doesn't
  pub without-kept : (es : List ℕ) → among e ms ≡ false → count e (without ms es) ≡ count e es
  unfolding without count
  without-kept [] h = refl
  without-kept (x ∷ es) h = go (among x ms) refl (without-kept es h)
    where
      go : (b : Bool) → among x ms ≡ b → count e (without ms es) ≡ count e es → count e (if b then without ms es else x ∷ without ms es) ≡ (if eqb x e then 1 else 0) + count e es
      go true q r = omega (arith, count-other e x (λ t. true_not_false (subst (λ (k : ℕ). among k ms ≡ true) t q) h))
      go false q r = omega arith

  -- what is left over was there
  pub without_from : (es : List ℕ) → among e (without ms es) ≡ true → among e es ≡ true
  without_from es h = once-among e es (omega (arith, count-without es, among-once e (without ms es) h))

-- it is no longer than before
pub length_without : (ms es : List ℕ) → length (without ms es) ≤ length es
unfolding without
length_without ms [] = omega arith
length_without ms (x ∷ es) = go (among x ms) (length_without ms es)
  where
    go : (b : Bool) → length (without ms es) ≤ length es → length (if b then without ms es else x ∷ without ms es) ≤ length (x ∷ es)
    go true h = omega arith
    go false h = omega arith

module _ (c d : Class) (e : ℕ) where
  -- the members of a class that was extended
  pub extended-left : among e c.members ≡ true → among e (extended c d).members ≡ true
  unfolding extended merged missing
  extended-left h = among-left e c.members (without c.members d.members) h

  -- those of the other one
  pub extended-right : among e d.members ≡ true → among e (extended c d).members ≡ true
  unfolding extended merged missing
  extended-right h = go (among e c.members) refl
    where
      go : (b : Bool) → among e c.members ≡ b → among e (c.members ++ without c.members d.members) ≡ true
      go true q = among-left e c.members (without c.members d.members) q
      go false q =
          among-right e c.members (without c.members d.members)
          (once-among e (without c.members d.members) (omega (arith, without-kept e c.members d.members q, among-once e d.members h)))

  -- and no others
  pub extended-from : among e (extended c d).members ≡ true → (among e c.members ≡ true) ⊎ (among e d.members ≡ true)
  unfolding extended merged missing
  extended-from h = at (among-either e c.members (without c.members d.members) h)
    where
      at : (among e c.members ≡ true) ⊎ (among e (without c.members d.members) ≡ true) → (among e c.members ≡ true) ⊎ (among e d.members ≡ true)
      at (inl m) = inl m
      at (inr m) = inr (without_from e c.members d.members m)

  -- none twice
  pub extended-once : count e c.members ≤ 1 → count e d.members ≤ 1 → count e (extended c d).members ≤ 1
  unfolding extended merged missing
  extended-once p q = go (among e c.members) refl
    where
      a : count e (c.members ++ without c.members d.members) ≡ count e c.members + count e (without c.members d.members)
      a = count-append e c.members (without c.members d.members)

      go : (b : Bool) → among e c.members ≡ b → count e (c.members ++ without c.members d.members) ≤ 1
      go true t = omega (arith, a, without_gone e c.members d.members t)
      go false t = omega (arith, a, among-never e c.members t, count-without e c.members d.members)

-- ---- classes that meet

-- what two lists have in common
pub any-common : (xs ms : List ℕ) → any_among xs ms ≡ true → (e : ℕ) × (among e xs ≡ true) × (among e ms ≡ true)
unfolding any_among
any-common [] ms h = absurd (true_not_false h refl)
any-common (x ∷ xs) ms h = go (among x ms) refl h (any-common xs ms)
  where
    go : (b : Bool) → among x ms ≡ b → (b || any_among xs ms) ≡ true → (any_among xs ms ≡ true → (e : ℕ) × (among e xs ≡ true) × (among e ms ≡ true))
        → (e : ℕ) × (among e (x ∷ xs) ≡ true) × (among e ms ≡ true)
    go true q s r = (x, among-left x (x ∷ []) xs (one-among x), q)
    go false q s r = let p = r s in (p.0, among-right p.0 (x ∷ []) xs p.1, p.2)

-- lists that have nothing in common
pub any-apart : (xs ms : List ℕ) → any_among xs ms ≡ false → (e : ℕ) → among e xs ≡ true → among e ms ≡ true → ⊥
unfolding any_among among
any-apart [] ms h e a b = true_not_false a refl
any-apart (x ∷ xs) ms h e a b = go (among x ms) refl h (any-apart xs ms)
  where
    go : (t : Bool) → among x ms ≡ t → (t || any_among xs ms) ≡ false → (any_among xs ms ≡ false → (e : ℕ) → among e xs ≡ true → among e ms ≡ true → ⊥) → ⊥
    go true q s r = true_not_false refl s
    go false q s r = at (among-either e (x ∷ []) xs a)
      where
        at : (among e (x ∷ []) ≡ true) ⊎ (among e xs ≡ true) → ⊥
        at (inl m) = true_not_false b (subst (λ (k : ℕ). among k ms ≡ false) (among_one e x m) q)
        at (inr m) = r s e m b

-- class j stands after class i and has an expression in common with it
pub record Meets (cs : List Class) (i j : ℕ) : Type 0 where
  pub after : i < j
  pub below : j < length cs
  pub common : contains_any (class_at cs i) (class_at cs j) ≡ true

module _ (cs : List Class) (i : ℕ) where
  -- one that was found among the first n
  meeting_some : (n j : ℕ) → meeting_below cs i n ≡ Some j → (i < j) × (j < n) × (contains_any (class_at cs i) (class_at cs j) ≡ true)
  unfolding meeting_below
  meeting_some zero j h = absurd (let z : ◌≡◌ {A = ℕ} 0 1 = cc in omega arith)
  meeting_some (suc k) j h = go (ltb i k) (contains_any (class_at cs i) (class_at cs k)) refl refl h (meeting_some k j)
    where
      go : (b c : Bool) → ltb i k ≡ b → contains_any (class_at cs i) (class_at cs k) ≡ c → (if b && c then Some k else meeting_below cs i k) ≡ Some j
          → (meeting_below cs i k ≡ Some j → (i < j) × (j < k) × (contains_any (class_at cs i) (class_at cs j) ≡ true)) → (i < j) × (j < suc k) × (contains_any (class_at cs i) (class_at cs j) ≡ true)
      go true true p q s r =
          let t : k ≡ j = cc in
          (omega (arith, ltb-true i k p), omega arith, subst (λ (x : ℕ). contains_any (class_at cs i) (class_at cs x) ≡ true) t q)
      go true false p q s r = let u = r s in (u.0, omega (arith, u.1), u.2)
      go false c p q s r = let u = r s in (u.0, omega (arith, u.1), u.2)

  -- none was found among the first n
  meeting_none : (n : ℕ) → meeting_below cs i n ≡ None → (j : ℕ) → i < j → j < n → contains_any (class_at cs i) (class_at cs j) ≡ false
  unfolding meeting_below
  meeting_none zero h j a b = absurd (omega arith)
  meeting_none (suc k) h j a b = go (ltb i k) (contains_any (class_at cs i) (class_at cs k)) refl refl h (meeting_none k) (ℕ_discrete j k)
    where
      go : (b c : Bool) → ltb i k ≡ b → contains_any (class_at cs i) (class_at cs k) ≡ c → (if b && c then Some k else meeting_below cs i k) ≡ None
          → (meeting_below cs i k ≡ None → (j : ℕ) → i < j → j < k → contains_any (class_at cs i) (class_at cs j) ≡ false) → Dec (j ≡ k) → contains_any (class_at cs i) (class_at cs j) ≡ false
      go true true p q s r d = absurd (let z : ◌≡◌ {A = ℕ} 0 1 = cc in omega arith)
      go true false p q s r (yes t) = subst (λ (x : ℕ). contains_any (class_at cs i) (class_at cs x) ≡ false) (sym t) q
      go true false p q s r (no t) = r s j a (omega arith)
      go false c p q s r (yes t) = absurd (true_not_false (lt-ltb i k (omega arith)) p)
      go false c p q s r (no t) = r s j a (omega arith)

  -- the last class after i that meets it
  pub last_some : (j : ℕ) → last_meeting cs i ≡ Some j → Meets cs i j
  unfolding last_meeting
  last_some j h = let m = meeting_some (length cs) j h in record { after = m.0; below = m.1; common = m.2 }

  -- none after i meets it
  pub last_none : last_meeting cs i ≡ None → (j : ℕ) → i < j → j < length cs → contains_any (class_at cs i) (class_at cs j) ≡ false
  unfolding last_meeting
  last_none h j a b = meeting_none (length cs) h j a b

-- ---- the steps of bridging

-- what the two steps keep, bridging keeps, and it comes to the end
module _ (P : ℕ → List Class → Type 0)
    (next : (i : ℕ) (cs : List Class) → i < length cs → last_meeting cs i ≡ None → P i cs → P (i + 1) cs)
    (meets : (i j : ℕ) (cs : List Class) → i < length cs → Meets cs i j → P i cs → P i (bridged cs i j)) where
  -- from a place on, n classes before the end
  rest-keeps : (n i : ℕ) (cs : List Class) → length cs - i ≡ n → P i cs → (k : ℕ) × (length (bridge_rest i cs) ≤ k) × P k (bridge_rest i cs)
  rest-keeps zero i cs e p = rw (bridge_end i cs (omega arith)) (i, omega arith, p)
  rest-keeps (suc n) i cs e p = go (last_meeting cs i) refl (rest-keeps n)
    where
      l : i < length cs
      l = omega arith

      go : (o : Option ℕ) → last_meeting cs i ≡ o → ((i : ℕ) (cs : List Class) → length cs - i ≡ n → P i cs → (k : ℕ) × (length (bridge_rest i cs) ≤ k) × P k (bridge_rest i cs))
          → (k : ℕ) × (length (bridge_rest i cs) ≤ k) × P k (bridge_rest i cs)
      go None q r = rw (bridge_next i cs l q) (r (i + 1) cs (omega arith) (next i cs l q p))
      go (Some j) q r = rw (bridge_meets i cs j l q) (r i (bridged cs i j) (omega (arith, length-bridged cs i j)) (meets i j cs l (last_some cs i j q) p))

  -- from the first place on
  pub bridge_keeps : (cs : List Class) → P 0 cs → (k : ℕ) × (length (bridge_classes cs) ≤ k) × P k (bridge_classes cs)
  unfolding bridge_classes
  bridge_keeps cs p = rest-keeps (length cs) 0 cs (omega arith) p

module _ (cs : List Class) (i j : ℕ) (m : Meets cs i j) where
  -- class i is there also without class j
  pub meets-low : i < length (removed cs j)
  meets-low = omega (arith, length_removed cs j, m.after, m.below)

  -- and it is the same
  same : class_at (removed cs j) i ≡ class_at cs i
  same = removed-other cs j i (omega (arith, m.after, m.below)) (λ e. omega (arith, m.after))

  -- class i is extended by class j
  pub bridged-at : class_at (bridged cs i j) i ≡ extended (class_at cs i) (class_at cs j)
  unfolding bridged extended
  bridged-at = merged_at-same (removed cs j) i (missing (class_at cs i) (class_at cs j)) meets-low ∙ ap (λ (c : Class). merged c (missing (class_at cs i) (class_at cs j))) same

  -- a class before i stays
  pub bridged-before : (a : ℕ) → a < i → class_at (bridged cs i j) a ≡ class_at cs a
  unfolding bridged
  bridged-before a l =
      merged_at-other (removed cs j) i a (missing (class_at cs i) (class_at cs j)) (λ t. omega arith)
      ∙ removed-other cs j a (omega (arith, m.after, m.below)) (λ t. omega (arith, m.after))

  -- another class comes from a place that is not before its own
  pub bridged-from : (p : ℕ) → p < length (bridged cs i j) → (p ≡ i → ⊥) → (q : ℕ) × (p ≤ q) × (q < length cs) × (class_at (bridged cs i j) p ≡ class_at cs q)
  unfolding bridged
  bridged-from p l n = go (ℕ_discrete p j)
    where
      few : p < length cs - 1
      few = omega (arith, length-merged_at (removed cs j) i (missing (class_at cs i) (class_at cs j)), length_removed cs j)

      other : class_at (merged_at (removed cs j) i (missing (class_at cs i) (class_at cs j))) p ≡ class_at (removed cs j) p
      other = merged_at-other (removed cs j) i p (missing (class_at cs i) (class_at cs j)) n

      go : Dec (p ≡ j) → (q : ℕ) × (p ≤ q) × (q < length cs) × (class_at (merged_at (removed cs j) i (missing (class_at cs i) (class_at cs j))) p ≡ class_at cs q)
      go (yes e) = (length cs - 1, omega (arith, few), omega (arith, few), other ∙ subst (λ (k : ℕ). class_at (removed cs j) k ≡ class_at cs (length cs - 1)) (sym e) (removed-gap cs j (omega (arith, few))))
      go (no e) = (p, omega arith, omega (arith, few), other ∙ removed-other cs j p few e)

  -- every class but these two is there afterwards
  pub bridged-to : (q : ℕ) → q < length cs → (q ≡ i → ⊥) → (q ≡ j → ⊥) → (p : ℕ) × (p < length (bridged cs i j)) × (class_at (bridged cs i j) p ≡ class_at cs q)
  unfolding bridged
  bridged-to q l ni nj = go (dec_lt q (length cs - 1))
    where
      long : length (merged_at (removed cs j) i (missing (class_at cs i) (class_at cs j))) ≡ length cs - 1
      long = length-merged_at (removed cs j) i (missing (class_at cs i) (class_at cs j)) ∙ length_removed cs j

      go : Dec (q < length cs - 1) → (p : ℕ) × (p < length (merged_at (removed cs j) i (missing (class_at cs i) (class_at cs j)))) × (class_at (merged_at (removed cs j) i (missing (class_at cs i) (class_at cs j))) p ≡ class_at cs q)
      go (yes k) = (q, omega (arith, long), merged_at-other (removed cs j) i q (missing (class_at cs i) (class_at cs j)) ni ∙ removed-other cs j q k nj)
      go (no k) =
          let e : length cs - 1 ≡ q = omega arith in (
            j,
            omega (arith, long, m.below),
            merged_at-other (removed cs j) i j (missing (class_at cs i) (class_at cs j)) (λ t. omega (arith, m.after)) ∙ removed-gap cs j (omega (arith, m.below)) ∙ ap (λ (k : ℕ). class_at cs k) e,
          )

  -- what holds for every class and for the extended one holds for every class afterwards
  pub all-bridged : (Q : Class → Type 0) → All Q cs → Q (extended (class_at cs i) (class_at cs j)) → All Q (bridged cs i j)
  all-bridged Q h x p l = go (ℕ_discrete p i)
    where
      go : Dec (p ≡ i) → Q (class_at (bridged cs i j) p)
      go (yes e) = subst (λ (k : ℕ). Q (class_at (bridged cs i j) k)) (sym e) (subst Q (sym bridged-at) x)
      go (no n) = let f = bridged-from p l n in subst Q (sym f.3) (h f.0 f.2)

-- a property of classes that a class keeps when another that it meets extends it
abbrev pub Extending : (Class → Type 0) → Type 0
Extending Q = (c d : Class) → contains_any c d ≡ true → Q c → Q d → Q (extended c d)

-- bridging keeps such a property
pub all_bridge : (Q : Class → Type 0) → Extending Q → (cs : List Class) → All Q cs → All Q (bridge_classes cs)
all_bridge Q x cs h =
    (bridge_keeps (λ i ds. All Q ds) (λ i ds l q p. p)
    (λ i j ds l m p. all-bridged ds i j m Q p (x (class_at ds i) (class_at ds j) m.common (p i l) (p j m.below))) cs h).2

-- ---- the kept list

-- a class that goes if it says nothing
pub all-dropped : (Q : Class → Type 0) (cs : List Class) (i : ℕ) → All Q cs → All Q (dropped_at cs i)
unfolding dropped_at
all-dropped Q cs i h = go (is_trivial (class_at cs i))
  where
    go : (b : Bool) → All Q (if b then removed cs i else cs)
    go true = all-removed Q cs i h
    go false = h

-- the classes before a place
pub all-below : (Q : Class → Type 0) (i : ℕ) (cs : List Class) → All Q cs → All Q (drop_below i cs)
unfolding drop_below
all-below Q zero cs h = h
all-below Q (suc i) cs h = all-below Q i (dropped_at cs i) (all-dropped Q cs i h)

-- what holds for every class holds for every kept one
pub all-kept : (Q : Class → Type 0) (cs : List Class) → All Q cs → All Q (kept_classes cs)
unfolding kept_classes
all-kept Q cs h = all-below Q (length cs) cs h

-- every class from a place on says something
abbrev Saying : ℕ → List Class → Type 0
Saying i cs = (k : ℕ) → i ≤ k → k < length cs → is_trivial (class_at cs k) ≡ false

-- a class that says nothing goes, and the last moves into its gap
saying-dropped : (cs : List Class) (i : ℕ) → suc i ≤ length cs → Saying (suc i) cs → (i ≤ length (dropped_at cs i)) × Saying i (dropped_at cs i)
unfolding dropped_at
saying-dropped cs i l h = go (is_trivial (class_at cs i)) refl
  where
    go : (b : Bool) → is_trivial (class_at cs i) ≡ b → (i ≤ length (if b then removed cs i else cs)) × Saying i (if b then removed cs i else cs)
    go true q = (omega (arith, length_removed cs i), λ k a b. at k a (omega (arith, length_removed cs i)) (ℕ_discrete k i))
      where
        at : (k : ℕ) → i ≤ k → k < length cs - 1 → Dec (k ≡ i) → is_trivial (class_at (removed cs i) k) ≡ false
        at k a b (yes e) =
            subst (λ (x : ℕ). is_trivial (class_at (removed cs i) x) ≡ false) (sym e)
            (ap is_trivial (removed-gap cs i (omega arith)) ∙ h (length cs - 1) (omega arith) (omega arith))
        at k a b (no e) = ap is_trivial (removed-other cs i k b e) ∙ h k (omega arith) (omega arith)
    go false q = (omega arith, λ k a b. at k a b (ℕ_discrete k i))
      where
        at : (k : ℕ) → i ≤ k → k < length cs → Dec (k ≡ i) → is_trivial (class_at cs k) ≡ false
        at k a b (yes e) = subst (λ (x : ℕ). is_trivial (class_at cs x) ≡ false) (sym e) q
        at k a b (no e) = h k (omega arith) b

-- the classes before a place likewise
saying-below : (i : ℕ) (cs : List Class) → i ≤ length cs → Saying i cs → Saying 0 (drop_below i cs)
unfolding drop_below
saying-below zero cs l h = h
saying-below (suc i) cs l h = let d = saying-dropped cs i l h in saying-below i (dropped_at cs i) d.0 d.1

-- every kept class says something
pub kept-says : (cs : List Class) (k : ℕ) → k < length (kept_classes cs) → is_trivial (class_at (kept_classes cs) k) ≡ false
unfolding kept_classes
kept-says cs k l = saying-below (length cs) cs (omega arith) (λ k a b. absurd (omega arith)) k (omega arith) l

-- ---- the whole

-- `new` keeps a property that holds for every class and that extending keeps
pub all_from : (Q : Class → Type 0) → Extending Q → (cs : List Class) → All Q cs → All Q (from_classes cs)
unfolding from_classes
all_from Q x cs h = all_bridge Q x (kept_classes cs) (all-kept Q cs h)

-- whoever is in one class is related
abbrev pub Within : (ℕ → ℕ → Type 0) → Class → Type 0
Within R c = (x y : ℕ) → among x c.members ≡ true → among y c.members ≡ true → R x y

-- by a relation that goes on, and then also whoever is in one class that was extended by one that it meets
pub within-extending : (R : ℕ → ℕ → Type 0) → ((x e y : ℕ) → R x e → R e y → R x y) → Extending (Within R)
unfolding contains_any
within-extending R on c d h p q x y a b =
    let e = any-common c.members d.members h in
    at e (extended-from c d x a) (extended-from c d y b)
  where
    at : (e : ℕ) × (among e c.members ≡ true) × (among e d.members ≡ true) → (among x c.members ≡ true) ⊎ (among x d.members ≡ true)
        → (among y c.members ≡ true) ⊎ (among y d.members ≡ true) → R x y
    at e (inl s) (inl t) = p x y s t
    at e (inl s) (inr t) = on x e.0 y (p x e.0 s e.1) (q e.0 y e.2 t)
    at e (inr s) (inl t) = on x e.0 y (q x e.0 s e.2) (p e.0 y e.1 t)
    at e (inr s) (inr t) = q x y s t

-- each class before a place has nothing in common with any later one
abbrev pub ApartBelow : ℕ → List Class → Type 0
ApartBelow i cs = (e a b : ℕ) → a < i → a < b → b < length cs → among e (class_at cs a).members ≡ true → among e (class_at cs b).members ≡ true → ⊥

-- class i has nothing in common with any later one
apart_next : (i : ℕ) (cs : List Class) → i < length cs → last_meeting cs i ≡ None → ApartBelow i cs → ApartBelow (i + 1) cs
unfolding contains_any
apart_next i cs l q h e a b la lb lc p r = at (ℕ_discrete a i)
  where
    at : Dec (a ≡ i) → ⊥
    at (yes t) =
        any-apart (class_at cs i).members (class_at cs b).members (last_none cs i q b (omega arith) lc) e (subst (λ (k : ℕ). among e (class_at cs k).members ≡ true) t p) r
    at (no t) = h e a b (omega arith) lb lc p r

-- class i takes in class j
apart-meets : (i j : ℕ) (cs : List Class) → i < length cs → Meets cs i j → ApartBelow i cs → ApartBelow i (bridged cs i j)
apart-meets i j cs l m h e a b la lb lc p r = at (ℕ_discrete b i)
  where
    old : among e (class_at cs a).members ≡ true
    old = ap (λ (c : Class). among e c.members) (sym (bridged-before cs i j m a la)) ∙ p

    part : (among e (class_at cs i).members ≡ true) ⊎ (among e (class_at cs j).members ≡ true) → ⊥
    part (inl s) = h e a i la la l old s
    part (inr s) = h e a j la (omega (arith, m.after)) m.below old s

    at : Dec (b ≡ i) → ⊥
    at (yes t) =
        part (extended-from (class_at cs i) (class_at cs j) e
        (ap (λ (c : Class). among e c.members) (sym (bridged-at cs i j m)) ∙ subst (λ (k : ℕ). among e (class_at (bridged cs i j) k).members ≡ true) t r))
    at (no t) =
        let f = bridged-from cs i j m b lc t in
        h e a f.0 la (omega (arith, f.1)) f.2 old (ap (λ (c : Class). among e c.members) (sym f.3) ∙ r)

-- where no class has an expression twice and no two have one in common, no expression is there twice
pub apart-once : (e : ℕ) (cs : List Class) → All (λ c. count e c.members ≤ 1) cs → ApartBelow (length cs) cs → counts e cs ≤ 1
unfolding sum
apart-once e [] o h = omega arith
apart-once e (c ∷ cs) o h = go (among e c.members) refl (among e (flat cs)) refl (apart-once e cs (λ i l. o (suc i) (omega arith)) (λ x a b la lb lc p q. h x (suc a) (suc b) (omega arith) (omega arith) (omega arith) p q))
  where
    go : (s : Bool) → among e c.members ≡ s → (t : Bool) → among e (flat cs) ≡ t → counts e cs ≤ 1 → count e c.members + counts e cs ≤ 1
    go true p true q r = let f = flat-class cs e q in absurd (h e 0 (suc f.0) (omega arith) (omega arith) (omega (arith, f.1)) p f.2)
    go true p false q r = omega (arith, count-flat e cs, among-never e (flat cs) q, o 0 (omega arith))
    go false p t q r = omega (arith, among-never e c.members p)

-- no expression twice in a class
abbrev pub Single : Class → Type 0
Single c = (e : ℕ) → count e c.members ≤ 1

-- extending keeps that
pub single-extending : Extending Single
single-extending c d h p q e = extended-once c d e (p e) (q e)

-- after bridging no expression is there twice
pub bridge_once : (cs : List Class) → All Single cs → (e : ℕ) → counts e (bridge_classes cs) ≤ 1
bridge_once cs h e =
    let r = bridge_keeps ApartBelow apart_next apart-meets cs (λ e a b la lb lc p q. omega arith) in
    apart-once e (bridge_classes cs) (λ i l. all_bridge Single single-extending cs h i l e) (λ x a b la lb lc p q. r.2 x a b (omega (arith, r.1)) lb lc p q)
