-- Inserting as the code does it: the search for a key, a dependency more, and the answers by whether the map fits.
use Prim.Native.Nat.{ℕ, ◌+◌, ◌<◌, ◌≤◌}
use mathlib.Core.Bool.{Bool, true, false, ◌||◌}
use Rattle.std.specs.List.{list_any}
use mathlib.Core.List.{List, [], ◌∷◌, ◌++◌}
use Rattle.std.specs.Prelude.{Option, None, Some, Ok, Err}
use mathlib.Core.Path.{◌≡◌, refl, sym, ap, ◌∙◌, subst}
use native.Mathlib.Decide.{ℕ_discrete}
use native.Mathlib.Omega.{arith}
use borrow.Author.Tests.{leb-true, leb-false, le-leb, lt-leb}
use lib.Dec.{eqb, leb}
use lib.ListN.{length, set, length-append, length-set, get_or-append}
use lib.Seq.{get_or_at, get_or-set_same, get_or-set_other}
use Rattle.laws.specs.Tests.{each, first}
use Rattle.laws.proofs.Booleans.{and_fails_right}
use Rattle.laws.proofs.Each.{each_all, each_fails}
use Rattle.laws.proofs.First.{first_some, first_cong}
use Rattle.classes.specs.Group.{among}
use Rattle.dependencies.specs.Map.{Dependent, entry_at, place_of, with_dependency, inserted_at, inserted, fits}
use Rattle.dependencies.specs.Layout.{row, entry_of, encode, decode, place_in}
use Rattle.dependencies.specs.Calls.{judged}
use Rattle.dependencies.specs.Inner.{Coded, Held, extended_by}
use Rattle.dependencies.specs.declared.DependencyNode.{DependencyNode}
use Rattle.dependencies.specs.declared.DependencyMap.{DependencyMap}
use Rattle.arena.specs.declared.Refusal.{Refusal}
use Rattle.arena.specs.declared.Refusal.TheVariants.{TooLarge}
use Rattle.arena.proofs.Refusals.{ok-not-err}
use Rattle.dependencies.specs.declared.Inserted.{Inserted}
use Rattle.dependencies.proofs.MapCodec.{entry_row, size_is, length-decode, place-decode, place_set, place-more, row_more}

-- what a search of a slice answers
pub any-among : (k : ℕ) (ks : List ℕ) → list_any (λ y. eqb y k) ks ≡ among k ks
unfolding among
any-among k [] = refl
any-among k (m ∷ ms) = ap (λ b. eqb m k || b) (any-among k ms)

-- the key at a place of a struct is the one that is looked for
abbrev pub KeyAt : DependencyMap → ℕ → ℕ → Bool
KeyAt m key i = eqb (place_in m i).key key

-- the search for a key
module _ (m : DependencyMap) (key : ℕ) where
  pub key-first : place_of (decode m) key ≡ first (KeyAt m key) m.count
  unfolding place_of entry_of
  key-first =
      ap (λ (n : ℕ). first (λ i. eqb (entry_at (decode m) i).key key) n) (length-decode m)
      ∙ first_cong (λ i. eqb (entry_at (decode m) i).key key) (KeyAt m key) m.count (λ i l. ap (λ (d : Dependent). eqb d.key key) (place-decode m i l))

  -- a place that was found is one of the map
  pub key-inside : (i : ℕ) → place_of (decode m) key ≡ Some i → i < m.count
  key-inside i e = (first_some (KeyAt m key) m.count i (sym key-first ∙ e)).below

-- the answer of an insert by the place of its key; where the key is, its target and the key that is given make no difference
module _ (m : DependencyMap) (k key : ℕ) (target dependency : Option ℕ) (r : Inserted) where
  pub inserted-at : (o : Option ℕ) → place_of (decode m) k ≡ o → k ≡ key → r ≡ judged m (inserted_at (decode m) k target dependency o) → r ≡ judged m (inserted (decode m) key target dependency)
  unfolding inserted
  inserted-at o e q p =
      p ∙ ap (λ (x : Option ℕ). judged m (inserted_at (decode m) k target dependency x)) (sym e) ∙ ap (λ (x : ℕ). judged m (inserted (decode m) x target dependency)) q

  pub inserted-there : (i : ℕ) → place_of (decode m) k ≡ Some i → k ≡ key → r ≡ judged m (inserted_at (decode m) 0 None dependency (Some i)) → r ≡ judged m (inserted (decode m) key target dependency)
  unfolding inserted_at
  inserted-there i e q p = inserted-at (Some i) e q p

-- a dependency is there, or it comes to the end
pub with-there : (ks : List ℕ) (k : ℕ) → among k ks ≡ true → with_dependency ks (Some k) ≡ ks
unfolding with_dependency
with-there ks k e = rw e

pub with-new : (ks : List ℕ) (k : ℕ) → among k ks ≡ false → with_dependency ks (Some k) ≡ ks ++ (k ∷ [])
unfolding with_dependency
with-new ks k e = rw e

-- a first dependency is one
pub with-one : (d : Option ℕ) → length (with_dependency [] d) ≤ 16
unfolding with_dependency among
with-one None = omega arith
with-one (Some k) = omega arith

-- an entry with other dependencies
abbrev depends : Dependent → List ℕ → Dependent
depends e ks = record { key = e.key; target = e.target; dependencies = ks }

-- an entry with a dependency more, by its dependencies then
extended_fits : (r : DependencyNode) (d : Option ℕ) (ks : List ℕ) → with_dependency (entry_of r).dependencies d ≡ ks → length ks ≤ 16 → extended_by r d ≡ Ok (row (depends (entry_of r) ks))
unfolding extended_by
extended_fits r d ks e l = rw (e, le-leb (length ks) 16 l)

extended-full : (r : DependencyNode) (d : Option ℕ) (ks : List ℕ) → with_dependency (entry_of r).dependencies d ≡ ks → 16 < length ks → extended_by r d ≡ Err TooLarge
unfolding extended_by
extended-full r d ks e l = rw (e, lt-leb (length ks) 16 l)

-- an entry: no dependency is given, it is there, there is no place left, or it comes to the end
module _ (r : DependencyNode) (h : Coded r) where
  few : length (entry_of r).dependencies ≤ 16
  few = omega (arith, h.short, size_is r)

  pub extended_none : Ok r ≡ extended_by r None
  unfolding with_dependency
  extended_none = sym (extended_fits r None (entry_of r).dependencies refl few ∙ ap Ok h.coded)

  module _ (key : ℕ) where
    pub extended-there : among key (entry_of r).dependencies ≡ true → Ok r ≡ extended_by r (Some key)
    extended-there q = sym (extended_fits r (Some key) (entry_of r).dependencies (with-there (entry_of r).dependencies key q) few ∙ ap Ok h.coded)

    pub extended-many : among key (entry_of r).dependencies ≡ false → 16 ≤ r.size → Err TooLarge ≡ extended_by r (Some key)
    extended-many q l =
        sym (extended-full r (Some key) ((entry_of r).dependencies ++ (key ∷ [])) (with-new (entry_of r).dependencies key q)
        (omega (arith, length-append (entry_of r).dependencies (key ∷ []), size_is r)))

    pub extended-new : among key (entry_of r).dependencies ≡ false → r.size < 16
        → Ok (record { key = r.key; projected = r.projected; target = r.target; size = r.size + 1; dependencies = set r.dependencies r.size key }) ≡ extended_by r (Some key)
    extended-new q l =
        ap Ok
        (subst (λ (x : DependencyNode). ◌≡◌ {A = DependencyNode} (record { key = x.key; projected = x.projected; target = x.target; size = x.size + 1; dependencies = set x.dependencies x.size key })
        (row (depends (entry_of r) ((entry_of r).dependencies ++ (key ∷ []))))) h.coded (row_more (entry_of r) key (omega (arith, size_is r))))
        ∙ sym (extended_fits r (Some key) ((entry_of r).dependencies ++ (key ∷ [])) (with-new (entry_of r).dependencies key q)
        (omega (arith, length-append (entry_of r).dependencies (key ∷ []), size_is r)))

-- what an answer says of the dependencies
record Fitting (n r : DependencyNode) (d : Option ℕ) : Type 0 where
  short : length (with_dependency (entry_of r).dependencies d) ≤ 16
  is : n ≡ row (depends (entry_of r) (with_dependency (entry_of r).dependencies d))

module _ (r : DependencyNode) (d : Option ℕ) where
  abbrev more : List ℕ
  more = with_dependency (entry_of r).dependencies d

  fitting : (n : DependencyNode) → Ok n ≡ extended_by r d → Fitting n r d
  fitting n q = go (leb (length more) 16) refl
    where
      go : (b : Bool) → leb (length more) 16 ≡ b → Fitting n r d
      go true s =
          let l = leb-true (length more) 16 s in
          let e : Ok n ≡ Ok (row (depends (entry_of r) more)) = q ∙ extended_fits r d more refl l in
          record { short = l; is = cc }
      go false s = absurd (ok-not-err (q ∙ extended-full r d more refl (leb-false (length more) 16 s)))

  pub unfitting : (e : Refusal) → Err e ≡ extended_by r d → (16 < length more) × (e ≡ TooLarge)
  unfitting e q = go (leb (length more) 16) refl
    where
      go : (b : Bool) → leb (length more) 16 ≡ b → (16 < length more) × (e ≡ TooLarge)
      go true s = absurd (ok-not-err (sym (q ∙ extended_fits r d more refl (leb-true (length more) 16 s))))
      go false s = let l = leb-false (length more) 16 s in let p : Err e ≡ Err TooLarge = q ∙ extended-full r d more refl l in (l, cc)

-- each entry has at most 16 dependencies
abbrev AllShort : List Dependent → Type 0
AllShort ds = (i : ℕ) → i < length ds → length (entry_at ds i).dependencies ≤ 16

-- one that has more
long-fits : (ds : List Dependent) (i : ℕ) → i < length ds → 16 < length (entry_at ds i).dependencies → fits ds ≡ false
unfolding fits
long-fits ds i l b =
    and_fails_right (leb (length ds) 64) (each (λ i. leb (length (entry_at ds i).dependencies) 16) (length ds))
    (each_fails (λ i. leb (length (entry_at ds i).dependencies) 16) (length ds) i l (lt-leb (length (entry_at ds i).dependencies) 16 b))

abbrev made : DependencyMap → Inserted
made m = record { done = Ok tt; map = m }

abbrev refused : DependencyMap → Inserted
refused m = record { done = Err TooLarge; map = m }

-- a map that was made: it fits, it has too many keys, or an entry has too many dependencies
module _ (m : DependencyMap) (ds : List Dependent) where
  judged-made : length ds ≤ 64 → AllShort ds → judged m ds ≡ made (encode ds)
  unfolding judged fits
  judged-made l h = rw (le-leb (length ds) 64 l, each_all (λ i. leb (length (entry_at ds i).dependencies) 16) (length ds) (λ i b. le-leb (length (entry_at ds i).dependencies) 16 (h i b)))

  judged-many : 64 < length ds → judged m ds ≡ refused m
  unfolding judged fits
  judged-many l = rw (lt-leb (length ds) 64 l)

  judged-long : (i : ℕ) → i < length ds → 16 < length (entry_at ds i).dependencies → judged m ds ≡ refused m
  unfolding judged
  judged-long i l b = rw (long-fits ds i l b)

-- the entries of a struct that is held are short
held-short : (m : DependencyMap) → Held m → AllShort (decode m)
held-short m h i l =
    let b : i < m.count = omega (arith, length-decode m) in
    let e = ap (λ (d : Dependent). length d.dependencies) (place-decode m i b) in
    omega (arith, (h.entries i b).short, size_is (place_in m i))

-- an entry is replaced, with a dependency more
module _ (m : DependencyMap) (h : Held m) (i : ℕ) (l : i < m.count) (d : Option ℕ) where
  abbrev next : Dependent
  next = depends (entry_at (decode m) i) (with_dependency (entry_at (decode m) i).dependencies d)

  next-is : next ≡ depends (entry_of (place_in m i)) (with_dependency (entry_of (place_in m i)).dependencies d)
  next-is = ap (λ (x : Dependent). depends x (with_dependency x.dependencies d)) (place-decode m i l)

  next-size : length next.dependencies ≡ length (with_dependency (entry_of (place_in m i)).dependencies d)
  next-size = ap (λ (x : Dependent). length x.dependencies) next-is

  inside : i < length (decode m)
  inside = omega (arith, length-decode m)

  place-next : entry_at (set (decode m) i next) i ≡ next
  place-next = get_or-set_same (decode m) i next (record { key = 0; target = None; dependencies = [] }) inside

  pub replaced-full : (e : Refusal) → Err e ≡ extended_by (place_in m i) d → record { done = Err e; map = m } ≡ judged m (inserted_at (decode m) 0 None d (Some i))
  unfolding inserted_at
  replaced-full e q =
      ap (λ (x : Refusal). record { done = Err x; map = m }) (unfitting (place_in m i) d e q).1
      ∙ sym (judged-long m (set (decode m) i next) i (omega (arith, inside, length-set (decode m) i next))
      (omega (arith, ap (λ (x : Dependent). length x.dependencies) place-next, next-size, (unfitting (place_in m i) d e q).0)))

  pub replaced : (n : DependencyNode) → Ok n ≡ extended_by (place_in m i) d → made (record { count = m.count; list = set m.list i n }) ≡ judged m (inserted_at (decode m) 0 None d (Some i))
  unfolding inserted_at
  replaced n q =
      let v = fitting (place_in m i) d n q in
      ap (λ (r : DependencyNode). made (record { count = m.count; list = set m.list i r })) (v.is ∙ ap row (sym next-is))
      ∙ ap made (place_set m h next i l)
      ∙ sym (judged-made m (set (decode m) i next) (omega (arith, h.few, length-decode m, length-set (decode m) i next)) (λ j b. at j b (ℕ_discrete j i)))
    where
      at : (j : ℕ) → j < length (set (decode m) i next) → Dec (j ≡ i) → length (entry_at (set (decode m) i next) j).dependencies ≤ 16
      at j b (yes s) = rw s (omega (arith, ap (λ (x : Dependent). length x.dependencies) place-next, next-size, (fitting (place_in m i) d n q).short))
      at j b (no s) =
          let k : j < length (decode m) = omega (arith, length-set (decode m) i next) in
          let same = ap (λ (x : Dependent). length x.dependencies) (get_or-set_other (decode m) i j next (record { key = 0; target = None; dependencies = [] }) s) in
          omega (arith, held-short m h j k)

-- a key comes to the end
module _ (m : DependencyMap) (h : Held m) (key : ℕ) (target d : Option ℕ) where
  abbrev last : Dependent
  last = record { key = key; target = target; dependencies = with_dependency [] d }

  pub appended-many : 64 ≤ m.count → judged m (inserted_at (decode m) key target d None) ≡ refused m
  unfolding inserted_at
  appended-many l = judged-many m (decode m ++ (last ∷ [])) (omega (arith, length-append (decode m) (last ∷ []), length-decode m))

  -- there is room for its dependency
  first-fits : (r : DependencyNode) → r ≡ row (record { key = key; target = target; dependencies = [] }) → extended_by r d ≡ Ok (row last)
  first-fits r p =
      extended_fits r d (with_dependency [] d) (ap (λ (x : Dependent). with_dependency x.dependencies d) back) (with-one d)
      ∙ ap (λ (x : Dependent). Ok (row (depends x (with_dependency [] d)))) back
    where
      back : entry_of r ≡ record { key = key; target = target; dependencies = [] }
      back = ap entry_of p ∙ entry_row (record { key = key; target = target; dependencies = [] })

  pub first-refused : (A : Type 0) (r : DependencyNode) (e : Refusal) → r ≡ row (record { key = key; target = target; dependencies = [] }) → Err e ≡ extended_by r d → A
  first-refused A r e p q = absurd (ok-not-err (sym (q ∙ first-fits r p)))

  pub appended : (r n : DependencyNode) → r ≡ row (record { key = key; target = target; dependencies = [] }) → Ok n ≡ extended_by r d → m.count < 64
      → made (record { count = m.count + 1; list = set m.list m.count n }) ≡ judged m (inserted_at (decode m) key target d None)
  unfolding inserted_at
  appended r n p q l =
      ap (λ (x : DependencyNode). made (record { count = m.count + 1; list = set m.list m.count x })) node
      ∙ ap made (place-more m h last l)
      ∙ sym (judged-made m (decode m ++ (last ∷ [])) (omega (arith, length-append (decode m) (last ∷ []), length-decode m)) (λ j b. at j b (ℕ_discrete j (length (decode m)))))
    where
      node : n ≡ row last
      node = let w : Ok n ≡ Ok (row last) = q ∙ first-fits r p in cc

      at : (j : ℕ) → j < length (decode m ++ (last ∷ [])) → Dec (j ≡ length (decode m)) → length (entry_at (decode m ++ (last ∷ [])) j).dependencies ≤ 16
      at j b (yes s) = rw (get_or_at (decode m) last [] (record { key = 0; target = None; dependencies = [] }) j (sym s)) (with-one d)
      at j b (no s) =
          let k : j < length (decode m) = omega (arith, length-append (decode m) (last ∷ [])) in
          rw (get_or-append (decode m) (last ∷ []) (record { key = 0; target = None; dependencies = [] }) j k) (held-short m h j k)
