-- The struct of a dependency map: what stands where, that nothing is lost, that a struct which passes the check is the layout of a map, and what writing a place makes of the map.
use Rattle.std.specs.Prelude.{if◌then◌else◌, Option, None, Some}
use Prim.Native.Nat.{ℕ, zero, suc, ◌+◌, ◌-◌, ◌<◌, ◌≤◌}
use mathlib.Core.Bool.{Bool, true, false, not, ◌&&◌, ◌||◌}
use mathlib.Core.List.{List, [], ◌∷◌, ◌++◌, map, map-append}
use mathlib.Core.Path.{◌≡◌, refl, sym, ap, ◌∙◌, subst}
use native.Mathlib.Decide.{dec_lt}
use native.Mathlib.Omega.{arith}
use borrow.Author.Tests.{eqb-true, not-true}
use denote.Array.{each as owned}
use denote.Laws.{Is}
use denote.Shadow.{shadow}
use mir.Val.{Val}
use lib.Dec.{eqb, leb}
use lib.ListN.{length, get_or, set, replicate, length-append, length-replicate, length-set, length-map, get_or-eq_default, get_or-map}
use lib.Seq.{ext_get_or, set_at, append_snoc, set-append_left}
use Rattle.laws.specs.Lists.{table}
use Rattle.laws.specs.Tests.{each}
use Rattle.laws.proofs.Booleans.{and_left, and_right}
use Rattle.laws.proofs.Each.{each_holds}
use Rattle.laws.proofs.Table.{length-table, get_or-table, table_is}
use Rattle.orderings.proofs.Codec.{fill_after}
use Rattle.orderings.proofs.ListChecks.{four}
use Rattle.dependencies.specs.Map.{Dependent, entry_at}
use Rattle.dependencies.specs.Layout.{is_there, number_or0, row, entry_of, unused, encode, place_in, decode, rest_unused, lawful_entry, unused_entry, lawful_map}
use Rattle.dependencies.specs.Inner.{Coded, Held}
use Rattle.dependencies.specs.declared.DependencyNode.{DependencyNode}
use Rattle.dependencies.specs.declared.DependencyMap.{DependencyMap}
use Rattle.dependencies.specs.contracts.DependencyNode.{the_row as the_row'}
use Rattle.dependencies.specs.contracts.DependencyMap.{the_row}
use Rattle.dependencies.proofs.MapChecks.{sized, Fresh, LawfulAt, FreshAt, UnusedAt, entry-size, lawful-few, lawful-entries}

-- n places with a list's elements and nothing after them are the list filled up
fill_is : {A : Type 0} (d : A) (n : ℕ) (xs ys : List A) → length xs ≤ n → length ys ≡ n → ((i : ℕ) → i < n → get_or xs i d ≡ get_or ys i d) → xs ++ replicate (n - length xs) d ≡ ys
fill_is d n xs ys l e h = ext_get_or d (xs ++ replicate (n - length xs) d) ys (whole ∙ sym e) (λ i b. fill_after d xs (n - length xs) i ∙ h i (omega (arith, whole)))
  where
    whole : length (xs ++ replicate (n - length xs) d) ≡ n
    whole = omega (arith, length-append xs (replicate (n - length xs) d), length-replicate (n - length xs) d)

-- a list that is filled up, with another element at one of its places
fill_set : {A : Type 0} (d : A) (n : ℕ) (xs : List A) (i : ℕ) (x : A) → i < length xs → set (xs ++ replicate (n - length xs) d) i x ≡ set xs i x ++ replicate (n - length (set xs i x)) d
fill_set d n xs i x l = rw (length-set xs i x) (set-append_left xs (replicate (n - length xs) d) i x l)

-- and with one more
fill_more : {A : Type 0} (d : A) (n : ℕ) (xs : List A) (x : A) → length xs < n → set (xs ++ replicate (n - length xs) d) (length xs) x ≡ xs ++ (x ∷ []) ++ replicate (n - length (xs ++ (x ∷ []))) d
fill_more d n xs x l =
    let e : n - length xs ≡ suc (n - length (xs ++ (x ∷ []))) = omega (arith, length-append xs (x ∷ [])) in
    rw e (set_at xs d (replicate (n - length (xs ++ (x ∷ []))) d) x (length xs) refl ∙ sym (append_snoc xs x (replicate (n - length (xs ++ (x ∷ []))) d)))

module _ {A B : Type 0} (f : A → B) where
  map-set : (xs : List A) (i : ℕ) (x : A) → map f (set xs i x) ≡ set (map f xs) i (f x)
  map-set [] i x = refl
  map-set (y ∷ xs) zero x = refl
  map-set (y ∷ xs) (suc i) x = ap (λ (t : List B). f y ∷ t) (map-set xs i x)

-- the arrays have their lengths
pub record Sized (m : DependencyMap) : Type 0 where
  pub places : length m.list ≡ 64
  pub dependencies : (i : ℕ) → i < 64 → length (place_in m i).dependencies ≡ 16

dependencies-sized : (rs : List DependencyNode) (us : List Val) → shadow (owned DependencyNode the_row'.own_val rs us) → (i : ℕ) → i < length rs
    → length (get_or rs i unused).dependencies ≡ 16
dependencies-sized [] us p i l = absurd (omega arith)
dependencies-sized (r ∷ rs) [] p i l = absurd p
dependencies-sized (r ∷ rs) (u ∷ us) p zero l = p.0.1.1.1.1.1.1.0.1.0.1
dependencies-sized (r ∷ rs) (u ∷ us) p (suc i) l = dependencies-sized rs us p.1 i (omega arith)

-- the struct's type says so
pub arrays_sized : (m : DependencyMap) (vs : List Val) → Is the_row m vs → Sized m
arrays_sized m vs p =
    let list = p.1.1.1.0 in
    let n = sized m vs p in
    record { places = n; dependencies = λ i l. dependencies-sized m.list list.0 list.1.1 i (omega arith) }

-- a target and its two fields
target-back : (o : Option ℕ) → (if is_there o then Some (number_or0 o) else None) ≡ o
unfolding is_there number_or0
target-back None = refl
target-back (Some t) = refl

there_back : (b : Bool) (t : ℕ) → is_there (if b then Some t else None) ≡ b
unfolding is_there
there_back true t = refl
there_back false t = refl

number-back : (b : Bool) (t : ℕ) → (b || eqb t 0) ≡ true → number_or0 (if b then Some t else None) ≡ t
unfolding number_or0
number-back true t e = refl
number-back false t e = sym (eqb-true t 0 e)

-- one entry: nothing is lost
pub entry_row : (d : Dependent) → entry_of (row d) ≡ d
unfolding entry_of row
entry_row d = λ t. record { key = d.key; target = target-back d.target t; dependencies = kept t }
  where
    kept : table (λ k. get_or (d.dependencies ++ replicate (16 - length d.dependencies) 0) k 0) (length d.dependencies) ≡ d.dependencies
    kept =
        sym (table_is (λ k. get_or (d.dependencies ++ replicate (16 - length d.dependencies) 0) k 0) (length d.dependencies) d.dependencies 0 refl
        (λ k l. sym (fill_after 0 d.dependencies (16 - length d.dependencies) k)))

-- an entry of at most 16 dependencies is held in its struct
pub row-coded : (d : Dependent) → length d.dependencies ≤ 16 → Coded (row d)
unfolding row
row-coded d l = record { coded = ap row (entry_row d); short = l }

-- the entry of a struct
module _ (r : DependencyNode) where
  pub size_is : length (entry_of r).dependencies ≡ r.size
  unfolding entry_of
  size_is = length-table (λ k. get_or r.dependencies k 0) r.size

  dependency-is : (k : ℕ) → k < r.size → get_or (entry_of r).dependencies k 0 ≡ get_or r.dependencies k 0
  unfolding entry_of
  dependency-is k l = get_or-table (λ k. get_or r.dependencies k 0) r.size k 0 l

  unused-of : rest_unused r ≡ true → (k : ℕ) → r.size ≤ k → k < 16 → get_or r.dependencies k 0 ≡ 0
  unfolding rest_unused
  unused-of h k a b =
      let e : r.size + (k - r.size) ≡ k = omega arith in
      rw e at (eqb-true (get_or r.dependencies (r.size + (k - r.size)) 0) 0
      (each_holds (λ (i : ℕ). eqb (get_or r.dependencies (r.size + i) 0) 0) (16 - r.size) (k - r.size) h (omega arith)))

-- an entry that passes
module _ (r : DependencyNode) (n : length r.dependencies ≡ 16) where
  filled : r.size ≤ 16 → rest_unused r ≡ true → (entry_of r).dependencies ++ replicate (16 - length (entry_of r).dependencies) 0 ≡ r.dependencies
  filled l u = fill_is 0 16 (entry_of r).dependencies r.dependencies (omega (arith, size_is r)) n (λ k b. at k b (dec_lt k r.size))
    where
      at : (k : ℕ) → k < 16 → Dec (k < r.size) → get_or (entry_of r).dependencies k 0 ≡ get_or r.dependencies k 0
      at k b (yes p) = dependency-is r k p
      at k b (no p) = get_or-eq_default (entry_of r).dependencies 0 (omega (arith, size_is r)) ∙ sym (unused-of r u k (omega arith) b)

  -- a struct of 16 places with nothing after its dependencies is the layout of its entry
  row_back : r.size ≤ 16 → (r.projected || eqb r.target 0) ≡ true → rest_unused r ≡ true → row (entry_of r) ≡ r
  unfolding row entry_of
  row_back l e u = λ t. record {
    key = r.key;
    projected = there_back r.projected r.target t;
    target = number-back r.projected r.target e t;
    size = size_is r t;
    dependencies = filled l u t;
  }

  -- it is the layout of an entry
  entry-coded : lawful_entry r ≡ true → Coded r
  unfolding lawful_entry
  entry-coded e =
      let p = four (leb r.size 16) (each (Fresh r) r.size) (r.projected || eqb r.target 0) (rest_unused r) e in
      let few = entry-size r e in
      record { coded = row_back few p.2 p.3; short = few }

  -- an unused place is the layout of an empty one
  place-empty : unused_entry r ≡ true → r ≡ unused
  unfolding unused_entry row is_there number_or0
  place-empty e =
      let p = four (eqb r.key 0 && not r.projected) (eqb r.target 0) (eqb r.size 0) (rest_unused r) e in
      let key : r.key ≡ 0 = eqb-true r.key 0 (and_left (eqb r.key 0) (not r.projected) p.0) in
      let none-there : r.projected ≡ false = not-true r.projected (and_right (eqb r.key 0) (not r.projected) p.0) in
      let target : r.target ≡ 0 = eqb-true r.target 0 p.1 in
      let size : r.size ≡ 0 = eqb-true r.size 0 p.2 in
      let zeros : r.dependencies ≡ replicate {A = ℕ} 16 0 =
      sym (fill_is {A = ℕ} 0 16 [] r.dependencies (omega arith) n (λ k b. sym (unused-of r p.3 k (omega arith) b))) in
      λ t. record { key = key t; projected = none-there t; target = target t; size = size t; dependencies = zeros t }

-- a place of a map, also past its end
pub place-encode : (ds : List Dependent) (i : ℕ) → place_in (encode ds) i ≡ row (entry_at ds i)
unfolding encode
place-encode ds i = fill_after unused (map row ds) (64 - length ds) i ∙ get_or-map row ds i (record { key = 0; target = None; dependencies = [] })

-- nothing is lost
pub decode-encode : (ds : List Dependent) → decode (encode ds) ≡ ds
unfolding decode encode
decode-encode ds =
    sym (table_is (λ i. entry_of (place_in (encode ds) i)) (length ds) ds (record { key = 0; target = None; dependencies = [] }) refl
    (λ i l. sym (ap entry_of (place-encode ds i) ∙ entry_row (entry_at ds i))))

-- there are as many entries as the struct says
pub length-decode : (m : DependencyMap) → length (decode m) ≡ m.count
unfolding decode
length-decode m = length-table (λ i. entry_of (place_in m i)) m.count

-- an entry of a struct
pub place-decode : (m : DependencyMap) (i : ℕ) → i < m.count → entry_at (decode m) i ≡ entry_of (place_in m i)
unfolding decode
place-decode m i l = get_or-table (λ i. entry_of (place_in m i)) m.count i (record { key = 0; target = None; dependencies = [] }) l

-- a struct that passes
module _ (m : DependencyMap) (z : Sized m) (e : lawful_map m ≡ true) where
  rest-passes : each (UnusedAt m) (64 - m.count) ≡ true
  unfolding lawful_map
  rest-passes = (four (leb m.count 64) (each (LawfulAt m) m.count) (each (FreshAt m) m.count) (each (UnusedAt m) (64 - m.count)) e).3

  place-coded : (i : ℕ) → i < m.count → Coded (place_in m i)
  place-coded i l = entry-coded (place_in m i) (z.dependencies i (omega (arith, lawful-few m e))) (lawful-entries m e i l)

  place-unused : (i : ℕ) → m.count ≤ i → i < 64 → place_in m i ≡ unused
  place-unused i a b =
      let s : m.count + (i - m.count) ≡ i = omega arith in
      place-empty (place_in m i) (z.dependencies i b)
      (subst (λ (k : ℕ). unused_entry (place_in m k) ≡ true) s (each_holds (UnusedAt m) (64 - m.count) (i - m.count) rest-passes (omega arith)))

  list-is : map row (decode m) ++ replicate (64 - length (decode m)) unused ≡ m.list
  list-is =
      ap (λ (n : ℕ). map row (decode m) ++ replicate (64 - n) unused) (sym (length-map (decode m) row))
      ∙ fill_is unused 64 (map row (decode m)) m.list (omega (arith, length-map (decode m) row, length-decode m, lawful-few m e)) z.places
      (λ i b. get_or-map row (decode m) i (record { key = 0; target = None; dependencies = [] }) ∙ at i b (dec_lt i m.count))
    where
      at : (i : ℕ) → i < 64 → Dec (i < m.count) → row (entry_at (decode m) i) ≡ place_in m i
      at i b (yes l) = ap row (place-decode m i l) ∙ (place-coded i l).coded
      at i b (no l) = ap row (get_or-eq_default (decode m) (record { key = 0; target = None; dependencies = [] }) (omega (arith, length-decode m))) ∙ sym (place-unused i (omega arith) b)

  -- it is the layout of its map
  pub held-lawful : Held m
  unfolding encode
  held-lawful = record { coded = λ t. record { count = length-decode m t; list = list-is t }; few = lawful-few m e; entries = place-coded }

-- entries as they lie, filled up
list-filled : (rs : List DependencyNode) (ds : List Dependent) → rs ≡ map row ds → rs ++ replicate (64 - length rs) unused ≡ map row ds ++ replicate (64 - length ds) unused
list-filled rs ds e =
    ap (λ (t : List DependencyNode). t ++ replicate (64 - length t) unused) e
    ∙ ap (λ (k : ℕ). map row ds ++ replicate (64 - k) unused) (length-map ds row)

-- the struct of a map with another entry at a place
set-encode : (ds : List Dependent) (i : ℕ) (d : Dependent) → i < length ds
    → ◌≡◌ {A = DependencyMap} (record { count = length ds; list = set (encode ds).list i (row d) }) (encode (set ds i d))
unfolding encode
set-encode ds i d l = λ t. record { count = sym (length-set ds i d) t; list = moved t }
  where
    moved : set (map row ds ++ replicate (64 - length ds) unused) i (row d) ≡ map row (set ds i d) ++ replicate (64 - length (set ds i d)) unused
    moved =
        ap (λ (k : ℕ). set (map row ds ++ replicate (64 - k) unused) i (row d)) (sym (length-map ds row))
        ∙ fill_set unused 64 (map row ds) i (row d) (omega (arith, length-map ds row))
        ∙ list-filled (set (map row ds) i (row d)) (set ds i d) (sym (map-set row ds i d))

-- and with one more
encode-more : (ds : List Dependent) (d : Dependent) → length ds < 64
    → ◌≡◌ {A = DependencyMap} (record { count = length ds + 1; list = set (encode ds).list (length ds) (row d) }) (encode (ds ++ (d ∷ [])))
unfolding encode
encode-more ds d l = λ t. record { count = same t; list = moved t }
  where
    same : length ds + 1 ≡ length (ds ++ (d ∷ []))
    same = omega (arith, length-append ds (d ∷ []))

    moved : set (map row ds ++ replicate (64 - length ds) unused) (length ds) (row d) ≡ map row (ds ++ (d ∷ [])) ++ replicate (64 - length (ds ++ (d ∷ []))) unused
    moved =
        ap (λ (k : ℕ). set (map row ds ++ replicate (64 - k) unused) k (row d)) (sym (length-map ds row))
        ∙ fill_more unused 64 (map row ds) (row d) (omega (arith, length-map ds row))
        ∙ list-filled (map row ds ++ (row d ∷ [])) (ds ++ (d ∷ [])) (sym (map-append row ds (d ∷ [])))

-- a struct that is held, with an entry stored at a place, and with one stored at its end
module _ (m : DependencyMap) (h : Held m) (d : Dependent) where
  pub place_set : (i : ℕ) → i < m.count → ◌≡◌ {A = DependencyMap} (record { count = m.count; list = set m.list i (row d) }) (encode (set (decode m) i d))
  place_set i l =
      ap (λ (n : ℕ). record { count = n; list = set m.list i (row d) }) (sym (length-decode m))
      ∙ subst (λ (x : DependencyMap). ◌≡◌ {A = DependencyMap} (record { count = length (decode m); list = set x.list i (row d) }) (encode (set (decode m) i d))) h.coded
      (set-encode (decode m) i d (omega (arith, length-decode m)))

  pub place-more : m.count < 64 → ◌≡◌ {A = DependencyMap} (record { count = m.count + 1; list = set m.list m.count (row d) }) (encode (decode m ++ (d ∷ [])))
  place-more l =
      ap (λ (n : ℕ). record { count = n + 1; list = set m.list n (row d) }) (sym (length-decode m))
      ∙ subst (λ (x : DependencyMap). ◌≡◌ {A = DependencyMap} (record { count = length (decode m) + 1; list = set x.list (length (decode m)) (row d) }) (encode (decode m ++ (d ∷ [])))) h.coded
      (encode-more (decode m) d (omega (arith, length-decode m)))

-- the struct of an entry with one dependency more
pub row_more : (d : Dependent) (k : ℕ) → length d.dependencies < 16
    → ◌≡◌ {A = DependencyNode} (record { key = (row d).key; projected = (row d).projected; target = (row d).target; size = (row d).size + 1; dependencies = set (row d).dependencies (row d).size k })
    (row (record { key = d.key; target = d.target; dependencies = d.dependencies ++ (k ∷ []) }))
unfolding row
row_more d k l = λ t. record { key = d.key; projected = is_there d.target; target = number_or0 d.target; size = same t; dependencies = fill_more 0 16 d.dependencies k l t }
  where
    same : length d.dependencies + 1 ≡ length (d.dependencies ++ (k ∷ []))
    same = omega (arith, length-append d.dependencies (k ∷ []))
