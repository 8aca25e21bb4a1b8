-- The check of a lent list: what passes it is the layout of a good list whose expressions are known, and the layout of such a list passes it.
use Rattle.std.specs.Prelude.{if◌then◌else◌}
use Prim.Native.Nat.{ℕ, ◌+◌, ◌-◌, ◌<◌, ◌≤◌}
use mathlib.Core.Bool.{Bool, true, false, not, ◌&&◌}
use mathlib.Core.List.{List, [], ◌++◌, map}
use mathlib.Core.Path.{◌≡◌, refl, sym, ap, ◌∙◌, subst}
use native.Mathlib.Decide.{dec_lt}
use native.Mathlib.Omega.{arith}
use borrow.Author.Tests.{eqb-true, eq-eqb, ne_eqb, ltb-true, lt-ltb, leb-true, le-leb, not-true}
use lib.Dec.{eqb, ltb, leb}
use lib.ListN.{length, get_or, replicate, length-append, length-replicate, length-map, get_or-eq_default, get_or-map}
use lib.Seq.{ext_get_or}
use Rattle.laws.specs.Lists.{table}
use Rattle.laws.specs.Tests.{each}
use Rattle.laws.proofs.Booleans.{true_not_false, and_left, and_right, and_both}
use Rattle.laws.proofs.Each.{each_all, each_holds}
use Rattle.laws.proofs.Table.{get_or-table}
use Rattle.arena.specs.Layout.{count, lawful}
use Rattle.orderings.specs.Ordering.{expr_of}
use Rattle.orderings.specs.Lists.{ordering_at}
use Rattle.orderings.specs.Good.{GoodOrdering, Good}
use Rattle.orderings.specs.Layout.{row, keys_of, encode, decode, place_in, fresh_key, rest_unused, lawful_ordering, unused_ordering, lawful_list, keys_inside}
use Rattle.orderings.specs.Calls.{list_number, two_number}
use Rattle.orderings.specs.Inner.{HeldOrdering, Held}
use Rattle.orderings.specs.declared.Ordering.{Ordering}
use Rattle.orderings.specs.declared.Orderings.{Orderings}
use Rattle.orderings.proofs.Codec.{fill_after, size_is, key-is, place-encode, length-decode}
use Rattle.orderings.proofs.ListChecks.{Sized, Fresh, Below, Inside, LawfulAt, UnusedAt, InsideAt, three, four, tests, lawful-count}

-- every key's expression is one of the first n
abbrev pub Known : ℕ → List (List ℕ) → Type 0
Known n os = (i k : ℕ) → i < length os → k < length (ordering_at os i) → expr_of (get_or (ordering_at os i) k 0) < n

-- n places with a list's elements and nothing after them are the list filled up
fill_is : {A : Type 0} (d : A) (n : ℕ) (xs ys : List A) → length xs ≤ n → length ys ≡ n → ((i : ℕ) → i < n → get_or xs i d ≡ get_or ys i d) → xs ++ replicate (n - length xs) d ≡ ys
fill_is d n xs ys l e h = ext_get_or d (xs ++ replicate (n - length xs) d) ys (whole ∙ sym e) (λ i b. fill_after d xs (n - length xs) i ∙ h i (omega (arith, whole)))
  where
    whole : length (xs ++ replicate (n - length xs) d) ≡ n
    whole = omega (arith, length-append xs (replicate (n - length xs) d), length-replicate (n - length xs) d)

-- the tests of a place for keys, in words
module _ (r : Ordering) where
  fresh-of : (k : ℕ) → Fresh r k ≡ true → (i : ℕ) → i < k → expr_of (get_or r.keys i 0) ≡ expr_of (get_or r.keys k 0) → ⊥
  unfolding fresh_key
  fresh-of k h i l q =
      true_not_false (eq-eqb (expr_of (get_or r.keys i 0)) (expr_of (get_or r.keys k 0)) q)
      (not-true (eqb (expr_of (get_or r.keys i 0)) (expr_of (get_or r.keys k 0)))
      (each_holds (λ (i : ℕ). not (eqb (expr_of (get_or r.keys i 0)) (expr_of (get_or r.keys k 0)))) k i h l))

  of-fresh : (k : ℕ) → ((i : ℕ) → i < k → expr_of (get_or r.keys i 0) ≡ expr_of (get_or r.keys k 0) → ⊥) → Fresh r k ≡ true
  unfolding fresh_key
  of-fresh k h =
      each_all (λ (i : ℕ). not (eqb (expr_of (get_or r.keys i 0)) (expr_of (get_or r.keys k 0)))) k
      (λ i l. rw (ne_eqb (expr_of (get_or r.keys i 0)) (expr_of (get_or r.keys k 0)) (h i l)))

  unused-of : rest_unused r ≡ true → (k : ℕ) → r.size ≤ k → k < 16 → get_or r.keys k 0 ≡ 0
  unfolding rest_unused
  unused-of h k a b =
      let e : r.size + (k - r.size) ≡ k = omega arith in
      rw e at (eqb-true (get_or r.keys (r.size + (k - r.size)) 0) 0
      (each_holds (λ (i : ℕ). eqb (get_or r.keys (r.size + i) 0) 0) (16 - r.size) (k - r.size) h (omega arith)))

  of-unused : ((k : ℕ) → r.size ≤ k → k < 16 → get_or r.keys k 0 ≡ 0) → rest_unused r ≡ true
  unfolding rest_unused
  of-unused u =
      each_all (λ (i : ℕ). eqb (get_or r.keys (r.size + i) 0) 0) (16 - r.size)
      (λ i l. eq-eqb (get_or r.keys (r.size + i) 0) 0 (u (r.size + i) (omega arith) (omega arith)))

-- an ordering that passes
module _ (r : Ordering) (n : length r.keys ≡ 16) where
  -- a struct of 16 places with nothing after its keys is the layout of its keys
  row_back : r.size ≤ 16 → rest_unused r ≡ true → row (keys_of r) ≡ r
  unfolding row
  row_back l u = λ t. record { size = size_is r t; keys = filled t }
    where
      at : (k : ℕ) → k < 16 → Dec (k < r.size) → get_or (keys_of r) k 0 ≡ get_or r.keys k 0
      at k b (yes p) = key-is r k p
      at k b (no p) = get_or-eq_default (keys_of r) 0 (omega (arith, size_is r)) ∙ sym (unused-of r u k (omega arith) b)

      filled : keys_of r ++ replicate (16 - length (keys_of r)) 0 ≡ r.keys
      filled = fill_is 0 16 (keys_of r) r.keys (omega (arith, size_is r)) n (λ k b. at k b (dec_lt k r.size))

  -- it is the layout of a good ordering
  ordering-held : lawful_ordering r ≡ true → HeldOrdering r
  unfolding lawful_ordering
  ordering-held e =
      let p = four (ltb 0 r.size) (leb r.size 16) (each (Fresh r) r.size) (rest_unused r) e in
      let few : r.size ≤ 16 = leb-true r.size 16 p.1 in
      let some : 0 < r.size = ltb-true 0 r.size p.0 in
      record {
        coded = row_back few p.3;
        good = record {
          filled = omega (arith, size_is r);
          few = omega (arith, size_is r);
          distinct = λ i j a b q. let l : j < r.size = omega (arith, size_is r) in
              fresh-of r j (each_holds (Fresh r) r.size j p.2 l) i a
              (ap expr_of (sym (key-is r i (omega arith))) ∙ q ∙ ap expr_of (key-is r j l));
        };
      }

  no_keys : r.size ≡ 0 → keys_of r ≡ []
  unfolding keys_of table
  no_keys e = ap (λ (k : ℕ). table (λ k. get_or r.keys k 0) k) e

  -- an unused place is the layout of an empty one
  place-empty : unused_ordering r ≡ true → r ≡ row []
  unfolding unused_ordering
  place-empty e =
      let z : r.size ≡ 0 = eqb-true r.size 0 (and_left (eqb r.size 0) (rest_unused r) e) in
      sym (row_back (omega arith) (and_right (eqb r.size 0) (rest_unused r) e)) ∙ ap row (no_keys z)

-- an ordering of a struct
place-decode : (g : Orderings) (i : ℕ) → i < g.count → ordering_at (decode g) i ≡ keys_of (place_in g i)
unfolding decode
place-decode g i l = get_or-table (λ i. keys_of (place_in g i)) g.count i [] l

-- a list that passes
module _ (g : Orderings) (z : Sized g) (e : lawful_list g ≡ true) where
  place-held : (i : ℕ) → i < g.count → HeldOrdering (place_in g i)
  place-held i l = ordering-held (place_in g i) (z.keys i (omega (arith, lawful-count g e))) (each_holds (LawfulAt g) g.count i (tests g e).1 l)

  place-unused : (i : ℕ) → g.count ≤ i → i < 32 → place_in g i ≡ row []
  place-unused i a b =
      let s : g.count + (i - g.count) ≡ i = omega arith in
      place-empty (place_in g i) (z.keys i b)
      (subst (λ (k : ℕ). unused_ordering (place_in g k) ≡ true) s (each_holds (UnusedAt g) (32 - g.count) (i - g.count) (tests g e).2 (omega arith)))

  list-is : map row (decode g) ++ replicate (32 - length (decode g)) (row []) ≡ g.list
  list-is =
      ap (λ (n : ℕ). map row (decode g) ++ replicate (32 - n) (row [])) (sym (length-map (decode g) row))
      ∙ fill_is (row []) 32 (map row (decode g)) g.list (omega (arith, length-map (decode g) row, length-decode g, lawful-count g e)) z.places
      (λ i b. get_or-map row (decode g) i [] ∙ at i b (dec_lt i g.count))
    where
      at : (i : ℕ) → i < 32 → Dec (i < g.count) → row (ordering_at (decode g) i) ≡ place_in g i
      at i b (yes l) = ap row (place-decode g i l) ∙ (place-held i l).coded
      at i b (no l) = ap row (get_or-eq_default (decode g) [] (omega (arith, length-decode g))) ∙ sym (place-unused i (omega arith) b)

  list-coded : encode (decode g) ≡ g
  unfolding encode
  list-coded = λ t. record { count = length-decode g t; list = list-is t }

  -- it is the layout of a good list
  list_held : Held g
  list_held = record {
    coded = list-coded;
    good = record {
      few = omega (arith, length-decode g, lawful-count g e);
      each = λ i l. let b : i < g.count = omega (arith, length-decode g) in
          subst GoodOrdering (sym (place-decode g i b)) (place-held i b).good;
    };
  }

-- and its expressions are known
keys-known : (g : Orderings) (n : ℕ) → keys_inside n g ≡ true → Known n (decode g)
unfolding keys_inside
keys-known g n h i k a b =
    let l : i < g.count = omega (arith, length-decode g) in
    let r = place_in g i in
    let e = place-decode g i l in
    let s : k < r.size = (let m : k < length (keys_of r) = rw e at b in omega (arith, size_is r)) in
    let t : expr_of (get_or r.keys k 0) < n = ltb-true (expr_of (get_or r.keys k 0)) n (each_holds (Below r n) r.size k (each_holds (InsideAt n g) g.count i h l) s) in
    subst (λ (x : ℕ). expr_of x < n) (sym (ap (λ (o : List ℕ). get_or o k 0) e ∙ key-is r k s)) t

-- the layout of a good ordering passes
module _ (o : List ℕ) (g : GoodOrdering o) where
  row-key : (k : ℕ) → get_or (row o).keys k 0 ≡ get_or o k 0
  unfolding row
  row-key k = fill_after 0 o (16 - length o) k

  row_lawful : lawful_ordering (row o) ≡ true
  unfolding lawful_ordering row
  row_lawful =
      and_both (and_both (and_both (lt-ltb 0 (length o) g.filled) (le-leb (length o) 16 g.few))
      (each_all (Fresh (row o)) (length o)
      (λ k l. of-fresh (row o) k (λ i b q. g.distinct i k b l (ap expr_of (sym (row-key i)) ∙ q ∙ ap expr_of (row-key k))))))
      (of-unused (row o) (λ k a b. row-key k ∙ get_or-eq_default o 0 a))

-- an empty place is unused
row-unused : unused_ordering (row []) ≡ true
unfolding unused_ordering row
row-unused = and_both (eq-eqb 0 0 refl) (of-unused (row []) (λ k a b. fill_after 0 [] 16 k))

-- the layout of a good list passes
module _ (os : List (List ℕ)) where
  list_lawful : Good os → lawful_list (encode os) ≡ true
  unfolding lawful_list encode
  list_lawful g =
      and_both (and_both (le-leb (length os) 32 g.few)
      (each_all (LawfulAt (encode os)) (length os) (λ i l. subst (λ (r : Ordering). lawful_ordering r ≡ true) (sym (place-encode os i)) (row_lawful (ordering_at os i) (g.each i l)))))
      (each_all (UnusedAt (encode os)) (32 - length os)
      (λ i l. subst (λ (r : Ordering). unused_ordering r ≡ true) (sym (place-encode os (length os + i) ∙ ap row (get_or-eq_default os [] (omega arith)))) row-unused))

  row_inside : (n : ℕ) → Known n os → (i : ℕ) → i < length os → Inside n (row (ordering_at os i)) ≡ true
  unfolding row
  row_inside n h i l =
      let o = ordering_at os i in
      each_all (Below (row o) n) (length o)
      (λ k b. lt-ltb (expr_of (get_or (row o).keys k 0)) n (subst (λ (x : ℕ). expr_of x < n) (sym (fill_after 0 o (16 - length o) k)) (h i k l b)))

  list_inside : (n : ℕ) → Known n os → keys_inside n (encode os) ≡ true
  unfolding keys_inside encode
  list_inside n h =
      each_all (InsideAt n (encode os)) (length os) (λ i l. subst (λ (r : Ordering). Inside n r ≡ true) (sym (place-encode os i)) (row_inside n h i l))

-- what a list that passes the check is
pub record Lent (cells : List ℕ) (g : Orderings) : Type 0 where
  pub held : Held g
  pub known : Known (count cells) (decode g)

-- the tests, from the answer
passed : (a b : Bool) → ◌≡◌ {A = ℕ} (if a then (if b then 0 else 1) else 11) 0 → (a ≡ true) × (b ≡ true)
passed true true e = (refl, refl)
passed true false e = absurd (omega arith)
passed false b e = absurd (omega arith)

-- a list that passes lies beside an arena that does
pub number-lawful : (cells : List ℕ) (g : Orderings) → list_number cells g ≡ 0 → lawful cells ≡ true
unfolding list_number
number-lawful cells g e = and_left (lawful cells) (lawful_list g) (passed (lawful cells && lawful_list g) (keys_inside (count cells) g) e).0

module _ (cells : List ℕ) (g : Orderings) (z : Sized g) where
  lent : lawful_list g ≡ true → keys_inside (count cells) g ≡ true → Lent cells g
  lent l k = record { held = list_held g z l; known = keys-known g (count cells) k }

  -- a list that passes is the layout of a good list whose expressions are known
  pub number-held : list_number cells g ≡ 0 → Lent cells g
  unfolding list_number
  number-held e =
      let p = passed (lawful cells && lawful_list g) (keys_inside (count cells) g) e in
      lent (and_right (lawful cells) (lawful_list g) p.0) p.1

-- two lists that pass, likewise
module _ (cells : List ℕ) (g h : Orderings) where
  pub two-tests : two_number cells g h ≡ 0 → ((lawful cells && lawful_list g && lawful_list h) ≡ true) × ((keys_inside (count cells) g && keys_inside (count cells) h) ≡ true)
  unfolding two_number
  two-tests e = passed (lawful cells && lawful_list g && lawful_list h) (keys_inside (count cells) g && keys_inside (count cells) h) e

  pub two-lawful : two_number cells g h ≡ 0 → lawful cells ≡ true
  two-lawful e = (three (lawful cells) (lawful_list g) (lawful_list h) (two-tests e).0).0

  pub two-held : Sized g → Sized h → two_number cells g h ≡ 0 → Lent cells g × Lent cells h
  two-held y z e =
      let p = two-tests e in
      let l = three (lawful cells) (lawful_list g) (lawful_list h) p.0 in
      let k = keys_inside (count cells) g in
      let m = keys_inside (count cells) h in
      (lent cells g y l.1 (and_left k m p.1), lent cells h z l.2 (and_right k m p.1))

-- the layout of a good list whose expressions are known passes
pub held_number : (cells : List ℕ) → lawful cells ≡ true → (os : List (List ℕ)) → Good os → Known (count cells) os → list_number cells (encode os) ≡ 0
unfolding list_number
held_number cells w os g k = rw (w, list_lawful os g, list_inside os (count cells) k)

-- two of them, likewise
pub held_two : (cells : List ℕ) → lawful cells ≡ true → (os ps : List (List ℕ)) → Good os → Known (count cells) os → Good ps → Known (count cells) ps → two_number cells (encode os) (encode ps) ≡ 0
unfolding two_number
held_two cells w os ps g k h m = rw (w, list_lawful os g, list_lawful ps h, list_inside os (count cells) k, list_inside ps (count cells) m)
