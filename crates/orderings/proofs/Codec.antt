-- The struct of a list of orderings: what stands where, that nothing is lost, and what writing a place makes of the list.
use Prim.Native.Nat.{ℕ, zero, suc, ◌+◌, ◌-◌, ◌<◌, ◌≤◌}
use mathlib.Core.List.{List, [], ◌∷◌, ◌++◌, map}
use mathlib.Core.Path.{◌≡◌, refl, sym, ap, ◌∙◌, subst}
use native.Mathlib.Numerals.{add-one}
use native.Mathlib.Omega.{arith}
use lib.ListN.{length, get_or, take, set, replicate, length-append, length-replicate, length-set, length-map, get_or-map}
use lib.Seq.{length-take-le, take-suc, append_snoc, set_at, set-append_left}
use Rattle.laws.proofs.Table.{length-table, get_or-table, table_is}
use Rattle.orderings.specs.Lists.{ordering_at}
use Rattle.orderings.specs.Good.{GoodOrdering, Good}
use Rattle.orderings.specs.Layout.{row, keys_of, encode, decode}
use Rattle.orderings.specs.Inner.{HeldOrdering, Held}
use Rattle.orderings.specs.declared.Ordering.{Ordering}
use Rattle.orderings.specs.declared.Orderings.{Orderings}

module _ {A : Type 0} (d : A) where
  -- what fills a list up changes no place
  pub fill_after : (xs : List A) (n i : ℕ) → get_or (xs ++ replicate n d) i d ≡ get_or xs i d
  fill_after [] zero i = refl
  fill_after [] (suc n) zero = refl
  fill_after [] (suc n) (suc i) = fill_after [] n i
  fill_after (x ∷ xs) n zero = refl
  fill_after (x ∷ xs) n (suc i) = fill_after xs n i

module _ {A B : Type 0} (f : A → B) where
  map-set : (xs : List A) (i : ℕ) (x : A) → map f (set xs i x) ≡ set (map f xs) i (f x)
  map-set [] i x = refl
  map-set (y ∷ xs) zero x = refl
  map-set (y ∷ xs) (suc i) x = ap (λ (t : List B). f y ∷ t) (map-set xs i x)

-- what is read below the length does not hang on what is read past it
pub get_d_any : {A : Type 0} (xs : List A) (i : ℕ) (d e : A) → i < length xs → get_or xs i d ≡ get_or xs i e
get_d_any [] i d e l = absurd (omega arith)
get_d_any (x ∷ xs) zero d e l = refl
get_d_any (x ∷ xs) (suc i) d e l = get_d_any xs i d e (omega arith)

-- what the code reads at a place
abbrev pub no_place : Ordering
no_place = record { size = 0; keys = [] }

abbrev pub place_in : Orderings → ℕ → Ordering
place_in g i = get_or g.list i no_place

-- one ordering: nothing is lost
pub keys-row : (o : List ℕ) → keys_of (row o) ≡ o
unfolding keys_of row
keys-row o =
    sym (table_is (λ k. get_or (o ++ replicate (16 - length o) 0) k 0) (length o) o 0 refl (λ k l. sym (fill_after 0 o (16 - length o) k)))

-- an ordering that is good is held in its struct
pub row-held : (o : List ℕ) → GoodOrdering o → HeldOrdering (row o)
row-held o g = record { coded = ap row (keys-row o); good = subst GoodOrdering (sym (keys-row o)) g }

-- the keys of a struct
module _ (r : Ordering) where
  pub size_is : length (keys_of r) ≡ r.size
  unfolding keys_of
  size_is = length-table (λ k. get_or r.keys k 0) r.size

  pub key-is : (k : ℕ) → k < r.size → get_or (keys_of r) k 0 ≡ get_or r.keys k 0
  unfolding keys_of
  key-is k l = get_or-table (λ k. get_or r.keys k 0) r.size k 0 l

  pub size_few : HeldOrdering r → r.size ≤ 16
  size_few h = omega (arith, h.good.few, size_is)

-- the first k keys of an ordering, filled up
abbrev pub filled : List ℕ → ℕ → List ℕ
filled o k = take k o ++ replicate (16 - k) 0

-- one key more
pub filled_next : (r : Ordering) (k : ℕ) → HeldOrdering r → k < r.size → set (filled (keys_of r) k) k (get_or r.keys k 0) ≡ filled (keys_of r) (k + 1)
filled_next r k h l =
    let b = size_few r h in
    let e : 16 - k ≡ suc (16 - (k + 1)) = omega arith in
    let t = length-take-le k (keys_of r) (omega (arith, size_is r)) in
    let rest : List ℕ = replicate (16 - (k + 1)) 0 in
    rw (e, ← key-is r k l) (set_at (take k (keys_of r)) 0 rest (get_or (keys_of r) k 0) k t ∙ sym (append_snoc (take k (keys_of r)) (get_or (keys_of r) k 0) rest))
    ∙ ap (λ (x : List ℕ). x ++ rest) (sym (take-suc (keys_of r) k 0 (omega (arith, size_is r))) ∙ ap (λ (x : ℕ). take x (keys_of r)) (sym (add-one k)))

-- all of them
pub filled-all : (r : Ordering) (n : ℕ) → n ≤ r.size → ◌≡◌ {A = Ordering} (record { size = n; keys = filled (keys_of r) n }) (row (take n (keys_of r)))
unfolding row
filled-all r n l =
    let e = length-take-le n (keys_of r) (omega (arith, size_is r)) in
    rw e

-- a place of a list of orderings, also past its end
pub place-encode : (os : List (List ℕ)) (i : ℕ) → get_or (encode os).list i (row []) ≡ row (ordering_at os i)
unfolding encode
place-encode os i = fill_after (row []) (map row os) (32 - length os) i ∙ get_or-map row os i []

-- nothing is lost
pub decode-encode : (os : List (List ℕ)) → decode (encode os) ≡ os
unfolding decode encode
decode-encode os =
    sym (table_is (λ i. keys_of (get_or (encode os).list i (row []))) (length os) os [] refl
    (λ i l. sym (ap keys_of (place-encode os i) ∙ keys-row (ordering_at os i))))

-- a list that is good is held in its struct
pub good-held : (os : List (List ℕ)) → Good os → Held (encode os)
good-held os g = record { coded = ap encode (decode-encode os); good = subst Good (sym (decode-encode os)) g }

-- there are as many orderings as the struct says
pub length-decode : (g : Orderings) → length (decode g) ≡ g.count
unfolding decode
length-decode g = length-table (λ i. keys_of (get_or g.list i (row []))) g.count

length-list : (os : List (List ℕ)) → length os ≤ 32 → length (encode os).list ≡ 32
unfolding encode
length-list os l = omega (arith, length-append (map row os) (replicate (32 - length os) (row [])), length-map os row, length-replicate {A = Ordering} (32 - length os) (row []))

-- what stands in a struct that is held
module _ (g : Orderings) (h : Held g) where
  pub count-few : g.count ≤ 32
  count-few = omega (arith, h.good.few, length-decode g)

  pub places : length g.list ≡ 32
  places = subst (λ (x : Orderings). length x.list ≡ 32) h.coded (length-list (decode g) h.good.few)

  pub place_is : (i : ℕ) → i < g.count → place_in g i ≡ row (ordering_at (decode g) i)
  place_is i l =
      get_d_any g.list i no_place (row []) (omega (arith, count-few, places))
      ∙ subst (λ (x : Orderings). get_or x.list i (row []) ≡ row (ordering_at (decode g) i)) h.coded (place-encode (decode g) i)

  pub good-at : (i : ℕ) → i < g.count → GoodOrdering (ordering_at (decode g) i)
  good-at i l = h.good.each i (omega (arith, length-decode g))

  pub place-held : (i : ℕ) → i < g.count → HeldOrdering (place_in g i)
  place-held i l = subst HeldOrdering (sym (place_is i l)) (row-held (ordering_at (decode g) i) (good-at i l))

  -- the keys and their number at a place
  pub place-keys : (i : ℕ) → i < g.count → keys_of (place_in g i) ≡ ordering_at (decode g) i
  place-keys i l = ap keys_of (place_is i l) ∙ keys-row (ordering_at (decode g) i)

  pub place-size : (i : ℕ) → i < g.count → (place_in g i).size ≡ length (ordering_at (decode g) i)
  unfolding row
  place-size i l = ap (λ (r : Ordering). r.size) (place_is i l)

-- an ordering is put at a place
pub set-encode : (os : List (List ℕ)) (i : ℕ) (o : List ℕ) → i < length os → set (encode os).list i (row o) ≡ (encode (set os i o)).list
unfolding encode
set-encode os i o l =
    set-append_left (map row os) (replicate (32 - length os) (row [])) i (row o) (omega (arith, length-map os row))
    ∙ rw (map-set row os i o, length-set os i o)

-- an ordering is put at a place of a struct that is held
pub place_set : (g : Orderings) → Held g → (i : ℕ) (o : List ℕ) → i < g.count → ◌≡◌ {A = Orderings} (record { count = g.count; list = set g.list i (row o) }) (encode (set (decode g) i o))
unfolding encode
place_set g h i o l = λ t. record { count = same t; list = (ap (λ (x : Orderings). set x.list i (row o)) (sym h.coded) ∙ set-encode (decode g) i o (omega (arith, length-decode g))) t }
  where
    same : g.count ≡ length (set (decode g) i o)
    same = omega (arith, length-decode g, length-set (decode g) i o)
