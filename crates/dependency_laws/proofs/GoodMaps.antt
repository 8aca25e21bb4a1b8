-- Maps that pass the check, without their struct: what the check says of the entries, and that entries of which this holds lie in a struct that passes.
use Rattle.std.specs.Prelude.{if◌then◌else◌, Option, None, Some}
use Prim.Native.Nat.{ℕ, ◌+◌, ◌-◌, ◌<◌, ◌≤◌}
use mathlib.Core.Bool.{Bool, true, false, not, ◌&&◌, ◌||◌}
use mathlib.Core.List.{List, ◌++◌}
use mathlib.Core.Path.{◌≡◌, refl, sym, ap, ◌∙◌, subst}
use native.Mathlib.Omega.{arith}
use borrow.Author.Tests.{le-leb, ltb-true, lt-ltb, eq-eqb, ne_eqb, not-true}
use lib.Dec.{eqb, ltb, leb}
use lib.ListN.{length, get_or, replicate, get_or-eq_default}
use Rattle.laws.specs.Lists.{table}
use Rattle.laws.specs.Tests.{each}
use Rattle.laws.proofs.Booleans.{true_not_false, and_both}
use Rattle.laws.proofs.Each.{each_all, each_holds}
use Rattle.laws.proofs.Table.{get_or-table}
use Rattle.arena.specs.Layout.{count, lawful}
use Rattle.classes.specs.Layout.{fresh}
use Rattle.orderings.specs.Ordering.{expr_of}
use Rattle.orderings.proofs.Codec.{fill_after}
use Rattle.orderings.proofs.ListChecks.{three, four}
use Rattle.dependencies.specs.Map.{Dependent, entry_at}
use Rattle.dependencies.specs.Layout.{is_there, number_or0, row, entry_of, encode, place_in, decode, rest_unused, lawful_entry, unused_entry, fresh_key, lawful_map, entry_inside, keys_inside}
use Rattle.dependencies.specs.Calls.{map_number}
use Rattle.dependencies.specs.declared.DependencyNode.{DependencyNode}
use Rattle.dependencies.specs.declared.DependencyMap.{DependencyMap}
use Rattle.dependencies.proofs.MapChecks.{Fresh, Below, LawfulAt, FreshAt, UnusedAt, InsideAt, entry-size, lawful-few, lawful-entries, number-lawful}
use Rattle.dependencies.proofs.MapCodec.{place-encode, length-decode, place-decode, size_is}
use Rattle.dependency_laws.proofs.Inserts.{nothing}

-- an entry: at most 16 dependencies, none twice, all its expressions among the first n
pub record GoodEntry (n : ℕ) (x : Dependent) : Type 0 where
  pub short : length x.dependencies ≤ 16
  pub apart : (i k : ℕ) → i < k → k < length x.dependencies → get_or x.dependencies i 0 ≡ get_or x.dependencies k 0 → ⊥
  pub key_below : expr_of x.key < n
  pub target_below : expr_of (number_or0 x.target) < n
  pub dependencies-below : (k : ℕ) → k < length x.dependencies → expr_of (get_or x.dependencies k 0) < n

-- a map: at most 64 keys, none twice, each entry good
pub record GoodMap (n : ℕ) (ds : List Dependent) : Type 0 where
  pub few : length ds ≤ 64
  pub entries : (i : ℕ) → i < length ds → GoodEntry n (entry_at ds i)
  pub apart : (i k : ℕ) → i < k → k < length ds → (entry_at ds i).key ≡ (entry_at ds k).key → ⊥

-- the test that a number stands nowhere before its place
module _ (f : ℕ → ℕ) (k : ℕ) where
  abbrev Differs : ℕ → Bool
  Differs i = not (eqb (f i) (f k))

  apart_of : each Differs k ≡ true → (i : ℕ) → i < k → f i ≡ f k → ⊥
  apart_of h i l q = true_not_false (eq-eqb (f i) (f k) q) (not-true (eqb (f i) (f k)) (each_holds Differs k i h l))

  of-apart : ((i : ℕ) → i < k → f i ≡ f k → ⊥) → each Differs k ≡ true
  of-apart h = each_all Differs k (λ i l. ap not (ne_eqb (f i) (f k) (h i l)))

-- ---- from the struct

-- the number of a target that is told, or 0
told_below : (n : ℕ) (b : Bool) (t : ℕ) → expr_of t < n → expr_of (number_or0 (if b then Some t else None)) < n
unfolding expr_of number_or0
told_below n true t l = l
told_below n false t l = omega arith

-- an entry that passes is good
row-good : (n : ℕ) (r : DependencyNode) → lawful_entry r ≡ true → entry_inside n r ≡ true → GoodEntry n (entry_of r)
unfolding lawful_entry entry_inside entry_of fresh
row-good n r e f =
    let p = four (leb r.size 16) (each (Fresh r) r.size) (r.projected || eqb r.target 0) (rest_unused r) e in
    let q = three (ltb (expr_of r.key) n) (ltb (expr_of r.target) n) (each (Below r n) r.size) f in
    let z = size_is r in
    record {
      short = omega (arith, entry-size r e);
      apart = λ i k l b s.
          apart_of (λ j. get_or r.dependencies j 0) k (each_holds (Fresh r) r.size k p.1 (omega arith)) i l
          (sym (read i (omega arith)) ∙ s ∙ read k (omega arith));
      key_below = ltb-true (expr_of r.key) n q.0;
      target_below = told_below n r.projected r.target (ltb-true (expr_of r.target) n q.1);
      dependencies-below = λ k b.
          let l : k < r.size = omega arith in
          subst (λ (x : ℕ). expr_of x < n) (sym (read k l)) (ltb-true (expr_of (get_or r.dependencies k 0)) n (each_holds (Below r n) r.size k q.2 l));
    }
  where
    read : (k : ℕ) → k < r.size → get_or (table (λ k. get_or r.dependencies k 0) r.size) k 0 ≡ get_or r.dependencies k 0
    read k l = get_or-table (λ k. get_or r.dependencies k 0) r.size k 0 l

-- the second test of a number that is 0
second : (a b : Bool) → ◌≡◌ {A = ℕ} (if a then (if b then 0 else 1) else 11) 0 → b ≡ true
second true true e = refl
second true false e = absurd (omega arith)
second false b e = absurd (omega arith)

-- a map that passes is good
module _ (cells : List ℕ) (m : DependencyMap) (e : map_number cells m ≡ 0) where
  inside : keys_inside (count cells) m ≡ true
  unfolding map_number
  inside = second (lawful cells && lawful_map m) (keys_inside (count cells) m) e

  inside-at : (i : ℕ) → i < m.count → entry_inside (count cells) (place_in m i) ≡ true
  unfolding keys_inside
  inside-at i l = each_holds (InsideAt (count cells) m) m.count i inside l

  keys-apart : (i k : ℕ) → i < k → k < m.count → (place_in m i).key ≡ (place_in m k).key → ⊥
  unfolding lawful_map fresh_key
  keys-apart i k l b =
      apart_of (λ j. (place_in m j).key) k
      (each_holds (FreshAt m) m.count k (four (leb m.count 64) (each (LawfulAt m) m.count) (each (FreshAt m) m.count) (each (UnusedAt m) (64 - m.count)) (number-lawful cells m e)).2 b) i l

  key-decode : (i : ℕ) → i < m.count → (entry_at (decode m) i).key ≡ (place_in m i).key
  unfolding entry_of
  key-decode i l = ap (λ (x : Dependent). x.key) (place-decode m i l)

  pub number-good : GoodMap (count cells) (decode m)
  number-good =
      let z = length-decode m in
      let w = number-lawful cells m e in
      record {
        few = omega (arith, lawful-few m w);
        entries = λ i b.
            let l : i < m.count = omega arith in
            subst (λ (x : Dependent). GoodEntry (count cells) x) (sym (place-decode m i l)) (row-good (count cells) (place_in m i) (lawful-entries m w i l) (inside-at i l));
        apart = λ i k l b q.
            let c : k < m.count = omega arith in
            keys-apart i k l c (sym (key-decode i (omega arith)) ∙ q ∙ key-decode k c);
      }

-- ---- to the struct

-- a target number stands only where there is a target
target_told : (o : Option ℕ) → (is_there o || eqb (number_or0 o) 0) ≡ true
unfolding is_there number_or0
target_told None = refl
target_told (Some t) = refl

module _ (n : ℕ) (x : Dependent) (g : GoodEntry n x) where
  abbrev ks : List ℕ
  ks = x.dependencies

  abbrev filled : List ℕ
  filled = ks ++ replicate (16 - length ks) 0

  read-filled : (k : ℕ) → get_or filled k 0 ≡ get_or ks k 0
  read-filled k = fill_after 0 ks (16 - length ks) k

  good-lawful : lawful_entry (row x) ≡ true
  unfolding lawful_entry row rest_unused fresh
  good-lawful =
      and_both (and_both (and_both (le-leb (length ks) 16 g.short) (each_all (λ k. fresh filled k) (length ks) (λ k b. of-apart (λ j. get_or filled j 0) k (λ i l q. g.apart i k l b (sym (read-filled i) ∙ q ∙ read-filled k)))))
      (target_told x.target))
      (each_all (λ k. eqb (get_or filled (length ks + k) 0) 0) (16 - length ks)
      (λ k b. eq-eqb (get_or filled (length ks + k) 0) 0 (read-filled (length ks + k) ∙ get_or-eq_default ks 0 (omega arith))))

  good-inside : entry_inside n (row x) ≡ true
  unfolding entry_inside row
  good-inside =
      and_both (and_both (lt-ltb (expr_of x.key) n g.key_below) (lt-ltb (expr_of (number_or0 x.target)) n g.target_below))
      (each_all (λ k. ltb (expr_of (get_or filled k 0)) n) (length ks)
      (λ k b. lt-ltb (expr_of (get_or filled k 0)) n (subst (λ (y : ℕ). expr_of y < n) (sym (read-filled k)) (g.dependencies-below k b))))

-- an unused place
nothing-unused : unused_entry (row nothing) ≡ true
unfolding unused_entry row rest_unused is_there number_or0 each
nothing-unused = refl

module _ (n : ℕ) (ds : List Dependent) (g : GoodMap n ds) where
  key-encode : (i : ℕ) → (place_in (encode ds) i).key ≡ (entry_at ds i).key
  unfolding row
  key-encode i = ap (λ (r : DependencyNode). r.key) (place-encode ds i)

  map-lawful : lawful_map (encode ds) ≡ true
  unfolding lawful_map encode fresh_key
  map-lawful =
      and_both (and_both (and_both (le-leb (length ds) 64 g.few)
      (each_all (LawfulAt (encode ds)) (length ds) (λ i l. ap lawful_entry (place-encode ds i) ∙ good-lawful n (entry_at ds i) (g.entries i l))))
      (each_all (FreshAt (encode ds)) (length ds) (λ k b. of-apart (λ j. (place_in (encode ds) j).key) k (λ i l q. g.apart i k l b (sym (key-encode i) ∙ q ∙ key-encode k)))))
      (each_all (UnusedAt (encode ds)) (64 - length ds)
      (λ i l. ap unused_entry (place-encode ds (length ds + i) ∙ ap row (get_or-eq_default ds nothing (omega arith))) ∙ nothing-unused))

  map-inside : keys_inside n (encode ds) ≡ true
  unfolding keys_inside encode
  map-inside = each_all (InsideAt n (encode ds)) (length ds) (λ i l. ap (entry_inside n) (place-encode ds i) ∙ good-inside n (entry_at ds i) (g.entries i l))

-- a good map passes
pub good-number : (cells : List ℕ) (ds : List Dependent) → lawful cells ≡ true → GoodMap (count cells) ds → map_number cells (encode ds) ≡ 0
unfolding map_number
good-number cells ds w g = rw (w, map-lawful (count cells) ds g, map-inside (count cells) ds g)
