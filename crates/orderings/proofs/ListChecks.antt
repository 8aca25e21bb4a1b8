-- Laws for the check of a lent list: what the struct's type says of its arrays, the tests by their places, and the bounds that the check gives.
use Prim.Native.Nat.{ℕ, zero, suc, ◌+◌, ◌-◌, ◌<◌, ◌≤◌}
use mathlib.Core.Bool.{Bool, true, false, ◌&&◌}
use mathlib.Core.List.{List, [], ◌∷◌}
use mathlib.Core.Path.{◌≡◌, refl}
use native.Mathlib.Omega.{arith}
use borrow.Author.Tests.{leb-true}
use denote.Array.{each as owned}
use denote.Laws.{Is}
use denote.Shadow.{shadow}
use mir.Val.{Val}
use lib.Dec.{ltb, leb}
use lib.ListN.{length, get_or}
use Rattle.laws.specs.Tests.{each}
use Rattle.laws.proofs.Booleans.{true_not_false, and_left, and_right}
use Rattle.laws.proofs.Each.{each_holds}
use Rattle.orderings.specs.Ordering.{expr_of}
use Rattle.orderings.specs.Layout.{row, place_in, fresh_key, rest_unused, lawful_ordering, unused_ordering, lawful_list}
use Rattle.orderings.specs.declared.Ordering.{Ordering}
use Rattle.orderings.specs.declared.Orderings.{Orderings}
use Rattle.orderings.proofs.Codec.{get_d_any, no_place}
use Rattle.orderings.specs.contracts.Ordering.{the_row as the_row'}
use Rattle.orderings.specs.contracts.Orderings.{the_row}

-- the arrays have their lengths
pub record Sized (g : Orderings) : Type 0 where
  pub places : length g.list ≡ 32
  pub keys : (i : ℕ) → i < 32 → length (place_in g i).keys ≡ 16

keys-sized : (rs : List Ordering) (us : List Val) → shadow (owned Ordering the_row'.own_val rs us) → (i : ℕ) → i < length rs
    → length (get_or rs i (row [])).keys ≡ 16
keys-sized [] us p i l = absurd (omega arith)
keys-sized (r ∷ rs) [] p i l = absurd p
keys-sized (r ∷ rs) (u ∷ us) p zero l = p.0.1.1.1.0.1.0.1
keys-sized (r ∷ rs) (u ∷ us) p (suc i) l = keys-sized rs us p.1 i (omega arith)

-- the struct's type says so
pub sized : (g : Orderings) (vs : List Val) → Is the_row g vs → Sized g
sized g vs p =
    let list = p.1.1.1.0 in
    let n : length g.list ≡ 32 = list.1.0.1 in
    record { places = n; keys = λ i l. keys-sized g.list list.0 list.1.1 i (omega arith) }

-- the tests of a place for keys
abbrev pub Fresh : Ordering → ℕ → Bool
Fresh r k = fresh_key r.keys k

abbrev pub Below : Ordering → ℕ → ℕ → Bool
Below r n k = ltb (expr_of (get_or r.keys k 0)) n

-- the expressions of an ordering are below n
abbrev pub Inside : ℕ → Ordering → Bool
Inside n r = each (Below r n) r.size

-- the tests of a place for orderings
abbrev pub LawfulAt : Orderings → ℕ → Bool
LawfulAt g i = lawful_ordering (place_in g i)

abbrev pub UnusedAt : Orderings → ℕ → Bool
UnusedAt g i = unused_ordering (place_in g (g.count + i))

abbrev pub InsideAt : ℕ → Orderings → ℕ → Bool
InsideAt n g i = Inside n (place_in g i)

-- what the code reads at a place is what stands there
pub read_is : (g : Orderings) → Sized g → (i : ℕ) → i < 32 → get_or g.list i no_place ≡ place_in g i
read_is g z i l = get_d_any g.list i no_place (row []) (omega (arith, z.places))

-- the parts of three and of four tests
pub three : (a b c : Bool) → (a && b && c) ≡ true → (a ≡ true) × (b ≡ true) × (c ≡ true)
three true b c e = (refl, and_left b c e, and_right b c e)
three false b c e = absurd (true_not_false e refl)

pub four : (a b c d : Bool) → (a && b && c && d) ≡ true → (a ≡ true) × (b ≡ true) × (c ≡ true) × (d ≡ true)
four true b c d e = let t = three b c d e in (refl, t.0, t.1, t.2)
four false b c d e = absurd (true_not_false e refl)

-- an ordering that passes has at most 16 keys
pub ordering-size : (r : Ordering) → lawful_ordering r ≡ true → r.size ≤ 16
unfolding lawful_ordering
ordering-size r e = leb-true r.size 16 (four (ltb 0 r.size) (leb r.size 16) (each (Fresh r) r.size) (rest_unused r) e).1

-- the tests that a list passes: at most 32 orderings, each of at most 16 keys
module _ (g : Orderings) (e : lawful_list g ≡ true) where
  pub tests : (leb g.count 32 ≡ true) × (each (LawfulAt g) g.count ≡ true) × (each (UnusedAt g) (32 - g.count) ≡ true)
  unfolding lawful_list
  tests = three (leb g.count 32) (each (LawfulAt g) g.count) (each (UnusedAt g) (32 - g.count)) e

  pub lawful-count : g.count ≤ 32
  lawful-count = leb-true g.count 32 tests.0

  pub lawful-size : (i : ℕ) → i < g.count → (place_in g i).size ≤ 16
  lawful-size i l = ordering-size (place_in g i) (each_holds (LawfulAt g) g.count i tests.1 l)
