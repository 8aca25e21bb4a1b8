-- Keys that are nodes in the cells, and the tests whether they can move, by a table of the nodes, as the code does them.
use Prim.Native.Nat.{ℕ, ◌<◌, ◌≤◌}
use mathlib.Core.Bool.{Bool, false}
use mathlib.Core.List.{List, [], ◌∷◌}
use Rattle.std.specs.List.{list_all}
use Rattle.laws.specs.Lists.{table}
use Rattle.laws.proofs.Table.{table_is}
use mathlib.Core.Path.{◌≡◌, refl, sym, subst}
use native.Mathlib.Omega.{arith}
use lib.ListN.{length, get_or}
use Rattle.arena.specs.Arena.{Extends}
use Rattle.arena.specs.Layout.{count, decode as nodes}
use Rattle.arena.specs.Inner.{Holds}
use Rattle.arena.proofs.Nodes.{extends-longer}
use Rattle.arena.proofs.Layouts.{length-decode as nodes-count}
use Rattle.orderings.specs.Ordering.{expr_of}
use Rattle.orderings.specs.Lists.{ordering_at}
use Rattle.orderings.specs.Layout.{keys_of, decode}
use Rattle.orderings.specs.Inner.{Held}
use Rattle.ordering_joins.specs.Inner.{KeysThere, ListThere, LowKeys, LowList, keys_tabled, lists_tabled}
use Rattle.orderings.specs.declared.Ordering.{Ordering}
use Rattle.orderings.specs.declared.Orderings.{Orderings}
use Rattle.orderings.proofs.Codec.{size_is, key-is, size_few, length-decode, place_in, place-held, place-keys}
use Rattle.ordering_joins.proofs.Offsets.{Inside}

-- a key of an ordering
module _ (s : List ℕ) (o : Ordering) (h : KeysThere s o) where
  pub few-keys : o.size ≤ 16
  few-keys = size_few o h.held

  module _ (k : ℕ) (l : k < o.size) where
    pub key-place : k < length (keys_of o)
    key-place = omega (arith, size_is o)

    -- is an old node
    pub key-there : expr_of (get_or o.keys k 0) < count s
    key-there = subst (λ (x : ℕ). expr_of x < count s) (key-is o k l) (h.there k key-place)

-- the keys at a place of a list
module _ (s : List ℕ) (g : Orderings) (h : ListThere s g) (i : ℕ) (l : i < g.count) where
  pub list-place : i < length (decode g)
  list-place = omega (arith, length-decode g)

  pub place_inside : Inside (nodes s) (ordering_at (decode g) i)
  place_inside k b = omega (arith, h.there i k list-place b, nodes-count s)

  -- are old nodes, also when the arena has grown
  pub place-there : (t : List ℕ) → Holds t → Extends (nodes s) (nodes t) → KeysThere t (place_in g i)
  place-there t p x = record {
    holds = p;
    held = place-held g h.held i l;
    there = subst (λ (ks : List ℕ). (k : ℕ) → k < length ks → expr_of (get_or ks k 0) < count t) (sym (place-keys g h.held i l)) (λ k b. omega (arith, place_inside k b, extends-longer x, nodes-count t));
  }

-- a key of an ordering has its place in a table
pub key-low : (o : Ordering) → LowKeys o → (k : ℕ) → k < o.size → expr_of (get_or o.keys k 0) < 1024
key-low o h k l = subst (λ (x : ℕ). expr_of x < 1024) (key-is o k l) (h.low k (omega (arith, size_is o)))

-- and so have those at a place of a list
pub place-low : (g : Orderings) → LowList g → (i : ℕ) → i < g.count → LowKeys (place_in g i)
place-low g h i l = record {
  held = place-held g h.held i l;
  low = subst (λ (ks : List ℕ). (k : ℕ) → k < length ks → expr_of (get_or ks k 0) < 1024) (sym (place-keys g h.held i l)) (λ k b. h.low i k (omega (arith, length-decode g)) b);
}

-- nodes have one
pub there-low : (s : List ℕ) (g : Orderings) → ListThere s g → LowList g
there-low s g h = record { held = h.held; low = λ i k l b. omega (arith, h.there i k l b, h.holds.few) }

-- the tests by the table, of each key and of each ordering
pub keys-all : (table : List Bool) (ks : List ℕ) → list_all (λ k. get_or table (expr_of k) false) ks ≡ keys_tabled table ks
unfolding keys_tabled
keys-all table [] = refl
keys-all table (k ∷ ks) = rw (keys-all table ks)

pub lists-all : (table : List Bool) (os : List (List ℕ)) → list_all (keys_tabled table) os ≡ lists_tabled table os
unfolding lists_tabled
lists-all table [] = refl
lists-all table (o ∷ os) = rw (lists-all table os)

-- the orderings of a list by their places, as they are read
pub places-read : (g : Orderings) → Held g → table (λ i. keys_of (place_in g i)) g.count ≡ decode g
places-read g h = sym (table_is (λ i. keys_of (place_in g i)) g.count (decode g) [] (length-decode g) (λ i l. sym (place-keys g h i l)))
