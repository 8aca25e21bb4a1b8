-- Laws for the check of a lent map: what the struct's type says of its array, the tests by their places, and what a map that passes is.
use Rattle.std.specs.Prelude.{if◌then◌else◌}
use Prim.Native.Nat.{ℕ, ◌+◌, ◌-◌, ◌<◌, ◌≤◌}
use mathlib.Core.Bool.{Bool, true, false, not, ◌&&◌, ◌||◌}
use mathlib.Core.List.{List, []}
use mathlib.Core.Path.{◌≡◌, refl, sym, subst}
use native.Mathlib.Omega.{arith}
use borrow.Author.Tests.{leb-true}
use denote.Laws.{Is}
use mir.Val.{Val}
use lib.Dec.{eqb, ltb, leb}
use lib.ListN.{length, get_or}
use Rattle.laws.specs.Tests.{each}
use Rattle.laws.proofs.Booleans.{and_left, and_right}
use Rattle.laws.proofs.Each.{each_holds}
use Rattle.arena.specs.Layout.{count, lawful}
use Rattle.classes.specs.Layout.{fresh}
use Rattle.orderings.specs.Ordering.{expr_of}
use Rattle.orderings.proofs.Codec.{get_d_any}
use Rattle.orderings.proofs.ListChecks.{four}
use Rattle.dependencies.specs.Layout.{unused, place_in, rest_unused, lawful_entry, unused_entry, fresh_key, lawful_map, entry_inside, keys_inside}
use Rattle.dependencies.specs.Calls.{map_number}
use Rattle.dependencies.specs.declared.DependencyNode.{DependencyNode}
use Rattle.dependencies.specs.declared.DependencyMap.{DependencyMap}
use Rattle.dependencies.specs.contracts.DependencyMap.{the_row}

-- the struct has 64 places: its type says so
pub sized : (m : DependencyMap) (vs : List Val) → Is the_row m vs → length m.list ≡ 64
sized m vs p = p.1.1.1.0.1.0.1

-- what the code reads past the end
abbrev pub no_place : DependencyNode
no_place = record { key = 0; projected = false; target = 0; size = 0; dependencies = [] }

-- what the code reads at a place is what stands there
pub read_is : (m : DependencyMap) → length m.list ≡ 64 → (i : ℕ) → i < 64 → get_or m.list i no_place ≡ place_in m i
read_is m z i l = get_d_any m.list i no_place unused (omega arith)

-- the tests of a place for dependencies
abbrev pub Fresh : DependencyNode → ℕ → Bool
Fresh r k = fresh r.dependencies k

abbrev pub Other : DependencyNode → ℕ → ℕ → Bool
Other r k i = not (eqb (get_or r.dependencies i 0) (get_or r.dependencies k 0))

abbrev pub Unused : DependencyNode → ℕ → Bool
Unused r k = eqb (get_or r.dependencies (r.size + k) 0) 0

abbrev pub Below : DependencyNode → ℕ → ℕ → Bool
Below r n k = ltb (expr_of (get_or r.dependencies k 0)) n

-- the tests of a place for entries
abbrev pub LawfulAt : DependencyMap → ℕ → Bool
LawfulAt m i = lawful_entry (place_in m i)

abbrev pub FreshAt : DependencyMap → ℕ → Bool
FreshAt m i = fresh_key m i

abbrev pub UnusedAt : DependencyMap → ℕ → Bool
UnusedAt m i = unused_entry (place_in m (m.count + i))

abbrev pub InsideAt : ℕ → DependencyMap → ℕ → Bool
InsideAt n m i = entry_inside n (place_in m i)

-- the key at place i is not the one at place k
abbrev pub Unlike : DependencyMap → ℕ → ℕ → Bool
Unlike m k i = not (eqb (place_in m i).key (place_in m k).key)

-- an entry that passes has at most 16 dependencies
pub entry-size : (r : DependencyNode) → lawful_entry r ≡ true → r.size ≤ 16
unfolding lawful_entry
entry-size r e = leb-true r.size 16 (four (leb r.size 16) (each (Fresh r) r.size) (r.projected || eqb r.target 0) (rest_unused r) e).0

-- the tests that a map passes
map-tests : (m : DependencyMap) → lawful_map m ≡ true
    → (leb m.count 64 ≡ true) × (each (LawfulAt m) m.count ≡ true) × (each (FreshAt m) m.count ≡ true) × (each (UnusedAt m) (64 - m.count) ≡ true)
unfolding lawful_map
map-tests m e = four (leb m.count 64) (each (LawfulAt m) m.count) (each (FreshAt m) m.count) (each (UnusedAt m) (64 - m.count)) e

-- it has at most 64 entries
pub lawful-few : (m : DependencyMap) → lawful_map m ≡ true → m.count ≤ 64
lawful-few m e = leb-true m.count 64 (map-tests m e).0

-- each of them is lawful
pub lawful-entries : (m : DependencyMap) → lawful_map m ≡ true → (i : ℕ) → i < m.count → lawful_entry (place_in m i) ≡ true
lawful-entries m e i l = each_holds (LawfulAt m) m.count i (map-tests m e).1 l

-- so what the code reads there has at most 16 dependencies
pub read-size : (m : DependencyMap) → length m.list ≡ 64 → lawful_map m ≡ true → (i : ℕ) → i < m.count → (get_or m.list i no_place).size ≤ 16
read-size m z e i l =
    let w = lawful-few m e in
    subst (λ (r : DependencyNode). r.size ≤ 16) (sym (read_is m z i (omega arith))) (entry-size (place_in m i) (lawful-entries m e i l))

-- a number that is 0 comes after a test that passed
passed : (a b : Bool) → ◌≡◌ {A = ℕ} (if a then (if b then 0 else 1) else 11) 0 → a ≡ true
passed true b e = refl
passed false b e = absurd (omega arith)

-- a map that passes over an arena: both are lawful
both : (cells : List ℕ) (m : DependencyMap) → map_number cells m ≡ 0 → (lawful cells && lawful_map m) ≡ true
unfolding map_number
both cells m e = passed (lawful cells && lawful_map m) (keys_inside (count cells) m) e

pub number-lawful : (cells : List ℕ) (m : DependencyMap) → map_number cells m ≡ 0 → lawful_map m ≡ true
number-lawful cells m e = and_right (lawful cells) (lawful_map m) (both cells m e)

pub number-arena : (cells : List ℕ) (m : DependencyMap) → map_number cells m ≡ 0 → lawful cells ≡ true
number-arena cells m e = and_left (lawful cells) (lawful_map m) (both cells m e)
