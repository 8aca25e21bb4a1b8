-- The turns of the loops that rebuild a group: without a class, and with a class merged into one of its classes.
use Prim.Native.Nat.{ℕ, ◌+◌, ◌-◌, ◌<◌, ◌≤◌}
use mathlib.Core.List.{List, [], ◌∷◌, ◌++◌}
use mathlib.Core.Path.{◌≡◌, refl, ap, ◌∙◌}
use native.Mathlib.Decide.{ℕ_discrete}
use native.Mathlib.Omega.{arith}
use lib.ListN.{length, get_or, take, length-append}
use Rattle.classes.specs.Class.{Class, merged}
use Rattle.classes.specs.Group.{class_at, total, removed, length_removed, merged_at}
use Rattle.classes.specs.Layout.{encode, decode}
use Rattle.classes.specs.Inner.{Coded, Room}
use Rattle.classes.specs.declared.Group.{Group}
use Rattle.classes.proofs.Places.{total-removed, length-merged_at, total-merged_at, merged_at-same, merged_at-other, length_more, total-more}
use Rattle.classes.proofs.Codec.{built-count, built-used, built-limit, built-classes, built-coded, length-decode, used-is, size_is}
use Rattle.classes.proofs.Rebuilding.{rebuilt_few, rebuilt_coded, rebuilt_room, rebuilt_next, rebuilt_all, class-removed, merged-last}

-- without class i
module _ (g : Group) (v : Coded g) (i : ℕ) (there : i < g.count) where
  removed-long : g.count - 1 ≡ length (removed (decode g) i)
  removed-long = omega (arith, length_removed (decode g) i, length-decode g)

  removed-few : length (removed (decode g) i) ≤ 64
  removed-few = omega (arith, removed-long, v.few)

  removed-small : total (removed (decode g) i) ≤ 256
  removed-small = omega (arith, total-removed (decode g) i (omega (arith, length-decode g)), used-is g v, v.small)

  module _ (k m : ℕ) (out : Group) (inside : k < g.count - 1) (is : out ≡ encode g.limit (take k (removed (decode g) i))) (p : k ≡ i → m ≡ g.count - 1) (q : (k ≡ i → ⊥) → m ≡ k) where
    within : k < length (removed (decode g) i)
    within = omega (arith, removed-long)

    comes : class_at (decode g) m ≡ class_at (removed (decode g) i) k
    comes =
        class-removed (decode g) i k m (omega (arith, length-decode g))
        (λ e. let f : m ≡ g.count - 1 = p e in omega (arith, length-decode g)) q

    place : Dec (k ≡ i) → m < g.count
    place (yes e) = let f : m ≡ g.count - 1 = p e in omega arith
    place (no e) = let f : m ≡ k = q e in omega arith

    -- the next class has room
    pub removed-room : Room out g m × (out.count < 64)
    removed-room = (
      record {
        out-coded = rebuilt_coded g.limit (removed (decode g) i) removed-few removed-small k within out is;
        src_coded = v;
        there = place (ℕ_discrete k i);
        members = rw (size_is g v m, comes) (rebuilt_room g.limit (removed (decode g) i) removed-few removed-small k within out is);
      },
      rebuilt_few g.limit (removed (decode g) i) removed-few removed-small k within out is,
    )

    -- a turn
    pub removed-next : (next : Group) → next ≡ encode out.limit (decode out ++ (class_at (decode g) m ∷ [])) → next ≡ encode g.limit (take (k + 1) (removed (decode g) i))
    removed-next next e =
        rebuilt_next g.limit (removed (decode g) i) removed-few removed-small k within out is next (class_at (decode g) m) comes e

  -- the end
  pub removed-done : (k : ℕ) (out : Group) → k ≤ g.count - 1 → g.count - 1 ≤ k → out ≡ encode g.limit (take k (removed (decode g) i)) → out ≡ encode g.limit (removed (decode g) i)
  removed-done k out a b is =
      rebuilt_all g.limit (removed (decode g) i) removed-few removed-small (g.count - 1) k out removed-long a b is

-- the members of a merged class
length-merged-class : (c d : Class) → length (merged c d).members ≡ length c.members + length d.members
unfolding merged
length-merged-class c d = length-append c.members d.members

-- a class of the result has at least the members that it had
class-grows : (cs : List Class) (i : ℕ) (d : Class) (k : ℕ) → k < length cs → length (class_at cs k).members ≤ length (class_at (merged_at cs i d) k).members
class-grows cs i d k l = at (ℕ_discrete k i)
  where
    at : Dec (k ≡ i) → length (class_at cs k).members ≤ length (class_at (merged_at cs i d) k).members
    at (yes e) =
        let b : i < length cs = rw e at l in
        rw (e, merged_at-same cs i d b) (omega (arith, length-merged-class (class_at cs i) d))
    at (no e) = rw (merged_at-other cs i k d e) (omega arith)

-- what the next class of a group with class j of another merged into class i asks
abbrev pub Mergeable : Group → Group → ℕ → ℕ → Group → ℕ → Type 0
Mergeable out g k i src j =
    ((Coded out × (out.count < 64)) × (Coded g × (k < g.count)))
    × ((Coded src × (j < src.count)) × (out.used + length (class_at (merged_at (decode g) i (class_at (decode src) j)) k).members ≤ 256))

module _ (out g : Group) (k i : ℕ) (src : Group) (j : ℕ) (p : Mergeable out g k i src j) where
  long : k < length (decode g)
  long = omega (arith, length-decode g, p.0.1.1)

  -- the class has room
  pub merged-room : Room out g k × (out.count < 64)
  merged-room = (
    record {
      out-coded = p.0.0.0;
      src_coded = p.0.1.0;
      there = p.0.1.1;
      members = omega (arith, p.1.1, size_is g p.0.1.0 k, class-grows (decode g) i (class_at (decode src) j) k long);
    },
    p.0.0.1,
  )

  -- any other class than class i
  pub merged-passed : (next : Group) → (k ≡ i → ⊥) → next ≡ encode out.limit (decode out ++ (class_at (decode g) k ∷ []))
      → next ≡ encode out.limit (decode out ++ (class_at (merged_at (decode g) i (class_at (decode src) j)) k ∷ []))
  merged-passed next e f = f ∙ rw (merged_at-other (decode g) i k (class_at (decode src) j) e)

  -- class i
  module _ (next : Group) (e : k ≡ i) (f : next ≡ encode out.limit (decode out ++ (class_at (decode g) k ∷ []))) where
    result-is : class_at (merged_at (decode g) i (class_at (decode src) j)) k ≡ merged (class_at (decode g) k) (class_at (decode src) j)
    result-is =
        let b : i < length (decode g) = rw e at long in
        rw e (merged_at-same (decode g) i (class_at (decode src) j) b)

    abbrev grown : List Class
    grown = decode out ++ (class_at (decode g) k ∷ [])

    next-count : next.count ≡ out.count + 1
    next-count = omega (arith, built-count out.limit grown next f, length_more (decode out) (class_at (decode g) k), length-decode out)

    next-used : next.used ≡ out.used + length (class_at (decode g) k).members
    next-used = omega (arith, built-used out.limit grown next f, total-more (decode out) (class_at (decode g) k), used-is out p.0.0.0)

    next_fits : next.used + get_or src.sizes j 0 ≤ 256
    next_fits =
        let s : length (class_at (merged_at (decode g) i (class_at (decode src) j)) k).members ≡ length (class_at (decode g) k).members + length (class_at (decode src) j).members = ap (λ (c : Class). length c.members) result-is ∙ length-merged-class (class_at (decode g) k) (class_at (decode src) j) in
        omega (arith, next-used, size_is src p.1.0.0 j, p.1.1)

    next-coded : Coded next
    next-coded =
        built-coded out.limit grown next f (omega (arith, length_more (decode out) (class_at (decode g) k), length-decode out, p.0.0.1))
        (omega (arith, total-more (decode out) (class_at (decode g) k), used-is out p.0.0.0, next-used, next_fits))

    -- the other class has room
    pub merged-next-room : Room next src j × (0 < next.count)
    merged-next-room =
        (record { out-coded = next-coded; src_coded = p.1.0.0; there = p.1.0.1; members = next_fits }, omega (arith, next-count))

    -- and is merged in
    pub merged-made : (r : Group) → r ≡ encode next.limit (merged_at (decode next) (next.count - 1) (class_at (decode src) j))
        → r ≡ encode out.limit (decode out ++ (class_at (merged_at (decode g) i (class_at (decode src) j)) k ∷ []))
    merged-made r q =
        let n : next.count - 1 ≡ length (decode out) = omega (arith, next-count, length-decode out) in
        q ∙ rw (built-classes out.limit grown next f, built-limit out.limit grown next f, result-is) (ap (encode out.limit) (merged-last (decode out) (class_at (decode g) k) (class_at (decode src) j) (next.count - 1) n))

-- class j of another merged into class i
module _ (g : Group) (v : Coded g) (i : ℕ) (there : i < g.count) (src : Group) (w : Coded src) (j : ℕ) (other : j < src.count) (room : g.used + get_or src.sizes j 0 ≤ 256) where
  merged-long : g.count ≡ length (merged_at (decode g) i (class_at (decode src) j))
  merged-long = omega (arith, length-merged_at (decode g) i (class_at (decode src) j), length-decode g)

  merged-few : length (merged_at (decode g) i (class_at (decode src) j)) ≤ 64
  merged-few = omega (arith, merged-long, v.few)

  merged-small : total (merged_at (decode g) i (class_at (decode src) j)) ≤ 256
  merged-small =
      omega (arith, total-merged_at (decode g) i (class_at (decode src) j) (omega (arith, length-decode g)), used-is g v, size_is src w j)

  module _ (k : ℕ) (out : Group) (inside : k < g.count) (is : out ≡ encode g.limit (take k (merged_at (decode g) i (class_at (decode src) j)))) where
    merged-within : k < length (merged_at (decode g) i (class_at (decode src) j))
    merged-within = omega (arith, merged-long)

    -- the next class has room
    pub merged-asks : Mergeable out g k i src j
    merged-asks = (
      (
        (
          rebuilt_coded g.limit (merged_at (decode g) i (class_at (decode src) j)) merged-few merged-small k merged-within out is,
          rebuilt_few g.limit (merged_at (decode g) i (class_at (decode src) j)) merged-few merged-small k merged-within out is,
        ),
        (v, inside),
      ),
      ((w, other), rebuilt_room g.limit (merged_at (decode g) i (class_at (decode src) j)) merged-few merged-small k merged-within out is),
    )

    -- a turn
    pub merged-next : (next : Group) → next ≡ encode out.limit (decode out ++ (class_at (merged_at (decode g) i (class_at (decode src) j)) k ∷ []))
        → next ≡ encode g.limit (take (k + 1) (merged_at (decode g) i (class_at (decode src) j)))
    merged-next next e =
        rebuilt_next g.limit (merged_at (decode g) i (class_at (decode src) j)) merged-few merged-small k merged-within out is next (class_at (merged_at (decode g) i (class_at (decode src) j)) k) refl e

  -- the end
  pub merged-done : (k : ℕ) (out : Group) → k ≤ g.count → g.count ≤ k → out ≡ encode g.limit (take k (merged_at (decode g) i (class_at (decode src) j)))
      → out ≡ encode g.limit (merged_at (decode g) i (class_at (decode src) j))
  merged-done k out a b is =
      rebuilt_all g.limit (merged_at (decode g) i (class_at (decode src) j)) merged-few merged-small g.count k out merged-long a b is
