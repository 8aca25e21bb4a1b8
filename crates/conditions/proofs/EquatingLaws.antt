-- An equal condition on the struct: two classes joined, and what a call with two expressions comes to.
use Rattle.std.specs.Prelude.{if◌then◌else◌, None, Some}
use Prim.Native.Nat.{ℕ, ◌+◌, ◌-◌, ◌<◌, ◌≤◌}
use mathlib.Core.Bool.{true, false}
use mathlib.Core.List.{List, [], ◌∷◌, ◌++◌}
use mathlib.Core.Path.{◌≡◌, sym, ap, ◌∙◌}
use native.Mathlib.Nat.{max_comm, min_comm, max-eq_right, min-eq_left}
use native.Mathlib.Decide.{ℕ_discrete, dec_lt}
use native.Mathlib.Omega.{arith}
use borrow.Author.Tests.{eq-eqb, ne_eqb}
use lib.Dec.{eqb}
use lib.ListN.{length, get_or}
use Rattle.arena.specs.Node.{Node, node_at}
use Rattle.classes.specs.declared.Constant.{Constant}
use Rattle.classes.specs.Class.{Class, carried, single, merged}
use Rattle.classes.specs.Group.{class_at, class_of, total, removed, length_removed, merged_at, pair, joined, equated, equal_condition}
use Rattle.classes.specs.Steps.{fits}
use Rattle.classes.specs.Layout.{encode, decode}
use Rattle.classes.specs.Inner.{Coded, Room}
use Rattle.classes.specs.declared.Group.{Group}
use Rattle.classes.proofs.Places.{total-removed, length-merged_at, total-merged_at}
use Rattle.classes.proofs.Codec.{built-count, built-used, built-limit, built-classes, built-coded, length-decode, used-is, size_is}
use Rattle.classes.proofs.Rebuilding.{merged-last}
use Rattle.classes.proofs.OneClass.{alone, one-coded, one-count, one_size, one-is}
use Rattle.conditions.proofs.ConstantLaws.{fits_both, more-total, more-count}

-- the order of two classes doesn't matter
pub joined_swap : (cs : List Class) (i j : ℕ) → joined cs i j ≡ joined cs j i
unfolding joined
joined_swap cs i j = rw (max_comm i j, min_comm i j)

pub joined-ordered : (cs : List Class) (i j : ℕ) → i < j → joined cs i j ≡ merged_at (removed cs j) i (class_at cs j)
unfolding joined
joined-ordered cs i j l =
    let a : i ≤ j = omega arith in
    rw (max-eq_right a, min-eq_left a)

-- the higher class is taken out and joins the lower
module _ (g : Group) (v : Coded g) (low high : ℕ) (a : low < high) (b : high < g.count) (rest : Group) (p : rest ≡ encode g.limit (removed (decode g) high)) where
  abbrev left : List Class
  left = removed (decode g) high

  fewer : total left + length (class_at (decode g) high).members ≡ g.used
  fewer = omega (arith, total-removed (decode g) high (omega (arith, length-decode g)), used-is g v)

  rest-coded : Coded rest
  rest-coded = built-coded g.limit left rest p (omega (arith, length_removed (decode g) high, length-decode g, v.few)) (omega (arith, fewer, v.small))

  rest-count : rest.count ≡ length left
  rest-count = built-count g.limit left rest p

  rest-used : rest.used ≡ total left
  rest-used = built-used g.limit left rest p

  rest-limit : rest.limit ≡ g.limit
  rest-limit = built-limit g.limit left rest p

  rest-is : decode rest ≡ left
  rest-is = built-classes g.limit left rest p

  pub bridge_asks : (Coded rest × (low < rest.count)) × ((Coded g × (high < g.count)) × (rest.used + get_or g.sizes high 0 ≤ 256))
  bridge_asks = ((rest-coded, omega (arith, rest-count, length_removed (decode g) high, length-decode g)), ((v, b), omega (arith, rest-used, fewer, size_is g v high, v.small)))

  pub bridge_is : (r : Group) → r ≡ encode rest.limit (merged_at (decode rest) low (class_at (decode g) high)) → r ≡ encode g.limit (joined (decode g) low high)
  bridge_is r q =
      q
      ∙ ap (λ (l : ℕ). encode l (merged_at (decode rest) low (class_at (decode g) high))) rest-limit
      ∙ ap (λ (ds : List Class). encode g.limit (merged_at ds low (class_at (decode g) high))) rest-is
      ∙ ap (λ (ds : List Class). encode g.limit ds) (sym (joined-ordered (decode g) low high a))

-- two classes, or one named twice
module _ (g : Group) (v : Coded g) (i j : ℕ) where
  pub join-same : i ≡ j → g ≡ encode g.limit (if eqb i j then decode g else joined (decode g) i j)
  join-same e = rw (eq-eqb i j e) (sym v.coded)

  pub join_up : (r : Group) → i < j → r ≡ encode g.limit (joined (decode g) i j) → r ≡ encode g.limit (if eqb i j then decode g else joined (decode g) i j)
  join_up r l q = rw (ne_eqb i j (λ z. omega arith)) q

  pub join-down : (r : Group) → (i ≡ j → ⊥) → r ≡ encode g.limit (joined (decode g) j i) → r ≡ encode g.limit (if eqb i j then decode g else joined (decode g) i j)
  join-down r n q = rw (ne_eqb i j n) (q ∙ ap (λ (ds : List Class). encode g.limit ds) (joined_swap (decode g) j i))

  -- it changes no number of members, and makes no more classes
  module _ (a : i < g.count) (b : j < g.count) (w : g.used ≤ g.limit) where
    ordered : (low high : ℕ) → low < high → high < g.count → fits g.limit (joined (decode g) low high) ≡ true
    ordered low high l h =
        let n = length_removed (decode g) high in
        let k = length-decode g in
        let d = class_at (decode g) high in
        let s : low < length (removed (decode g) high) = omega arith in
        rw (joined-ordered (decode g) low high l)
        (fits_both g.limit (merged_at (removed (decode g) high) low d)
        (omega (arith, total-merged_at (removed (decode g) high) low d s, total-removed (decode g) high (omega arith), used-is g v))
        (omega (arith, length-merged_at (removed (decode g) high) low d, v.few)))

    pub join-fits : fits g.limit (if eqb i j then decode g else joined (decode g) i j) ≡ true
    join-fits = at (ℕ_discrete i j)
      where
        other : (i ≡ j → ⊥) → fits g.limit (joined (decode g) i j) ≡ true
        other n = by (dec_lt i j)
          where
            by : Dec (i < j) → fits g.limit (joined (decode g) i j) ≡ true
            by (yes l) = ordered i j l b
            by (no l) = rw (joined_swap (decode g) i j) (ordered j i (omega arith) a)

        at : Dec (i ≡ j) → fits g.limit (if eqb i j then decode g else joined (decode g) i j) ≡ true
        at (yes e) = rw (eq-eqb i j e) (fits_both g.limit (decode g) (omega (arith, used-is g v)) (omega (arith, length-decode g, v.few)))
        at (no n) = rw (ne_eqb i j n) (other n)

-- the class of two expressions
pub pair_same : (ns : List Node) (a b : ℕ) → a ≡ b → pair ns a b ≡ alone a (carried (node_at ns a))
unfolding pair single
pair_same ns a b e = rw (eq-eqb a b e)

pub pair-two : (ns : List Node) (a b : ℕ) → (a ≡ b → ⊥) → pair ns a b ≡ merged (alone a (carried (node_at ns a))) (alone b (carried (node_at ns b)))
unfolding pair single
pair-two ns a b n = rw (ne_eqb a b n)

-- what an equal condition says, by the classes of its sides
module _ (ns : List Node) (cs : List Class) (a b : ℕ) where
  pub equal-both : (i j : ℕ) → class_of cs a ≡ Some i → class_of cs b ≡ Some j → equal_condition ns cs a b ≡ (false, (if eqb i j then cs else joined cs i j))
  unfolding equal_condition equated
  equal-both i j p q = rw (p, q)

  pub equal-left : (i : ℕ) → class_of cs a ≡ Some i → class_of cs b ≡ None → equal_condition ns cs a b ≡ (false, merged_at cs i (single ns b))
  unfolding equal_condition equated
  equal-left i p q = rw (p, q)

  pub equal-right : (j : ℕ) → class_of cs a ≡ None → class_of cs b ≡ Some j → equal_condition ns cs a b ≡ (false, merged_at cs j (single ns a))
  unfolding equal_condition equated
  equal-right j p q = rw (p, q)

  pub equal-new : class_of cs a ≡ None → class_of cs b ≡ None → equal_condition ns cs a b ≡ (true, cs ++ (pair ns a b ∷ []))
  unfolding equal_condition equated
  equal-new p q = rw (p, q)

-- how many members the class of two expressions has
module _ (ns : List Node) (a b : ℕ) where
  pub pair_one : a ≡ b → length (pair ns a b).members ≡ 1
  pair_one e = ap (λ (c : Class). length c.members) (pair_same ns a b e)

  pub pair-both : (a ≡ b → ⊥) → length (pair ns a b).members ≡ 2
  unfolding merged
  pair-both n = ap (λ (c : Class). length c.members) (pair-two ns a b n)

  pub pair-filled : 0 < length (pair ns a b).members
  pair-filled = at (ℕ_discrete a b)
    where
      at : Dec (a ≡ b) → 0 < length (pair ns a b).members
      at (yes e) = omega (arith, pair_one e)
      at (no n) = omega (arith, pair-both n)

-- the second expression joins the class of the first
module _ (g : Group) (v : Coded g) (a : ℕ) (k : Constant) (next : Group) (p : next ≡ encode g.limit (decode g ++ (alone a k ∷ []))) (few : g.count < 64) (room : g.used + 1 < 256) where
  abbrev begun : List Class
  begun = decode g ++ (alone a k ∷ [])

  begun-count : length begun ≡ g.count + 1
  begun-count = more-count g v (alone a k)

  begun-total : total begun ≡ g.used + 1
  begun-total = more-total g v (alone a k)

  next-coded : Coded next
  next-coded = built-coded g.limit begun next p (omega (arith, begun-count)) (omega (arith, begun-total))

  next-count : next.count ≡ length begun
  next-count = built-count g.limit begun next p

  next-used : next.used ≡ total begun
  next-used = built-used g.limit begun next p

  next-limit : next.limit ≡ g.limit
  next-limit = built-limit g.limit begun next p

  next-is : decode next ≡ begun
  next-is = built-classes g.limit begun next p

  module _ (other : Group) (b : ℕ) (m : Constant) (q : other ≡ encode 256 (alone b m ∷ [])) where
    pub last-asks : Room next other 0 × (0 < next.count)
    last-asks =
        (record { out-coded = next-coded; src_coded = one-coded other b m q; there = one-count other b m q; members = omega (arith, next-used, begun-total, one_size other b m q) }, omega (arith, next-count, begun-count))

    pub last-is : (r : Group) → r ≡ encode next.limit (merged_at (decode next) (next.count - 1) (class_at (decode other) 0)) → r ≡ encode g.limit (decode g ++ (merged (alone a k) (alone b m) ∷ []))
    last-is r e =
        e
        ∙ ap (λ (l : ℕ). encode l (merged_at (decode next) (next.count - 1) (class_at (decode other) 0))) next-limit
        ∙ ap (λ (ds : List Class). encode g.limit (merged_at ds (next.count - 1) (class_at (decode other) 0))) next-is
        ∙ ap (λ (d : Class). encode g.limit (merged_at begun (next.count - 1) d)) (one-is other b m q)
        ∙ ap (λ (ds : List Class). encode g.limit ds) (merged-last (decode g) (alone a k) (alone b m) (next.count - 1) (omega (arith, next-count, begun-count, length-decode g)))
