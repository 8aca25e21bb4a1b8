-- Two orderings of a list held against each other, as the code does it: by the number of an overlap.
use Rattle.std.specs.Prelude.{if◌then◌else◌, Option, None, Some}
use Prim.Native.Nat.{ℕ, ◌+◌, ◌-◌, ◌<◌, ◌≤◌}
use mathlib.Core.Bool.{Bool}
use mathlib.Core.List.{List}
use mathlib.Core.Path.{◌≡◌, refl, sym, ap, ap₂, ◌∙◌, subst}
use native.Mathlib.Omega.{arith}
use borrow.Author.Tests.{eq-eqb, ne_eqb}
use lib.Dec.{eqb}
use lib.ListN.{length, take, set, length-set}
use Rattle.orderings.specs.Ordering.{same_key}
use Rattle.orderings.specs.Lists.{ordering_at}
use Rattle.reduction.specs.Reduction.{overlap, removed, Resolved, apart, trimmed, emptied, resolved_by, resolve, second, compared}
use Rattle.orderings.specs.Layout.{keys_of, encode, decode}
use Rattle.orderings.specs.Inner.{Held}
use Rattle.reduction.specs.Inner.{overlap_number, way_number, contest_of}
use Rattle.orderings.specs.declared.Orderings.{Orderings}
use Rattle.reduction.specs.declared.Contest.{Contest}
use Rattle.reduction.specs.Fewer.{compared_by, compared-by, overlap-below}
use Rattle.reduction.proofs.Kept.{good-set, good-take}
use Rattle.orderings.proofs.Codec.{place_in, place-keys, place-size, good-held, decode-encode, length-decode}

-- what the number of an overlap says
module _ (m : ℕ → ℕ → Bool) (os : List (List ℕ)) (i j n : ℕ) (e : n ≡ overlap_number (overlap m (ordering_at os i) (ordering_at os j))) where
  number-below : n ≤ length (ordering_at os i)
  unfolding overlap_number
  number-below = go (overlap m (ordering_at os i) (ordering_at os j)) refl
    where
      go : (o : Option ℕ) → overlap m (ordering_at os i) (ordering_at os j) ≡ o → n ≤ length (ordering_at os i)
      go None q = let z : n ≡ 0 = e ∙ ap overlap_number q in omega arith
      go (Some k) q = let z : n ≡ k + 1 = e ∙ ap overlap_number q in omega (arith, overlap-below m (ordering_at os i) (ordering_at os j) k q)

  number-none : n ≡ 0 → resolve m os i j ≡ apart
  unfolding overlap_number resolve resolved_by
  number-none z = go (overlap m (ordering_at os i) (ordering_at os j)) refl
    where
      go : (o : Option ℕ) → overlap m (ordering_at os i) (ordering_at os j) ≡ o → resolved_by os i (overlap m (ordering_at os i) (ordering_at os j)) ≡ apart
      go None q = ap (resolved_by os i) q
      go (Some k) q = let y : n ≡ k + 1 = e ∙ ap overlap_number q in absurd (omega arith)

  number-some : (n ≡ 0 → ⊥) → resolve m os i j ≡ (if eqb n (length (ordering_at os i)) then emptied else trimmed (set os i (take (length (ordering_at os i) - n) (ordering_at os i))))
  unfolding overlap_number resolve resolved_by
  number-some z = go (overlap m (ordering_at os i) (ordering_at os j)) refl
    where
      by : ℕ → Resolved
      by x = if eqb x (length (ordering_at os i)) then emptied else trimmed (set os i (take (length (ordering_at os i) - x) (ordering_at os i)))

      go : (o : Option ℕ) → overlap m (ordering_at os i) (ordering_at os j) ≡ o → resolved_by os i (overlap m (ordering_at os i) (ordering_at os j)) ≡ by n
      go None q = absurd (z (e ∙ ap overlap_number q))
      go (Some k) q = ap (resolved_by os i) q ∙ ap by (sym (e ∙ ap overlap_number q))

  number-all : (n ≡ 0 → ⊥) → n ≡ length (ordering_at os i) → resolve m os i j ≡ emptied
  number-all z l = number-some z ∙ rw (eq-eqb n (length (ordering_at os i)) l)

  number-part : (n ≡ 0 → ⊥) → (n ≡ length (ordering_at os i) → ⊥) → resolve m os i j ≡ trimmed (set os i (take (length (ordering_at os i) - n) (ordering_at os i)))
  number-part z l = number-some z ∙ rw (ne_eqb n (length (ordering_at os i)) l)

-- the code's number of the overlap of the orderings at two places
abbrev pub Number : Orderings → ℕ → ℕ → ℕ → Type 0
Number g i j n = n ≡ overlap_number (overlap same_key (keys_of (place_in g i)) (keys_of (place_in g j)))

module _ (g : Orderings) (h : Held g) (i j n : ℕ) (a : i < g.count) (b : j < g.count) (e : Number g i j n) where
  number_is : n ≡ overlap_number (overlap same_key (ordering_at (decode g) i) (ordering_at (decode g) j))
  number_is = e ∙ ap₂ (λ x y. overlap_number (overlap same_key x y)) (place-keys g h i a) (place-keys g h j b)

  -- it is no more than the keys at the first place
  pub number_fits : n ≤ (place_in g i).size
  number_fits = omega (arith, number-below same_key (decode g) i j n number_is, place-size g h i a)

  pub rest-fits : (place_in g i).size - n ≤ length (ordering_at (decode g) i)
  rest-fits = omega (arith, place-size g h i a)

  pub found_none : n ≡ 0 → resolve same_key (decode g) i j ≡ apart
  found_none z = number-none same_key (decode g) i j n number_is z

  pub found_all : (n ≡ 0 → ⊥) → n ≡ (place_in g i).size → resolve same_key (decode g) i j ≡ emptied
  found_all z l = number-all same_key (decode g) i j n number_is z (l ∙ place-size g h i a)

  pub found_part : (n ≡ 0 → ⊥) → (n ≡ (place_in g i).size → ⊥) → resolve same_key (decode g) i j ≡ trimmed (set (decode g) i (take ((place_in g i).size - n) (ordering_at (decode g) i)))
  found_part z l =
      let s = place-size g h i a in
      rw s (number-part same_key (decode g) i j n number_is z (λ q. l (q ∙ sym s)))

  -- what is left of it is held
  pub cut-held : (n ≡ 0 → ⊥) → (n ≡ (place_in g i).size → ⊥) → (s : Orderings) → s ≡ encode (set (decode g) i (take ((place_in g i).size - n) (ordering_at (decode g) i))) → Held s × (s.count ≡ g.count)
  unfolding encode
  cut-held z l s q =
      let p = place-size g h i a in
      let k = number_fits in
      let left : List ℕ = take ((place_in g i).size - n) (ordering_at (decode g) i) in
      let d : 0 < (place_in g i).size - n = omega arith in (
        subst Held (sym q) (good-held (set (decode g) i left) (good-set (decode g) i left h.good (good-take (ordering_at (decode g) i) ((place_in g i).size - n) (h.good.each i (omega (arith, length-decode g))) d rest-fits))),
        ap (λ (x : Orderings). x.count) q ∙ length-set (decode g) i left ∙ length-decode g,
      )

-- the second of two orderings against the first: the three ways out
module _ (g : Orderings) (h : Held g) (i j c n : ℕ) (a : i < g.count) (b : j < g.count) (e : Number g j i n) where
  pub second_none : n ≡ 0 → ◌≡◌ {A = Contest} (record { way = 0; cuts = c; list = g }) (contest_of (second (decode g) j c (resolve same_key (decode g) j i)))
  unfolding second contest_of way_number
  second_none z = rw (found_none g h j i n b a e z) (λ t. record { way = 0; cuts = c; list = sym h.coded t })

  pub second-all : (n ≡ 0 → ⊥) → n ≡ (place_in g j).size → (s : Orderings) → s ≡ encode (removed (decode g) j) → ◌≡◌ {A = Contest} (record { way = 1; cuts = c + 1; list = s }) (contest_of (second (decode g) j c (resolve same_key (decode g) j i)))
  unfolding second contest_of way_number
  second-all z l s q = rw (found_all g h j i n b a e z l) (λ t. record { way = 1; cuts = c + 1; list = q t })

  pub second-part : (n ≡ 0 → ⊥) → (n ≡ (place_in g j).size → ⊥) → (s : Orderings) → s ≡ encode (set (decode g) j (take ((place_in g j).size - n) (ordering_at (decode g) j))) → ◌≡◌ {A = Contest} (record { way = 0; cuts = c + 1; list = s }) (contest_of (second (decode g) j c (resolve same_key (decode g) j i)))
  unfolding second contest_of way_number
  second-part z l s q = rw (found_part g h j i n b a e z l) (λ t. record { way = 0; cuts = c + 1; list = q t })

-- the first against the second, and then the second against the first
module _ (g : Orderings) (h : Held g) (i j n : ℕ) (a : i < g.count) (b : j < g.count) (e : Number g i j n) where
  by : (r : Resolved) → resolve same_key (decode g) i j ≡ r → compared same_key (decode g) i j ≡ compared_by same_key (decode g) i j r
  by r q = compared-by same_key (decode g) i j ∙ ap (compared_by same_key (decode g) i j) q

  pub contest-none : n ≡ 0 → (r : Contest) → r ≡ contest_of (second (decode g) j 0 (resolve same_key (decode g) j i)) → r ≡ contest_of (compared same_key (decode g) i j)
  unfolding compared_by
  contest-none z r q = q ∙ ap contest_of (sym (by apart (found_none g h i j n a b e z)))

  pub contest-all : (n ≡ 0 → ⊥) → n ≡ (place_in g i).size → (s : Orderings) → s ≡ encode (removed (decode g) i) → ◌≡◌ {A = Contest} (record { way = 2; cuts = 1; list = s }) (contest_of (compared same_key (decode g) i j))
  unfolding compared_by contest_of way_number
  contest-all z l s q = (λ t. record { way = 2; cuts = 1; list = q t }) ∙ ap contest_of (sym (by emptied (found_all g h i j n a b e z l)))

  pub contest-part : (n ≡ 0 → ⊥) → (n ≡ (place_in g i).size → ⊥) → (s : Orderings) → s ≡ encode (set (decode g) i (take ((place_in g i).size - n) (ordering_at (decode g) i))) → (r : Contest) → r ≡ contest_of (second (decode s) j 1 (resolve same_key (decode s) j i)) → r ≡ contest_of (compared same_key (decode g) i j)
  unfolding compared_by
  contest-part z l s q r w =
      let ps : List (List ℕ) = set (decode g) i (take ((place_in g i).size - n) (ordering_at (decode g) i)) in
      let d : decode s ≡ ps = ap decode q ∙ decode-encode ps in
      w ∙ ap (λ (x : List (List ℕ)). contest_of (second x j 1 (resolve same_key x j i))) d ∙ ap contest_of (sym (by (trimmed ps) (found_part g h i j n a b e z l)))
