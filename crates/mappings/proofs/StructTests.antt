-- The tests of a mapping, in the words of its struct.
use Prim.Native.Nat.{ℕ, ◌<◌, ◌≤◌}
use mathlib.Core.Bool.{Bool, true, false, not, ◌&&◌}
use mathlib.Core.List.{[]}
use mathlib.Core.Path.{◌≡◌, sym, ap, ap₂, ◌∙◌}
use native.Mathlib.Omega.{arith}
use borrow.Author.Tests.{ltb-true, le-ltb}
use lib.Dec.{eqb, ltb}
use lib.ListN.{get_or}
use Rattle.laws.specs.Tests.{each}
use Rattle.laws.proofs.Booleans.{and_left, and_right, and_fails_left}
use Rattle.laws.proofs.Each.{each_cong, each_holds}
use Rattle.classes.specs.Layout.{fresh}
use Rattle.mappings.specs.Mapping.{Mapped, sources, sources_apart, mapped_below, mapping_below}
use Rattle.mappings.specs.Layout.{place_in, mapped_of, decode}
use Rattle.mappings.specs.declared.Source.{Source}
use Rattle.mappings.specs.declared.Mapping.{Mapping}
use Rattle.mappings.proofs.Targets.{mapped-length, mapped-source, mapped-target, decode-length, decode-at, decode-source}

-- target k of a source is below n
abbrev pub TargetBelow : ℕ → Source → ℕ → Bool
TargetBelow n r k = ltb (get_or r.targets k 0) n

-- source i of a mapping is below n, with its targets
abbrev pub SourceBelow : ℕ → Mapping → ℕ → Bool
SourceBelow n m i = mapped_below n (mapped_of (place_in m i))

-- source i is not source k
abbrev pub Unlike : Mapping → ℕ → ℕ → Bool
Unlike m k i = not (eqb (place_in m i).expr (place_in m k).expr)

-- a source and its targets below n
pub below_of : (n : ℕ) (r : Source) → mapped_below n (mapped_of r) ≡ (ltb r.expr n && each (TargetBelow n r) r.size)
unfolding mapped_below
below_of n r =
    ap₂ (λ (a b : Bool). a && b) (ap (λ (e : ℕ). ltb e n) (mapped-source r))
    (ap (each (λ k. ltb (get_or (mapped_of r).targets k 0) n)) (mapped-length r)
    ∙ each_cong (λ k. ltb (get_or (mapped_of r).targets k 0) n) (TargetBelow n r) r.size (λ k l. ap (λ (e : ℕ). ltb e n) (mapped-target r k l)))

-- a source that is not
pub source-outside : (n : ℕ) (r : Source) → n ≤ r.expr → false ≡ mapped_below n (mapped_of r)
source-outside n r l = sym (below_of n r ∙ and_fails_left (ltb r.expr n) (each (TargetBelow n r) r.size) (le-ltb r.expr n l))

-- what it says
pub below-expr : (n : ℕ) (r : Source) → mapped_below n (mapped_of r) ≡ true → r.expr < n
below-expr n r h = ltb-true r.expr n (and_left (ltb r.expr n) (each (TargetBelow n r) r.size) (sym (below_of n r) ∙ h))

pub below-target : (n : ℕ) (r : Source) → mapped_below n (mapped_of r) ≡ true → (k : ℕ) → k < r.size → get_or r.targets k 0 < n
below-target n r h k l =
    ltb-true (get_or r.targets k 0) n (each_holds (TargetBelow n r) r.size k (and_right (ltb r.expr n) (each (TargetBelow n r) r.size) (sym (below_of n r) ∙ h)) l)

module _ (m : Mapping) where
  -- all of them
  pub mapping_below-of : (n : ℕ) → mapping_below n (decode m) ≡ each (SourceBelow n m) m.count
  unfolding mapping_below
  mapping_below-of n =
      let d : Mapped = record { source = 0; targets = [] } in
      ap (each (λ i. mapped_below n (get_or (decode m) i d))) (decode-length m)
      ∙ each_cong (λ i. mapped_below n (get_or (decode m) i d)) (SourceBelow n m) m.count (λ i l. ap (λ (p : Mapped). mapped_below n p) (decode-at m i d l))

  -- source k does not stand before its place
  pub fresh-of : (k : ℕ) → k < m.count → fresh (sources (decode m)) k ≡ each (Unlike m k) k
  unfolding fresh
  fresh-of k l =
      each_cong (λ i. not (eqb (get_or (sources (decode m)) i 0) (get_or (sources (decode m)) k 0))) (Unlike m k) k
      (λ i b. ap₂ (λ (x y : ℕ). not (eqb x y)) (decode-source m i (omega arith)) (decode-source m k l))

  -- no source stands twice
  pub apart_of : sources_apart (decode m) ≡ each (λ k. fresh (sources (decode m)) k) m.count
  unfolding sources_apart
  apart_of = ap (each (λ k. fresh (sources (decode m)) k)) (decode-length m)
