-- The mapping in a struct by its places: a source with its targets, and the sources.
use Prim.Native.Nat.{ℕ, ◌<◌}
use mathlib.Core.List.{List, []}
use mathlib.Core.Path.{◌≡◌, refl, ap, ◌∙◌}
use native.Mathlib.Omega.{arith}
use lib.ListN.{length, get_or, length-map, get_or-map}
use Rattle.laws.proofs.Table.{length-table, get_or-table}
use Rattle.mappings.specs.Mapping.{Mapped, sources, mapped_at}
use Rattle.mappings.specs.Layout.{place_in, mapped_of, decode}
use Rattle.mappings.specs.declared.Source.{Source}
use Rattle.mappings.specs.declared.Mapping.{Mapping}

-- a source in its place: how many targets it has, its expression, and its target k
module _ (r : Source) where
  pub mapped-length : length (mapped_of r).targets ≡ r.size
  unfolding mapped_of
  mapped-length = length-table (λ k. get_or r.targets k 0) r.size

  pub mapped-source : (mapped_of r).source ≡ r.expr
  unfolding mapped_of
  mapped-source = refl

  pub mapped-target : (k : ℕ) → k < r.size → get_or (mapped_of r).targets k 0 ≡ get_or r.targets k 0
  unfolding mapped_of
  mapped-target k l = get_or-table (λ k. get_or r.targets k 0) r.size k 0 l

  -- its targets are below what each place is below
  pub targets-below : (n : ℕ) → ((k : ℕ) → k < r.size → get_or r.targets k 0 < n) → (k : ℕ) → k < length (mapped_of r).targets → get_or (mapped_of r).targets k 0 < n
  targets-below n h k l = let b : k < r.size = omega (arith, mapped-length) in omega (arith, mapped-target k b, h k b)

-- the sources of a mapping: as many, and source i
pub length-sources : (ps : List Mapped) → length (sources ps) ≡ length ps
unfolding sources
length-sources ps = length-map ps (λ (p : Mapped). p.source)

pub source-at : (ps : List Mapped) (i : ℕ) → get_or (sources ps) i 0 ≡ (mapped_at ps i).source
unfolding sources
source-at ps i = get_or-map (λ (p : Mapped). p.source) ps i (record { source = 0; targets = [] })

-- the mapping in a struct: how many sources it has, source i, and their expressions
module _ (m : Mapping) where
  pub decode-length : length (decode m) ≡ m.count
  unfolding decode
  decode-length = length-table (λ i. mapped_of (place_in m i)) m.count

  pub decode-at : (i : ℕ) (d : Mapped) → i < m.count → get_or (decode m) i d ≡ mapped_of (place_in m i)
  unfolding decode
  decode-at i d l = get_or-table (λ i. mapped_of (place_in m i)) m.count i d l

  pub decode-sources : length (sources (decode m)) ≡ m.count
  decode-sources = length-sources (decode m) ∙ decode-length

  pub decode-source : (i : ℕ) → i < m.count → get_or (sources (decode m)) i 0 ≡ (place_in m i).expr
  decode-source i l = source-at (decode m) i ∙ ap (λ (p : Mapped). p.source) (decode-at i (record { source = 0; targets = [] }) l) ∙ mapped-source (place_in m i)
