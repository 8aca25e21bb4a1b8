-- A projection mapping: sources in their order, each with its targets. What a source becomes stands in an output schema, and its first target is what an expression is projected to.
use Rattle.std.specs.Prelude.{ℕ, Bool, ◌&&◌, List, [], ◌∷◌, map, ltb, length, get_or, if◌then◌else◌, Option, None, Some}
use Rattle.laws.specs.Tests.{each}
use Rattle.classes.specs.Layout.{fresh}

-- a source and its targets
pub record Mapped : Type 0 where
  pub source : ℕ
  pub targets : List ℕ

-- the first target
abbrev pub first_target : Mapped → ℕ
first_target p = get_or p.targets 0 0

-- the sources, in their order
unfoldable pub sources : List Mapped → List ℕ
sources ps = map (λ (p : Mapped). p.source) ps

-- the first target of the first source that passes a test
unfoldable pub target_for : (ℕ → Bool) → List Mapped → Option ℕ
target_for test [] = None
target_for test (p ∷ ps) = if test p.source then Some (first_target p) else target_for test ps

-- the source at a place with its targets; past the end, which no call asks for, one without
abbrev pub mapped_at : List Mapped → ℕ → Mapped
mapped_at ps i = get_or ps i (record { source = 0; targets = [] })

-- no source twice (else 11)
unfoldable pub sources_apart : List Mapped → Bool
sources_apart ps = each (λ k. fresh (sources ps) k) (length ps)

-- a source and its targets are among the first n
unfoldable pub mapped_below : ℕ → Mapped → Bool
mapped_below n p = ltb p.source n && each (λ k. ltb (get_or p.targets k 0) n) (length p.targets)

-- so are all (else 1)
unfoldable pub mapping_below : ℕ → List Mapped → Bool
mapping_below n ps = each (λ i. mapped_below n (mapped_at ps i)) (length ps)
