-- A mapping lent as numbers: for each source the source, its target count and its targets, directly after the source before.
use Rattle.std.specs.Prelude.{ℕ, ◌+◌, ◌<◌, Bool, not, ◌&&◌, List, eqb, ltb, leb, length, get_or}
use Rattle.std.proofs.Common.{arith}
use Rattle.laws.specs.Lists.{table}
use Rattle.laws.specs.Parts.{parts, each_part}
use Rattle.mappings.specs.Mapping.{Mapped, sources_apart}

-- the target count of the source at a place; past the end, 0
abbrev pub target_count : List ℕ → ℕ → ℕ
target_count numbers at = get_or numbers (at + 1) 0

-- its target k
abbrev pub target_lent : List ℕ → ℕ → ℕ → ℕ
target_lent numbers at k = get_or numbers (at + 2 + k) 0

-- where the source after the one at a place begins
unfoldable pub next_source : List ℕ → ℕ → ℕ
next_source numbers at = at + 2 + target_count numbers at

-- it begins after that place
pub next-after : (numbers : List ℕ) (at : ℕ) → at < next_source numbers at
unfolding next_source
next-after numbers at = omega arith

-- a test holds for each source from a place on, told by its place
abbrev pub each_from : (ℕ → Bool) → List ℕ → ℕ → Bool
each_from p numbers at = each_part p (next_source numbers) (length numbers) at

-- the source at a place says that it has no targets. A count that is not there says nothing
unfoldable pub empty_at : List ℕ → ℕ → Bool
empty_at numbers at = ltb (at + 1) (length numbers) && eqb (target_count numbers at) 0

-- no source says so (else 12)
unfoldable pub targets_given : List ℕ → Bool
targets_given numbers = each_from (λ at. not (empty_at numbers at)) numbers 0

-- the source at a place has at most 8 targets, and they are there
unfoldable pub whole_at : List ℕ → ℕ → Bool
whole_at numbers at = leb (next_source numbers at) (length numbers) && leb (target_count numbers at) 8

-- so has each (else 11)
unfoldable pub whole : List ℕ → Bool
whole numbers = each_from (whole_at numbers) numbers 0

-- the source at a place with its targets
unfoldable pub mapped_lent : List ℕ → ℕ → Mapped
mapped_lent numbers at = record { source = get_or numbers at 0; targets = table (λ k. target_lent numbers at k) (target_count numbers at) }

-- the mapping from a place on
abbrev pub mapping_from : List ℕ → ℕ → List Mapped
mapping_from numbers at = parts (mapped_lent numbers) (next_source numbers) (length numbers) at

-- the mapping that is lent
unfoldable pub mapping_lent : List ℕ → List Mapped
mapping_lent numbers = mapping_from numbers 0

-- document 01's rule 11 for a lent mapping (else 11): nothing cut, at most 8 targets each, at most 64 sources, none twice
unfoldable pub lawful_mapping : List ℕ → Bool
lawful_mapping numbers = whole numbers && leb (length (mapping_lent numbers)) 64 && sources_apart (mapping_lent numbers)
