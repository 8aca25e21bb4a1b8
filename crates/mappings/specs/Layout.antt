-- How a mapping lies in its struct: a place for each of 64 sources, the source, the number of its targets and 8 places for them.
use Rattle.std.specs.Prelude.{ℕ, ◌<◌, ◌≤◌, List, get_or, replicate}
use Rattle.laws.specs.Lists.{table}
use Rattle.mappings.specs.Mapping.{Mapped}
use Rattle.mappings.specs.declared.Source.{Source}
use Rattle.mappings.specs.declared.Mapping.{Mapping}

-- an unused place
abbrev pub unused : Source
unused = record { expr = 0; size = 0; targets = replicate {A = ℕ} 8 0 }

-- place i of a struct
abbrev pub place_in : Mapping → ℕ → Source
place_in m i = get_or m.list i unused

-- the source in a place with its targets
unfoldable pub mapped_of : Source → Mapped
mapped_of r = record { source = r.expr; targets = table (λ k. get_or r.targets k 0) r.size }

-- the mapping in a struct
unfoldable pub decode : Mapping → List Mapped
decode m = table (λ i. mapped_of (place_in m i)) m.count

-- the counts of a struct are within their bounds: 64 sources, 1 to 8 targets each
pub record Bounded (m : Mapping) : Type 0 where
  pub few : m.count ≤ 64
  pub some-target : (i : ℕ) → i < m.count → 0 < (place_in m i).size
  pub few-targets : (i : ℕ) → i < m.count → (place_in m i).size ≤ 8

-- a mapping that is checked: its counts, and each source and target among the first n
pub record Checked (n : ℕ) (m : Mapping) : Type 0 where
  pub bounded : Bounded m
  pub source-below : (i : ℕ) → i < m.count → (place_in m i).expr < n
  pub target_below : (i k : ℕ) → i < m.count → k < (place_in m i).size → get_or (place_in m i).targets k 0 < n
