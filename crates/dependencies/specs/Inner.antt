-- What the inner functions ask and promise each other. The public contracts cite nothing of this file.
use Rattle.std.specs.Prelude.{ℕ, ◌<◌, ◌≤◌, ◌≡◌, leb, length, if◌then◌else◌, Option, Result, Ok, Err}
use Rattle.arena.specs.declared.Refusal.{Refusal}
use Rattle.arena.specs.declared.Refusal.TheVariants.{TooLarge}
use Rattle.dependencies.specs.Map.{with_dependency}
use Rattle.dependencies.specs.Layout.{row, entry_of, encode, decode, place_in}
use Rattle.dependencies.specs.declared.DependencyNode.{DependencyNode}
use Rattle.dependencies.specs.declared.DependencyMap.{DependencyMap}

-- the struct is the layout of an entry of at most 16 dependencies
pub record Coded (r : DependencyNode) : Type 0 where
  pub coded : row (entry_of r) ≡ r
  pub short : r.size ≤ 16

-- the struct is the layout of at most 64 entries of at most 16 dependencies
pub record Held (m : DependencyMap) : Type 0 where
  pub coded : encode (decode m) ≡ m
  pub few : m.count ≤ 64
  pub entries : (i : ℕ) → i < m.count → Coded (place_in m i)

-- an entry with a dependency more: none where it has no room for it
unfoldable pub extended_by : DependencyNode → Option ℕ → Result DependencyNode Refusal
extended_by r d =
    if leb (length (with_dependency (entry_of r).dependencies d)) 16
    then Ok (row (record { key = (entry_of r).key; target = (entry_of r).target; dependencies = with_dependency (entry_of r).dependencies d }))
    else Err TooLarge
