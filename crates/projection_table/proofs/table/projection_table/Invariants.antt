-- `projection_table::table::projection_table` meets its contract.
use Prim.Native.Nat.{ℕ, ◌<◌}
use mathlib.Core.List.{List}
use mathlib.Core.Path.{◌≡◌}
use lib.ListN.{length, get_or}
use Rattle.arena.specs.Layout.{decode as nodes}
use Rattle.classes.specs.Layout.{decode as classes}
use Rattle.classes.specs.declared.Group.{Group}
use Rattle.mappings.specs.Layout.{decode}
use Rattle.mappings.specs.declared.Mapping.{Mapping}
use Rattle.projection_table.specs.Projecting.{projections}
use Rattle.projection_table.specs.Inner.{Says}
use Rattle.projection_table.proofs.table.projection_table.Given as goal

-- what an entry says of node j is true
abbrev pub Entry : List ℕ → Group → Mapping → ℕ → ℕ → Type 0
Entry cells g m j entry = Says (nodes cells) (projections (nodes cells) (classes g) (decode m)) (nodes cells) j entry

abbrev pub invariant-loop-e : goal.invariant-loop-e
invariant-loop-e l = (length l.table ≡ 1024) × ((j : ℕ) → j < l.e → Entry l.cells l.g l.m j (get_or l.table j 0))
