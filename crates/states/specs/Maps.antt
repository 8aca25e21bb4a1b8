-- A dependency map in 1,217 cells: its count, then for each of 64 keys the key, its target + 1 (0 for none), how many dependencies it has, and 16 places for them.
use Rattle.std.specs.Prelude.{ℕ, ◌+◌, ◌-◌, ◌*◌, not, List, ◌∷◌, eqb, get_or, if◌then◌else◌}
use Rattle.laws.specs.Lists.{table}
use Rattle.dependencies.specs.Layout.{place_in}
use Rattle.dependencies.specs.declared.DependencyNode.{DependencyNode}
use Rattle.dependencies.specs.declared.DependencyMap.{DependencyMap}
use Rattle.dependencies.specs.declared.Inserted.{Inserted}
use Rattle.states.specs.Cells.{part, in_row, told}

-- the key in the cells from one on
unfoldable pub node_from : List ℕ → ℕ → DependencyNode
node_from cells at =
    record {
      key = get_or cells at 0;
      projected = not (eqb (get_or cells (at + 1) 0) 0);
      target = get_or cells (at + 1) 0 - 1;
      size = get_or cells (at + 2) 0;
      dependencies = part cells (at + 3) 16;
    }

-- the cell of its target
unfoldable pub target_cell : DependencyNode → ℕ
target_cell n = if n.projected then n.target + 1 else 0

-- the cells of a key
unfoldable pub node_cells : DependencyNode → List ℕ
node_cells n = n.key ∷ target_cell n ∷ n.size ∷ n.dependencies

-- the map in its cells
unfoldable pub map_from : List ℕ → DependencyMap
map_from cells = record { count = get_or cells 0 0; list = table (λ i. node_from cells (1 + 19 * i)) 64 }

-- the cells of a map
unfoldable pub map_cells : DependencyMap → List ℕ
map_cells m = m.count ∷ in_row (λ i. node_cells (place_in m i)) 64

-- what an insert returns, and the cells afterwards: a refusal leaves them as they were
unfoldable pub stored_map : List ℕ → Inserted → ℕ × List ℕ
stored_map cells i = told (λ _. map_cells i.map) cells i.done
