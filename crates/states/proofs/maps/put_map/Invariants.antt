-- `states::maps::put_map` meets its contract.
use Rattle.dependencies.specs.Layout.{place_in}
use Rattle.states.specs.Maps.{node_cells}
use Rattle.states.proofs.Stored.{Rows}
use Rattle.states.proofs.maps.put_map.Given as goal

abbrev pub invariant-loop-i : goal.invariant-loop-i
invariant-loop-i l = Rows (λ j. node_cells (place_in l.map j)) l.map.count 19 64 l.i l.cells
