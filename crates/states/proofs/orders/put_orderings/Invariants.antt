-- `states::orders::put_orderings` meets its contract.
use Rattle.orderings.specs.Layout.{place_in}
use Rattle.states.specs.Orders.{ordering_cells}
use Rattle.states.proofs.Stored.{Rows}
use Rattle.states.proofs.orders.put_orderings.Given as goal

abbrev pub invariant-loop-i : goal.invariant-loop-i
invariant-loop-i l = Rows (λ j. ordering_cells (place_in l.orderings j)) l.orderings.count 17 32 l.i l.cells
