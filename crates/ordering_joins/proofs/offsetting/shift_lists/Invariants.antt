-- `ordering_joins::offsetting::shift_lists` meets its contract.
use Rattle.ordering_joins.proofs.KeyWalk.{ListsTo}
use Rattle.ordering_joins.proofs.offsetting.shift_lists.Given as goal

abbrev pub invariant-loop-i : goal.invariant-loop-i
invariant-loop-i l = ListsTo l.lift l.initial.cells l.cells l.memo l.g l.list l.i
