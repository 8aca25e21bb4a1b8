-- `ordering_joins::offsetting::shift_keys` meets its contract.
use Rattle.ordering_joins.proofs.KeyWalk.{KeysTo}
use Rattle.ordering_joins.proofs.offsetting.shift_keys.Given as goal

abbrev pub invariant-loop-k : goal.invariant-loop-k
invariant-loop-k l = KeysTo l.lift l.initial.cells l.cells l.memo l.o l.out l.k
