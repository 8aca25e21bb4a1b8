-- `ordering_joins::joining::join_lists` meets its contract.
use Rattle.ordering_joins.specs.Inner.{Joined}
use Rattle.ordering_joins.proofs.joining.join_lists.Given as goal

abbrev pub invariant-loop-j : goal.invariant-loop-j
invariant-loop-j l = Joined l.g l.h l.j l.list
