-- `ordering_joins::joining::suffix` meets its contract.
use Rattle.ordering_joins.specs.Inner.{Suffixing}
use Rattle.ordering_joins.proofs.joining.suffix.Given as goal

abbrev pub invariant-loop-i : goal.invariant-loop-i
invariant-loop-i l = Suffixing l.initial.list l.g l.p l.i l.list
