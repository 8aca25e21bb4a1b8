-- `ordering_joins::joining::output_in` meets its contract.
use Rattle.ordering_joins.specs.Inner.{Collecting}
use Rattle.ordering_joins.proofs.joining.output_in.Given as goal

abbrev pub invariant-loop-i : goal.invariant-loop-i
invariant-loop-i l = Collecting l.g l.i l.out
