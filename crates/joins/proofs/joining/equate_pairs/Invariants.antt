-- `joins::joining::equate_pairs` meets its contract.
use Rattle.joins.proofs.Joins.{EquatedTo}
use Rattle.joins.proofs.joining.equate_pairs.Given as goal

abbrev pub invariant-loop-k : goal.invariant-loop-k
invariant-loop-k l = EquatedTo l.lift l.initial.cells l.g l.pairs l.cells l.memo l.out l.k
