-- `dependency_orderings::gathering::gather` meets its contract.
use Rattle.dependency_orderings.proofs.GatherLaws.{Gone}
use Rattle.dependency_orderings.proofs.gathering.gather.Given as goal

abbrev pub invariant-loop-k : goal.invariant-loop-k
invariant-loop-k l = Gone l.m l.keys l.g l.k
