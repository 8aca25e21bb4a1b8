-- `dependency_orderings::writing::write_ordering` meets its contract.
use mathlib.Core.Path.{◌≡◌}
use Rattle.dependency_orderings.proofs.WrittenLaws.{begun_to}
use Rattle.dependency_orderings.proofs.writing.write_ordering.Given as goal

abbrev pub invariant-loop-k : goal.invariant-loop-k
invariant-loop-k l = (l.out ≡ begun_to l.o l.initial.out l.k)
