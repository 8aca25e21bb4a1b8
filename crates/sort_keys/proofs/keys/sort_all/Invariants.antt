-- `sort_keys::keys::sort_all` meets its contract.
use Rattle.sort_keys.proofs.Sorting.{SortedTo}
use Rattle.sort_keys.proofs.keys.sort_all.Given as goal

abbrev pub invariant-loop-k : goal.invariant-loop-k
invariant-loop-k l = SortedTo l.old l.firsts l.marks l.initial.cells l.cells l.memo l.keys l.out l.k
