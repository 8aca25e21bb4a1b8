-- `dependency_orderings::writing::measure_choice` meets its contract.
use Prim.Native.Nat.{◌*◌, ◌≤◌}
use lib.ListN.{drop}
use Rattle.products.specs.Generate.{in_all_orders}
use Rattle.products.specs.Inner.{choice_of}
use Rattle.dependency_orderings.proofs.Measures.{Measuring}
use Rattle.dependency_orderings.proofs.writing.measure_choice.Given as goal

abbrev pub invariant-loop-k : goal.invariant-loop-k
invariant-loop-k l = (Measuring (in_all_orders (choice_of l.c)) (drop l.k (in_all_orders (choice_of l.c))) l.total × (l.total ≤ 33 * l.k))
