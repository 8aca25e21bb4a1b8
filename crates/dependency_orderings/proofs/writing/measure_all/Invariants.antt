-- `dependency_orderings::writing::measure_all` meets its contract.
use Prim.Native.Nat.{◌*◌, ◌≤◌}
use lib.ListN.{drop}
use Rattle.products.specs.Orders.{product}
use Rattle.products.specs.Generate.{all_orders}
use Rattle.products.specs.Inner.{lists_of}
use Rattle.dependency_orderings.proofs.Measures.{Measuring}
use Rattle.dependency_orderings.proofs.writing.measure_all.Given as goal

abbrev pub invariant-loop-k : goal.invariant-loop-k
invariant-loop-k l = (Measuring (all_orders (product (lists_of l.l))) (all_orders (drop l.k (product (lists_of l.l)))) l.total × (l.total ≤ 23760 * l.k))
