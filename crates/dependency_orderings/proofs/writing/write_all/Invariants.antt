-- `dependency_orderings::writing::write_all` meets its contract.
use lib.ListN.{drop}
use Rattle.products.specs.Orders.{product}
use Rattle.products.specs.Generate.{all_orders}
use Rattle.products.specs.Inner.{lists_of}
use Rattle.dependency_orderings.proofs.WrittenLaws.{WritingOrders}
use Rattle.dependency_orderings.proofs.writing.write_all.Given as goal

abbrev pub invariant-loop-k : goal.invariant-loop-k
invariant-loop-k l = WritingOrders (all_orders (product (lists_of l.l))) (all_orders (drop l.k (product (lists_of l.l)))) l.initial.out l.out l.at
