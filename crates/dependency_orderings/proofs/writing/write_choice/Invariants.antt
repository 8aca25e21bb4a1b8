-- `dependency_orderings::writing::write_choice` meets its contract.
use lib.ListN.{drop}
use Rattle.products.specs.Generate.{in_all_orders}
use Rattle.products.specs.Inner.{choice_of}
use Rattle.dependency_orderings.proofs.WrittenLaws.{WritingOrders}
use Rattle.dependency_orderings.proofs.writing.write_choice.Given as goal

abbrev pub invariant-loop-number : goal.invariant-loop-number
invariant-loop-number l = WritingOrders (in_all_orders (choice_of l.c)) (drop l.number (in_all_orders (choice_of l.c))) l.initial.out l.out l.at
