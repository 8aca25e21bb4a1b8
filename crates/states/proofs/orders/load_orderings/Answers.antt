-- `states::orders::load_orderings` meets its contract.
use Rattle.std.proofs.Common.{◌+◌, ◌*◌, [], rules, tests}
use Rattle.laws.proofs.RunsB.{table-from_fn}
use Rattle.orderings.specs.Layout.{row}
use Rattle.states.specs.Orders.{ordering_from, orderings_from}
use Rattle.states.proofs.orders.load_orderings.Goals as goal

pub returns : goal.returns
unfolding orderings_from
returns c =
    λ t. record {
      count = c.widened.ensures t;
      list = table-from_fn (λ i. ordering_from c.args.cells.now (1 + 17 * i)) 32 (row []) _ _ c.from_fn.ensures.items (λ x b q k. search (rules, tests)) t;
    }
