-- `states::orders::ordering_from` meets its contract.
use Rattle.states.specs.Orders.{ordering_from}
use Rattle.states.proofs.orders.ordering_from.Goals as goal

pub returns : goal.returns
unfolding ordering_from
returns c = λ t. record { size = c.widened.ensures t; keys = c.keys_from.ensures t }
