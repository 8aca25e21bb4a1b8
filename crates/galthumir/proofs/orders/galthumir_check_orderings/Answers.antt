-- `galthumir::orders::galthumir_check_orderings` meets its contract.
use Rattle.std.proofs.Common.{ap, ◌∙◌}
use Rattle.arena.specs.Refusals.{number_of}
use Rattle.orderings.proofs.Asking.{list_number-listed}
use Rattle.states.specs.Orders.{orderings_from}
use Rattle.galthumir.proofs.orders.galthumir_check_orderings.Goals as goal

pub returns : goal.returns
returns c =
    c.number_of.ensures ∙ ap number_of (rw c.load_orderings.ensures at c.check.ensures) ∙ list_number-listed c.args.arena.now (orderings_from c.args.orderings.now)
