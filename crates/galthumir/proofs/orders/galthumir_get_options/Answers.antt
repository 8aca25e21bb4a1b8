-- `galthumir::orders::galthumir_get_options` meets its contract.
use Rattle.galthumir.proofs.orders.galthumir_get_options.Goals as goal

pub returns : goal.returns
returns c = rw (c.get_options.ensures, c.load_orderings.ensures) at c.put_options.ensures
