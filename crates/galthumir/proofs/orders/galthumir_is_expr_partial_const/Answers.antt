-- `galthumir::orders::galthumir_is_expr_partial_const` meets its contract.
use Rattle.galthumir.proofs.orders.galthumir_is_expr_partial_const.Goals as goal

pub returns : goal.returns
returns c = rw (c.is_expr_partial_const.ensures, c.load_orderings.ensures) at c.put_partial.ensures
