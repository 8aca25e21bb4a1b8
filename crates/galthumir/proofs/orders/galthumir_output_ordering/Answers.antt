-- `galthumir::orders::galthumir_output_ordering` meets its contract.
use Rattle.std.proofs.Common.{sym, ◌∙◌}
use Rattle.state_laws.proofs.ListFit.{output-fits}
use Rattle.galthumir.proofs.orders.galthumir_output_ordering.Goals as goal

pub put_output-requires : goal.put_output-requires
put_output-requires c o e = output-fits _ _ o (sym c.output_ordering.ensures ∙ e)

pub returns : goal.returns
returns c = rw (c.output_ordering.ensures, c.load_orderings.ensures) at c.put_output.ensures
