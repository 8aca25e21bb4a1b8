-- `galthumir::orders::galthumir_clear_orderings` meets its contract.
use mathlib.Core.Path.{sym, subst}
use Rattle.states.specs.Inner.{ListFitsIfDone}
use Rattle.state_laws.proofs.ListFit.{clear-fits}
use Rattle.galthumir.proofs.orders.galthumir_clear_orderings.Goals as goal

pub store_orderings-requires : goal.store_orderings-requires
store_orderings-requires c = subst ListFitsIfDone (sym c.clear-listed.ensures) (clear-fits _ _)

pub returns : goal.returns
returns c = rw (c.clear-listed.ensures, c.load_orderings.ensures) at c.store_orderings.ensures
