-- `galthumir::orders::galthumir_new_orderings` meets its contract.
use mathlib.Core.Path.{sym, subst}
use Rattle.states.specs.Inner.{ListFitsIfDone}
use Rattle.state_laws.proofs.ListFit.{new-fits}
use Rattle.galthumir.proofs.orders.galthumir_new_orderings.Goals as goal

pub store_orderings-requires : goal.store_orderings-requires
store_orderings-requires c = subst ListFitsIfDone (sym c.new-listed.ensures) (new-fits _ _)

pub returns : goal.returns
returns c = rw c.new-listed.ensures at c.store_orderings.ensures
