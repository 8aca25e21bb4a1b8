-- `galthumir::orders::galthumir_extend_orderings` meets its contract.
use mathlib.Core.Path.{sym, subst}
use Rattle.states.specs.Inner.{ListFitsIfDone}
use Rattle.state_laws.proofs.ListFit.{extend_fits}
use Rattle.galthumir.proofs.orders.galthumir_extend_orderings.Goals as goal

pub store_orderings-requires : goal.store_orderings-requires
store_orderings-requires c = subst ListFitsIfDone (sym c.extend-listed.ensures) (extend_fits _ _ _)

pub returns : goal.returns
returns c = rw (c.extend-listed.ensures, c.load_orderings.ensures) at c.store_orderings.ensures
