-- `galthumir::orders::galthumir_join_suffix` meets its contract.
use mathlib.Core.Path.{sym, subst}
use Rattle.states.specs.Inner.{ListFitsIfDone}
use Rattle.state_laws.proofs.ListFit.{suffix-fits}
use Rattle.galthumir.proofs.orders.galthumir_join_suffix.Goals as goal

pub store_orderings-requires : goal.store_orderings-requires
store_orderings-requires c = subst ListFitsIfDone (sym c.join_suffix-listed.ensures) (suffix-fits _ _ _)

pub returns : goal.returns
returns c = rw (c.join_suffix-listed.ensures, c.load_orderings-2.ensures, c.load_orderings.ensures) at c.store_orderings.ensures
