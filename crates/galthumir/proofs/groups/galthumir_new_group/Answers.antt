-- `galthumir::groups::galthumir_new_group` meets its contract.
use mathlib.Core.Path.{sym, subst}
use Rattle.group_states.specs.Inner.{FitsIfDone}
use Rattle.state_laws.proofs.GroupFit.{new-fits}
use Rattle.galthumir.proofs.groups.galthumir_new_group.Goals as goal

pub store_group-requires : goal.store_group-requires
store_group-requires c = subst FitsIfDone (sym c.new-changed.ensures) (new-fits _ _)

pub returns : goal.returns
returns c = rw c.new-changed.ensures at c.store_group.ensures
