-- `galthumir::groups::galthumir_open_group` meets its contract.
use mathlib.Core.Path.{sym, subst}
use Rattle.group_states.specs.Inner.{FitsIfDone}
use Rattle.state_laws.proofs.GroupFit.{opened-fits}
use Rattle.galthumir.proofs.groups.galthumir_open_group.Goals as goal

pub store_group-requires : goal.store_group-requires
store_group-requires c = subst FitsIfDone (sym c.open_group-opened.ensures) (opened-fits _)

pub returns : goal.returns
returns c = rw (c.open_group-opened.ensures, c.wide.ensures) at c.store_group.ensures
