-- `galthumir::groups::galthumir_add_constant` meets its contract.
use mathlib.Core.Path.{sym, subst}
use Rattle.group_states.specs.Inner.{FitsIfDone}
use Rattle.state_laws.proofs.GroupFit.{constant-fits}
use Rattle.galthumir.proofs.groups.galthumir_add_constant.Goals as goal

pub store_group-requires : goal.store_group-requires
store_group-requires c = subst FitsIfDone (sym c.add_constant-changed.ensures) (constant-fits _ _ _ _ _)

pub returns : goal.returns
returns c = rw (c.add_constant-changed.ensures, c.load_group.ensures) at c.store_group.ensures
