-- `galthumir::sessions::galthumir_read_group` meets its contract.
use mathlib.Core.Path.{sym, subst}
use Rattle.group_states.specs.Inner.{FitsIfDone}
use Rattle.state_laws.proofs.GroupFit.{read_fits}
use Rattle.galthumir.proofs.sessions.galthumir_read_group.Goals as goal

pub store_group-requires : goal.store_group-requires
store_group-requires c = subst FitsIfDone (sym c.read_group-changed.ensures) (read_fits _ _)

pub returns : goal.returns
returns c = rw c.read_group-changed.ensures at c.store_group.ensures
