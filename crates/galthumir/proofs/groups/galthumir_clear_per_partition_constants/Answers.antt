-- `galthumir::groups::galthumir_clear_per_partition_constants` meets its contract.
use mathlib.Core.Path.{sym, subst}
use Rattle.group_states.specs.Inner.{FitsIfDone}
use Rattle.state_laws.proofs.GroupFit.{clear-fits}
use Rattle.galthumir.proofs.groups.galthumir_clear_per_partition_constants.Goals as goal

pub put_changed-requires : goal.put_changed-requires
put_changed-requires c = subst FitsIfDone (sym c.clear_per_partition_constants-changed.ensures) (clear-fits _ _)

pub returns : goal.returns
returns c = rw (c.clear_per_partition_constants-changed.ensures, c.load_group.ensures) at c.put_changed.ensures
