-- `galthumir::groups::galthumir_add_equal_conditions` meets its contract.
use mathlib.Core.Path.{sym, subst}
use Rattle.group_states.specs.Inner.{FitsIfDone}
use Rattle.state_laws.proofs.GroupFit.{equal-fits}
use Rattle.galthumir.proofs.groups.galthumir_add_equal_conditions.Goals as goal

pub put_changed-requires : goal.put_changed-requires
put_changed-requires c = subst FitsIfDone (sym c.add_equal_conditions-changed.ensures) (equal-fits _ _ _ _)

pub returns : goal.returns
returns c = rw (c.add_equal_conditions-changed.ensures, c.load_group.ensures) at c.put_changed.ensures
