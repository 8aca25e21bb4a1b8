-- `galthumir::groups::galthumir_project` meets its contract.
use Prim.Native.Nat.{ℕ}
use mathlib.Core.Path.{sym, subst}
use mathlib.Core.List.{List}
use Rattle.classes.specs.declared.Changed.{Changed}
use Rattle.group_states.specs.Inner.{FitsIfDone}
use Rattle.state_laws.proofs.GroupFit.{project-fits}
use Rattle.galthumir.proofs.Shapes.{on-first}
use Rattle.galthumir.proofs.groups.galthumir_project.Goals as goal

pub store_group-requires : goal.store_group-requires
store_group-requires c = subst (λ (o : Changed × List ℕ). FitsIfDone o.0) (sym c.project-changed.ensures) (project-fits _ _ _)

pub returns : goal.returns
returns c = on-first _ _ _ _ _ (rw c.load_group.ensures at c.project-changed.ensures) c.store_group.ensures
