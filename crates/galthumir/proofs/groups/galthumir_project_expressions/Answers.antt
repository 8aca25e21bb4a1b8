-- `galthumir::groups::galthumir_project_expressions` meets its contract.
use Rattle.galthumir.proofs.Shapes.{projected-listed, list-told}
use Rattle.galthumir.proofs.groups.galthumir_project_expressions.Goals as goal

pub returns : goal.returns
returns c =
    list-told _ _ _ _ _ (rw c.load_group.ensures at c.project_expressions.ensures) (projected-listed _ _ _ _ _) c.number_of.ensures
