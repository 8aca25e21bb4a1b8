-- `galthumir::groups::galthumir_project_expr` meets its contract.
use Rattle.galthumir.proofs.Shapes.{on-first}
use Rattle.galthumir.proofs.groups.galthumir_project_expr.Goals as goal

pub returns : goal.returns
returns c = on-first _ _ _ _ _ (rw c.load_group.ensures at c.project_expr-projected.ensures) c.put_projected.ensures
