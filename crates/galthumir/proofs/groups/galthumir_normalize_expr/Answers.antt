-- `galthumir::groups::galthumir_normalize_expr` meets its contract.
use Rattle.galthumir.proofs.Shapes.{on-first}
use Rattle.galthumir.proofs.groups.galthumir_normalize_expr.Goals as goal

pub returns : goal.returns
returns c = on-first _ _ _ _ _ (rw c.load_group.ensures at c.normalize_expr-added.ensures) c.put_added.ensures
