-- `galthumir::groups::galthumir_normalize_sort_expr` meets its contract.
use Rattle.galthumir.proofs.Shapes.{on-first}
use Rattle.galthumir.proofs.groups.galthumir_normalize_sort_expr.Goals as goal

pub returns : goal.returns
returns c = on-first _ _ _ _ _ (rw c.load_group.ensures at c.normalize_sort_expr-key.ensures) c.put_key.ensures
