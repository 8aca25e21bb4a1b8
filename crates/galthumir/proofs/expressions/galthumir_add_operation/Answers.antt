-- `galthumir::expressions::galthumir_add_operation` meets its contract.
use Rattle.galthumir.proofs.Shapes.{on-first}
use Rattle.galthumir.proofs.expressions.galthumir_add_operation.Goals as goal

pub returns : goal.returns
returns c = on-first _ _ _ _ _ c.add_operation-added.ensures c.put_added.ensures
