-- `galthumir::expressions::galthumir_add_column` meets its contract.
use Rattle.galthumir.proofs.Shapes.{on-first}
use Rattle.galthumir.proofs.expressions.galthumir_add_column.Goals as goal

pub returns : goal.returns
returns c = on-first _ _ _ _ _ c.add_column-added.ensures c.put_added.ensures
