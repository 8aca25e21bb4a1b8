-- `galthumir::expressions::galthumir_add_offset_to_expr` meets its contract.
use mir.Facts.{to_z-of_z}
use Rattle.galthumir.proofs.Shapes.{on-first}
use Rattle.galthumir.proofs.expressions.galthumir_add_offset_to_expr.Goals as goal

pub returns : goal.returns
returns c = on-first _ _ _ _ _ (rw (to_z-of_z c.ranges.offset) at c.add_offset_to_expr-added.ensures) c.put_added.ensures
