-- `galthumir::expressions::galthumir_read_child` meets its contract.
use Rattle.galthumir.proofs.expressions.galthumir_read_child.Goals as goal

pub returns : goal.returns
returns c = rw c.read_child.ensures at c.put_child.ensures
