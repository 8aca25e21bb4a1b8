-- `galthumir::expressions::galthumir_read_node` meets its contract.
use Rattle.galthumir.proofs.expressions.galthumir_read_node.Goals as goal

pub returns : goal.returns
returns c = rw c.read_node.ensures at c.put_read.ensures
