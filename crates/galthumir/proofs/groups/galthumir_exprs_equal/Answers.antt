-- `galthumir::groups::galthumir_exprs_equal` meets its contract.
use Rattle.galthumir.proofs.groups.galthumir_exprs_equal.Goals as goal

pub returns : goal.returns
returns c = rw (c.exprs_equal.ensures, c.load_group.ensures) at c.put_answer.ensures
