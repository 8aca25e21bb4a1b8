-- `galthumir::groups::galthumir_is_expr_constant` meets its contract.
use Rattle.galthumir.proofs.groups.galthumir_is_expr_constant.Goals as goal

pub returns : goal.returns
returns c = rw (c.is_expr_constant.ensures, c.load_group.ensures) at c.put_constant.ensures
