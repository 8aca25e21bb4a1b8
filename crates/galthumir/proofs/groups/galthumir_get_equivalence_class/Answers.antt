-- `galthumir::groups::galthumir_get_equivalence_class` meets its contract.
use Rattle.galthumir.proofs.groups.galthumir_get_equivalence_class.Goals as goal

pub returns : goal.returns
returns c = rw (c.get_equivalence_class.ensures, c.load_group.ensures) at c.put_class_is.ensures
