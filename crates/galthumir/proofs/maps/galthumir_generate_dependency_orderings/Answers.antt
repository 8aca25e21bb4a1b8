-- `galthumir::maps::galthumir_generate_dependency_orderings` meets its contract.
use Rattle.galthumir.proofs.Shapes.{on-first}
use Rattle.galthumir.proofs.maps.galthumir_generate_dependency_orderings.Goals as goal

pub returns : goal.returns
returns c = on-first _ _ _ _ _ (rw c.load_map.ensures at c.generate_dependency_orderings-enumerated.ensures) c.put_enumerated.ensures
