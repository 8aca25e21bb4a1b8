-- `galthumir::maps::galthumir_construct_prefix_orderings` meets its contract.
use Rattle.galthumir.proofs.Shapes.{on-first}
use Rattle.galthumir.proofs.maps.galthumir_construct_prefix_orderings.Goals as goal

pub returns : goal.returns
returns c = on-first _ _ _ _ _ (rw c.load_map.ensures at c.construct_prefix_orderings-enumerated.ensures) c.put_enumerated.ensures
