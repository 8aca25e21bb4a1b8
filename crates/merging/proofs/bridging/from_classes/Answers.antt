-- `merging::bridging::from_classes` meets its contract.
use Rattle.merging.proofs.Smaller.{kept-coded, from_is}
use Rattle.merging.proofs.bridging.from_classes.Goals as goal

pub drop_trivial-requires : goal.drop_trivial-requires
drop_trivial-requires c = c.requires

pub bridge_classes-requires : goal.bridge_classes-requires
bridge_classes-requires c = kept-coded c.args.list c.requires c.drop_trivial.result c.drop_trivial.ensures

pub returns : goal.returns
returns c = from_is c.args.list c.requires c.drop_trivial.result c.drop_trivial.ensures c.bridge_classes.result c.bridge_classes.ensures
