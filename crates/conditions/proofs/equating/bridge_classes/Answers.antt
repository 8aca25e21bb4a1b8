-- `conditions::equating::bridge_classes` meets its contract.
use Rattle.conditions.proofs.EquatingLaws.{bridge_asks, bridge_is}
use Rattle.conditions.proofs.equating.bridge_classes.Goals as goal

pub merge_class_at_idx-requires : goal.merge_class_at_idx-requires
merge_class_at_idx-requires c =
    let d = c.remove_class_at_idx-rest in
    bridge_asks c.args.g c.requires.0 c.args.low c.args.high c.requires.1.0 c.requires.1.1 d.result d.ensures

pub returns : goal.returns
returns c =
    let d = c.remove_class_at_idx-rest in
    bridge_is c.args.g c.requires.0 c.args.low c.args.high c.requires.1.0 c.requires.1.1 d.result d.ensures c.merge_class_at_idx.result c.merge_class_at_idx.ensures
