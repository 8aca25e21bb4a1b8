-- `classes::building::add_class` meets its contract.
use Rattle.classes.proofs.Rebuilding.{start-inside, copy-inside, add-made}
use Rattle.classes.proofs.building.add_class.Goals as goal

pub class_start-start-requires : goal.class_start-start-requires
class_start-start-requires c =
    start-inside c.args.src c.requires.0.src_coded c.args.j c.requires.0.there

pub copy_members-members-requires : goal.copy_members-members-requires
copy_members-members-requires c =
    copy-inside c.args.out c.args.src c.args.j c.requires.0 c.class_start-start.result c.class_start-start.ensures

pub returns : goal.returns
returns c =
    add-made c.args.out c.args.src c.args.j c.requires.0 c.class_start-start.result c.copy_members-members.result c.requires.1 c.class_start-start.ensures c.copy_members-members.ensures
