-- `classes::building::merge_last` meets its contract.
use Prim.Native.Nat.{◌-◌}
use native.Mathlib.Omega.{arith}
use Rattle.classes.proofs.Rebuilding.{start-inside, copy-inside, grown-fits, merge_made}
use Rattle.classes.proofs.building.merge_last.Goals as goal

pub class_start-start-requires : goal.class_start-start-requires
class_start-start-requires c =
    start-inside c.args.src c.requires.0.src_coded c.args.j c.requires.0.there

pub constant_of-requires : goal.constant_of-requires
constant_of-requires c = (c.requires.0.out-coded, omega (arith, c.requires.1))

pub constant_of-requires-2 : goal.constant_of-requires-2
constant_of-requires-2 c = (c.requires.0.src_coded, c.requires.0.there)

pub copy_members-members-requires : goal.copy_members-members-requires
copy_members-members-requires c =
    copy-inside c.args.out c.args.src c.args.j c.requires.0 c.class_start-start.result c.class_start-start.ensures

pub overflow_add-grown : goal.overflow_add-grown
overflow_add-grown c =
    omega (arith, grown-fits c.args.out c.args.src c.args.j c.requires.0 (c.args.out.count - 1))

pub returns : goal.returns
returns c =
    merge_made c.args.out c.args.src c.args.j c.requires.0 c.class_start-start.result c.copy_members-members.result c.flavour.result c.value.result _ _ _ c.requires.1 c.class_start-start.ensures c.copy_members-members.ensures c.constant_of.ensures c.constant_of-2.ensures c.taken_over-constant.ensures c.flavour.ensures c.value.ensures
