-- `merging::extending::extend` meets its contract.
use native.Mathlib.Omega.{arith}
use Rattle.merging.proofs.Missing.{extend-asks, extend-is}
use Rattle.merging.proofs.extending.extend.Goals as goal

pub missing_class-more-requires : goal.missing_class-more-requires
missing_class-more-requires c = (c.requires.0, (omega (arith, c.requires.1.0, c.requires.1.1), c.requires.1.1))

pub remove_class_at_idx-rest-requires : goal.remove_class_at_idx-rest-requires
remove_class_at_idx-rest-requires c = (c.requires.0, c.requires.1.1)

pub merge_class_at_idx-requires : goal.merge_class_at_idx-requires
merge_class_at_idx-requires c =
    let m = c.missing_class-more in
    let d = c.remove_class_at_idx-rest in
    extend-asks c.args.g c.requires.0 c.args.i c.args.j c.requires.1.0 c.requires.1.1 m.result m.ensures d.result d.ensures

pub returns : goal.returns
returns c =
    let m = c.missing_class-more in
    let d = c.remove_class_at_idx-rest in
    extend-is c.args.g c.requires.0 c.args.i c.args.j c.requires.1.0 c.requires.1.1 m.result m.ensures d.result d.ensures c.merge_class_at_idx.result c.merge_class_at_idx.ensures
