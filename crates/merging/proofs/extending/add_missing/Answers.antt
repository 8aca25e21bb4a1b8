-- `merging::extending::add_missing` meets its contract.
use native.Mathlib.Omega.{arith}
use Rattle.classes.proofs.Rebuilding.{start-inside}
use Rattle.merging.proofs.Missing.{member-inside, next-held, next-new, next-room}
use Rattle.merging.proofs.extending.add_missing.Goals as goal

pub class_start-start-requires : goal.class_start-start-requires
class_start-start-requires c = start-inside c.args.g c.requires.0.0 c.args.j c.requires.0.1.1

pub overflow_add-e : goal.overflow_add-e
overflow_add-e c =
    omega (arith, member-inside c.args.g c.requires.0.0 c.args.i c.args.j c.args.k c.requires.1.0 c.args.out c.requires.1.1 c.class_start-start.result c.class_start-start.ensures)

pub offset_bounds-g-start : goal.offset_bounds-g-start
offset_bounds-g-start c =
    omega (arith, member-inside c.args.g c.requires.0.0 c.args.i c.args.j c.args.k c.requires.1.0 c.args.out c.requires.1.1 c.class_start-start.result c.class_start-start.ensures)

pub bounds-g-start : goal.bounds-g-start
bounds-g-start c =
    omega (arith, member-inside c.args.g c.requires.0.0 c.args.i c.args.j c.args.k c.requires.1.0 c.args.out c.requires.1.1 c.class_start-start.result c.class_start-start.ensures)

pub class_holds-requires : goal.class_holds-requires
class_holds-requires c = (c.requires.0.0, c.requires.0.1.0)

pub returns-then-class_holds : goal.returns-then-class_holds
returns-then-class_holds c =
    let start = c.class_start-start in
    let h = c.class_holds in
    next-held c.args.g c.requires.0.0 c.args.i c.args.j c.args.k c.requires.1.0 c.args.out c.requires.1.1 start.result start.ensures h.result h.ensures c.if-class_holds.true

pub append_member-requires : goal.append_member-requires
append_member-requires c =
    next-room c.args.g c.requires.0.0 c.args.i c.args.j c.args.k c.requires.1.0 c.args.out c.requires.1.1

pub returns : goal.returns
returns c =
    let start = c.class_start-start in
    let h = c.class_holds in
    next-new c.args.g c.requires.0.0 c.args.i c.args.j c.args.k c.requires.1.0 c.args.out c.requires.1.1 start.result start.ensures h.result h.ensures c.if-class_holds.false c.append_member.result c.append_member.ensures
