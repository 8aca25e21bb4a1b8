-- `merging::extending::push` meets its contract.
use Prim.Native.Nat.{◌-◌}
use native.Mathlib.Omega.{arith}
use Rattle.arena.specs.Node.{node_at}
use Rattle.arena.specs.Layout.{decode as nodes}
use Rattle.classes.specs.Class.{carried, single}
use Rattle.merging.proofs.Missing.{member-asks, member_is, push-held, push-new}
use Rattle.merging.proofs.extending.push.Goals as goal

pub overflow_sub-last : goal.overflow_sub-last
overflow_sub-last c = omega (arith, c.requires.0.1.0)

pub class_holds-requires : goal.class_holds-requires
class_holds-requires c = (c.requires.0.0, omega (arith, c.requires.0.1.0))

pub carried-requires : goal.carried-requires
carried-requires c = c.requires.1

pub set_constant-requires : goal.set_constant-requires
set_constant-requires c = (c.requires.0.0, omega (arith, c.requires.0.1.0))

pub returns-then-class_holds : goal.returns-then-class_holds
returns-then-class_holds c =
    let h = c.class_holds in
    let m = c.carried in
    push-held (nodes c.args.cells.now) c.args.out (c.args.out.count - 1) c.args.e h.result h.ensures c.if-class_holds.true m.result c.set_constant.result m.ensures c.set_constant.ensures

pub single_group-one-requires : goal.single_group-one-requires
single_group-one-requires c = c.requires.1

pub merge_last-requires : goal.merge_last-requires
unfolding single
merge_last-requires c =
    let o = c.single_group-one in
    member-asks c.args.out c.requires.0.0 c.requires.0.1.0 c.requires.0.1.1 o.result c.args.e (carried (node_at (nodes c.args.cells.now) c.args.e)) o.ensures

pub returns : goal.returns
unfolding single
returns c =
    let h = c.class_holds in
    let o = c.single_group-one in
    push-new (nodes c.args.cells.now) c.args.out (c.args.out.count - 1) c.args.e h.result h.ensures c.if-class_holds.false c.merge_last.result
    (member_is c.args.out c.requires.0.0 c.requires.0.1.0 c.requires.0.1.1 o.result c.args.e (carried (node_at (nodes c.args.cells.now) c.args.e)) o.ensures c.merge_last.result c.merge_last.ensures)
