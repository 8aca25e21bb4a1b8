-- `group_records::group::literals_uniform` meets its contract.
use Prim.Native.Nat.{◌<◌}
use mathlib.Core.Path.{sym, ◌∙◌}
use native.Mathlib.Omega.{arith}
use lib.ListN.{length}
use Rattle.laws.proofs.Each.{each_none, each_more, each-stops, each-ends}
use Rattle.arena.specs.Layout.{decode as nodes}
use Rattle.group_records.specs.GroupRecord.{literals_uniform}
use Rattle.group_records.specs.Inner.{given_of}
use Rattle.group_records.proofs.GroupWalk.{Uniform, before-start, turn, uniform-at}
use Rattle.group_records.proofs.group.literals_uniform.Goals as goal

pub class_count-n-requires : goal.class_count-n-requires
class_count-n-requires c =
    c.requires.1

pub loop-j-init : goal.loop-j-init
loop-j-init c =
    let b = c.args.body.now in
    (before-start b c.requires.1, each_none (Uniform (nodes c.args.cells.now) b))

pub member_count-m-requires : goal.member_count-m-requires
member_count-m-requires c =
    let b = c.args.body.now in
    let l = c.loop-j in
    let k : l._j < length (given_of b) = omega (arith, c.loop-j-test.true, c.class_count-n.ensures) in
    let t = turn b l._j l.at l.invariant.0 k in
    t.head

pub overflow_add-at : goal.overflow_add-at
overflow_add-at c =
    let b = c.args.body.now in
    let l = c.loop-j in
    let k : l._j < length (given_of b) = omega (arith, c.loop-j-test.true, c.class_count-n.ensures) in
    let t = turn b l._j l.at l.invariant.0 k in
    let h = t.head in
    omega arith

pub field-requires : goal.field-requires
field-requires c =
    let b = c.args.body.now in
    let l = c.loop-j in
    let k : l._j < length (given_of b) = omega (arith, c.loop-j-test.true, c.class_count-n.ensures) in
    let t = turn b l._j l.at l.invariant.0 k in
    omega (arith, t.head)

pub members_fit-requires : goal.members_fit-requires
members_fit-requires c =
    let b = c.args.body.now in
    let l = c.loop-j in
    let k : l._j < length (given_of b) = omega (arith, c.loop-j-test.true, c.class_count-n.ensures) in
    let t = turn b l._j l.at l.invariant.0 k in
    (c.requires.0, omega (arith, t.whole, c.member_count-m.ensures.0))

pub returns-then-not-members_fit : goal.returns-then-not-members_fit
unfolding literals_uniform
returns-then-not-members_fit c =
    let b = c.args.body.now in
    let l = c.loop-j in
    let k : l._j < length (given_of b) = omega (arith, c.loop-j-test.true, c.class_count-n.ensures) in
    let t = turn b l._j l.at l.invariant.0 k in
    let ns = nodes c.args.cells.now in
    each-stops (Uniform ns b) (length (given_of b)) l._j k (uniform-at b l._j l.at t ns c.from.result c.member_count-m.result (c.from.ensures ∙ c.field.ensures) c.member_count-m.ensures.0 ∙ sym c.members_fit.ensures ∙ c.if-not-members_fit.true)

pub overflow_add-at-in-loop-j-2 : goal.overflow_add-at-in-loop-j-2
overflow_add-at-in-loop-j-2 c =
    let b = c.args.body.now in
    let l = c.loop-j in
    let k : l._j < length (given_of b) = omega (arith, c.loop-j-test.true, c.class_count-n.ensures) in
    let t = turn b l._j l.at l.invariant.0 k in
    let h = t.whole in
    omega arith

pub loop-j-preserved : goal.loop-j-preserved
loop-j-preserved c =
    let b = c.args.body.now in
    let l = c.loop-j in
    let k : l._j < length (given_of b) = omega (arith, c.loop-j-test.true, c.class_count-n.ensures) in
    let t = turn b l._j l.at l.invariant.0 k in
    let ns = nodes c.args.cells.now in
    (rw c.member_count-m.ensures.0 t.next, each_more (Uniform ns b) l._j l.invariant.1 (uniform-at b l._j l.at t ns c.from.result c.member_count-m.result (c.from.ensures ∙ c.field.ensures) c.member_count-m.ensures.0 ∙ sym c.members_fit.ensures ∙ c.if-not-members_fit.false))

pub returns : goal.returns
unfolding literals_uniform
returns c =
    let b = c.args.body.now in
    let l = c.loop-j in
    each-ends (Uniform (nodes c.args.cells.now) b) (length (given_of b)) l._j l.invariant.0.below (omega (arith, c.loop-j-test.false, c.class_count-n.ensures)) l.invariant.1
