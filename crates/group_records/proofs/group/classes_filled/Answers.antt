-- `group_records::group::classes_filled` meets its contract.
use Prim.Native.Nat.{◌<◌}
use mathlib.Core.Path.{◌∙◌}
use native.Mathlib.Omega.{arith}
use lib.ListN.{length}
use Rattle.laws.proofs.Each.{each_none, each_more, each-stops, each-ends}
use Rattle.group_records.specs.Inner.{given_of}
use borrow.Author.Tests.{lt-ltb, le-ltb}
use Rattle.group_records.specs.GroupRecord.{classes_filled}
use Rattle.group_records.proofs.GroupWalk.{Filled, before-start, turn, filled_at_lem}
use borrow.Author.Rules.{rules}
use Rattle.group_records.proofs.group.classes_filled.Goals as goal

pub loop-j-init : goal.loop-j-init
loop-j-init c =
    let b = c.args.body.now in
    (before-start b c.requires, each_none (Filled b))

pub member_count-requires : goal.member_count-requires
member_count-requires c =
    let b = c.args.body.now in
    let l = c.loop-j in
    let k : l._j < length (given_of b) = omega (arith, c.loop-j-test.true, c.class_count-n.ensures) in
    let t = turn b l._j l.at l.invariant.0 k in
    t.head

pub returns-then-member_count-eq0 : goal.returns-then-member_count-eq0
unfolding classes_filled
returns-then-member_count-eq0 c =
    let b = c.args.body.now in
    let l = c.loop-j in
    let k : l._j < length (given_of b) = omega (arith, c.loop-j-test.true, c.class_count-n.ensures) in
    let t = turn b l._j l.at l.invariant.0 k in
    each-stops (Filled b) (length (given_of b)) l._j k (filled_at_lem b l._j l.at t c.member_count.result c.member_count.ensures.0 ∙ le-ltb 0 c.member_count.result (omega (arith, c.if-member_count-eq0.true)))

pub member_count-requires-in-loop-j : goal.member_count-requires-in-loop-j
member_count-requires-in-loop-j c =
    let b = c.args.body.now in
    let l = c.loop-j in
    let k : l._j < length (given_of b) = omega (arith, c.loop-j-test.true, c.class_count-n.ensures) in
    let t = turn b l._j l.at l.invariant.0 k in
    t.head

pub overflow_add-at-in-loop-j : goal.overflow_add-at-in-loop-j
overflow_add-at-in-loop-j c =
    let b = c.args.body.now in
    let l = c.loop-j in
    let k : l._j < length (given_of b) = omega (arith, c.loop-j-test.true, c.class_count-n.ensures) in
    let t = turn b l._j l.at l.invariant.0 k in
    let h = t.whole in
    search rules

pub loop-j-preserved : goal.loop-j-preserved
loop-j-preserved c =
    let b = c.args.body.now in
    let l = c.loop-j in
    let k : l._j < length (given_of b) = omega (arith, c.loop-j-test.true, c.class_count-n.ensures) in
    let t = turn b l._j l.at l.invariant.0 k in
    (rw c.member_count-in-loop-j.ensures.0 t.next, each_more (Filled b) l._j l.invariant.1 (filled_at_lem b l._j l.at t c.member_count.result c.member_count.ensures.0 ∙ lt-ltb 0 c.member_count.result (omega arith)))

pub returns : goal.returns
unfolding classes_filled
returns c =
    let b = c.args.body.now in
    let l = c.loop-j in
    each-ends (Filled b) (length (given_of b)) l._j l.invariant.0.below (omega (arith, c.loop-j-test.false, c.class_count-n.ensures)) l.invariant.1
