-- `group_records::group::copy_all` meets its contract.
use Prim.Native.Nat.{◌+◌, ◌<◌}
use mathlib.Core.Path.{sym, ap, ◌∙◌}
use native.Mathlib.Omega.{arith}
use lib.ListN.{length}
use Rattle.records.specs.Fields.{fields}
use Rattle.group_records.specs.Inner.{given_of}
use Rattle.group_records.proofs.GroupWalk.{before-start, turn}
use Rattle.group_records.proofs.GroupCopy.{gathered_none, gathered_more, gathered_all, fitting}
use Rattle.group_records.proofs.group.copy_all.Goals as goal

pub class_count-n-requires : goal.class_count-n-requires
class_count-n-requires c =
    c.requires.0

pub loop-j-init : goal.loop-j-init
loop-j-init c =
    let b = c.args.body.now in
    (before-start b c.requires.0, gathered_none (given_of b) c.args.list.now c.requires.1)

pub member_count-m-requires : goal.member_count-m-requires
member_count-m-requires c =
    let b = c.args.body.now in
    let l = c.loop-j in
    let k : l._j < length (given_of b) = omega (arith, c.loop-j-test.true, c.class_count-n.ensures) in
    let t = turn b l._j l.at l.invariant.0 k in
    t.head

pub overflow_add-at : goal.overflow_add-at
overflow_add-at c =
    let l = c.loop-j in
    let m = c.member_count-m in
    let f = fitting c.args.body.now l.list l.used l.at l._j m.result c.class_count-n.result c.requires.0 l.invariant.0 l.invariant.1 c.loop-j-test.true c.class_count-n.ensures m.ensures.0 in
    omega (arith, f.whole, f.short)

pub copy_members-requires : goal.copy_members-requires
copy_members-requires c =
    let l = c.loop-j in
    let m = c.member_count-m in
    let f = fitting c.args.body.now l.list l.used l.at l._j m.result c.class_count-n.result c.requires.0 l.invariant.0 l.invariant.1 c.loop-j-test.true c.class_count-n.ensures m.ensures.0 in
    ((l.invariant.1.long, f.room), f.whole)

pub overflow_add-used : goal.overflow_add-used
overflow_add-used c =
    let l = c.loop-j in
    let m = c.member_count-m in
    let f = fitting c.args.body.now l.list l.used l.at l._j m.result c.class_count-n.result c.requires.0 l.invariant.0 l.invariant.1 c.loop-j-test.true c.class_count-n.ensures m.ensures.0 in
    omega (arith, f.room)

pub overflow_add-at-in-loop-j-2 : goal.overflow_add-at-in-loop-j-2
overflow_add-at-in-loop-j-2 c =
    let l = c.loop-j in
    let m = c.member_count-m in
    let f = fitting c.args.body.now l.list l.used l.at l._j m.result c.class_count-n.result c.requires.0 l.invariant.0 l.invariant.1 c.loop-j-test.true c.class_count-n.ensures m.ensures.0 in
    omega (arith, f.whole, f.short)

pub loop-j-preserved : goal.loop-j-preserved
loop-j-preserved c =
    let l = c.loop-j in
    let m = c.member_count-m in
    let f = fitting c.args.body.now l.list l.used l.at l._j m.result c.class_count-n.result c.requires.0 l.invariant.0 l.invariant.1 c.loop-j-test.true c.class_count-n.ensures m.ensures.0 in
    (rw m.ensures.0 f.turns.next, gathered_more (given_of c.args.body.now) l.list _ c.args.body.now l.used l.at l._j m.result l.invariant.1 f.here f.room (f.turns.members ∙ ap (fields c.args.body.now (l.at + 8)) (sym m.ensures.0)) c.copy_members.ensures.0 c.copy_members.ensures.1)

pub returns : goal.returns
returns c =
    let b = c.args.body.now in
    let l = c.loop-j in
    gathered_all (given_of b) l.list l.used l.at l._j l.invariant.1 (omega (arith, c.loop-j-test.false, c.class_count-n.ensures)) (omega arith)
