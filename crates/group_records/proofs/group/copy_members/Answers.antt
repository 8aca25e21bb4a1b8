-- `group_records::group::copy_members` meets its contract.
use native.Mathlib.Omega.{arith}
use Rattle.group_records.proofs.GroupCopy.{copied_none, copied_more, copied_all}
use Rattle.group_records.proofs.group.copy_members.Goals as goal

pub loop-k-init : goal.loop-k-init
loop-k-init c =
    let x = c.args in
    copied_none x.list.now x.used x.body.now x.at x.m c.requires.0.0

pub loop-k-preserved : goal.loop-k-preserved
loop-k-preserved c =
    let x = c.args in
    let l = c.loop-k in
    copied_more x.list.now x.used x.body.now x.at x.m l.list l.k c.member_at.result c.requires.0.0 c.requires.0.1 l.invariant (omega (arith, c.loop-k-test.true)) c.member_at.ensures.0 c.member_at.ensures.1

pub returns : goal.returns
returns c =
    let x = c.args in
    let l = c.loop-k in
    copied_all x.list.now x.used x.body.now x.at x.m l.list l.k l.invariant (omega (arith, c.loop-k-test.false))
