-- `merging::bridging::last_meeting` meets its contract.
use native.Mathlib.Omega.{arith}
use Rattle.merging.proofs.Meetings.{search_begins, search_hit, search_on, search_ends}
use Rattle.merging.proofs.bridging.last_meeting.Goals as goal

pub loop-j-init : goal.loop-j-init
loop-j-init c = search_begins c.args.g c.args.i

pub contains_any-requires : goal.contains_any-requires
contains_any-requires c = (c.requires.0, (c.requires.1, omega arith))

pub returns-then-contains_any : goal.returns-then-contains_any
returns-then-contains_any c =
    let l = c.loop-j in
    search_hit c.args.g c.args.i l.j c.contains_any.result c.loop-j-test.true c.contains_any.ensures c.if-contains_any.true l.invariant

pub loop-j-preserved : goal.loop-j-preserved
loop-j-preserved c =
    let l = c.loop-j in
    search_on c.args.g c.args.i l.j c.contains_any.result c.loop-j-test.true c.contains_any.ensures c.if-contains_any.false l.invariant

pub returns : goal.returns
returns c = search_ends c.args.g c.args.i c.loop-j.j c.loop-j-test.false c.loop-j.invariant
