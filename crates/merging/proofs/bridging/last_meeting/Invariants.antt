-- `merging::bridging::last_meeting` meets its contract.
use mathlib.Core.Path.{◌≡◌}
use Rattle.classes.specs.Layout.{decode}
use Rattle.merging.specs.Merging.{last_meeting, meeting_below}
use Rattle.merging.proofs.bridging.last_meeting.Given as goal

abbrev pub invariant-loop-j : goal.invariant-loop-j
invariant-loop-j l = last_meeting (decode l.g) l.i ≡ meeting_below (decode l.g) l.i l.j
