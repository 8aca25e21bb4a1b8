-- `group_records::group::copy_all` meets its contract.
use Rattle.group_records.specs.Inner.{given_of, Before}
use Rattle.group_records.proofs.GroupCopy.{Gathered}
use Rattle.group_records.proofs.group.copy_all.Given as goal

abbrev pub invariant-loop-j : goal.invariant-loop-j
invariant-loop-j l = Before l.body l._j l.at × Gathered (given_of l.body) l.list l.used l.at l._j
