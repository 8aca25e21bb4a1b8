-- `group_records::group::copy_members` meets its contract.
use Rattle.group_records.proofs.GroupCopy.{Copied}
use Rattle.group_records.proofs.group.copy_members.Given as goal

abbrev pub invariant-loop-k : goal.invariant-loop-k
invariant-loop-k l = Copied l.initial.list l.used l.body l.at l.m l.list l.k
