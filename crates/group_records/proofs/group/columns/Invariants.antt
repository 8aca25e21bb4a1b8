-- `group_records::group::columns` meets its contract.
use Rattle.group_records.specs.Inner.{given_of, Before}
use Rattle.group_records.proofs.GroupCopy.{Columns}
use Rattle.group_records.proofs.group.columns.Given as goal

abbrev pub invariant-loop-j : goal.invariant-loop-j
invariant-loop-j l = Before l.body l.j l.at × Columns (given_of l.body) l.group l.j
