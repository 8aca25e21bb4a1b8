-- `group_records::group::member_table` meets its contract.
use Rattle.group_records.proofs.GroupCopy.{table-all}
use Rattle.group_records.proofs.group.member_table.Goals as goal

pub returns : goal.returns
returns c =
    rw c.copy_from_slice.ensures.after (table-all c.args.numbers.now)
