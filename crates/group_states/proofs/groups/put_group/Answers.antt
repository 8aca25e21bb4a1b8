-- `group_states::groups::put_group` meets its contract.
use Rattle.group_states.proofs.Stores.{group-written}
use Rattle.group_states.proofs.groups.put_group.Goals as goal

pub returns : goal.returns
returns c =
    group-written c.args.group c.narrow.result c.narrow-2.result c.narrow-3.result
    c.put_counts.new.cells c.put_sizes.new.cells c.put_table.new.cells c.put_table-2.new.cells c.put_members.new.cells
    c.narrow.ensures c.narrow-2.ensures c.narrow-3.ensures c.put_counts.ensures c.put_sizes.ensures c.put_table.ensures c.put_table-2.ensures c.put_members.ensures
