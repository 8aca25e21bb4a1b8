-- `group_states::groups::load_group` meets its contract.
use Rattle.group_states.specs.Groups.{group_from}
use Rattle.group_states.proofs.groups.load_group.Goals as goal

pub returns : goal.returns
unfolding group_from
returns c =
    λ t. record {
      limit = c.wide.ensures t;
      count = c.wide-2.ensures t;
      used = c.wide-3.ensures t;
      sizes = c.sizes_from.ensures t;
      flavours = c.table_from.ensures t;
      values = c.table_from-2.ensures t;
      members = c.table_from-3.ensures t;
    }
