-- `group_states::groups::put_table` meets its contract.
use mathlib.Core.Path.{◌≡◌}
use lib.ListN.{length}
use Rattle.group_states.proofs.groups.put_table.Goals as goal

pub returns : goal.returns
returns c =
    let n : length c.args.numbers ≡ 64 = c.well_formed.0.1.0.1 in
    rw n at c.put_numbers.ensures
