-- `group_states::groups::put_counts` meets its contract.
use native.Mathlib.Omega.{arith}
use lib.ListN.{length-set}
use Rattle.group_states.proofs.Stores.{three-written}
use Rattle.group_states.proofs.groups.put_counts.Goals as goal

pub bounds-cells-1 : goal.bounds-cells-1
bounds-cells-1 c = omega (arith, c.requires, length-set c.args.cells.now 0 c.args.limit)

pub returns : goal.returns
returns c = three-written c.args.cells.now c.args.limit c.args.count c.args.used c.requires
