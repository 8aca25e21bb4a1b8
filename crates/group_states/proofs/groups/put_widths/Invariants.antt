-- `group_states::groups::put_widths` meets its contract.
use Rattle.group_states.proofs.Stores.{Written}
use Rattle.group_states.proofs.groups.put_widths.Given as goal

abbrev pub invariant-loop-k : goal.invariant-loop-k
invariant-loop-k l = Written l.initial.cells l.sizes 3 l.k l.cells
