-- `merging::bridging::bridge_classes` meets its contract.
use Prim.Native.Nat.{◌-◌}
use Rattle.merging.proofs.Bridges.{Bridging}
use Rattle.merging.proofs.bridging.bridge_classes.Given as goal

abbrev pub invariant-loop-i : goal.invariant-loop-i
invariant-loop-i l = Bridging l.initial.out l.out l.i

abbrev pub decreases-loop-i : goal.decreases-loop-i
decreases-loop-i l = l.out.count - l.i
