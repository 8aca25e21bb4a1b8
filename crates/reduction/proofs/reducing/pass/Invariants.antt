-- `reduction::reducing::pass` meets its contract.
use Prim.Native.Nat.{◌-◌}
use Rattle.reduction.proofs.Passes.{Pass}
use Rattle.reduction.proofs.reducing.pass.Given as goal

abbrev pub invariant-loop-i : goal.invariant-loop-i
invariant-loop-i l = Pass l.initial.list l.list l.cuts l.i

abbrev pub decreases-loop-i : goal.decreases-loop-i
decreases-loop-i l = l.list.count - l.i
