-- `reduction::reducing::round` meets its contract.
use Prim.Native.Nat.{◌-◌}
use Rattle.reduction.proofs.Rounds.{Round}
use Rattle.reduction.proofs.reducing.round.Given as goal

abbrev pub invariant-loop-j : goal.invariant-loop-j
invariant-loop-j l = Round l.initial.list l.i l.cuts l.list l.done l.j

abbrev pub decreases-loop-j : goal.decreases-loop-j
decreases-loop-j l = l.list.count - l.j
