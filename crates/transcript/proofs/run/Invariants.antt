-- `transcript::run` meets its contract.
use Prim.Native.Nat.{◌-◌}
use lib.ListN.{length}
use Rattle.transcript.proofs.Running.{Ran}
use Rattle.transcript.proofs.run.Given as goal

abbrev pub invariant-loop-at : goal.invariant-loop-at
invariant-loop-at l = Ran l.input l.initial.output l.output l.cells l.state l.done l.at l.k

abbrev pub decreases-loop-at : goal.decreases-loop-at
decreases-loop-at l = length l.input - l.at
