-- `merging::bridging::drop_trivial` meets its contract.
use Rattle.merging.proofs.Dropping.{Kept}
use Rattle.merging.proofs.bridging.drop_trivial.Given as goal

abbrev pub invariant-loop-i : goal.invariant-loop-i
invariant-loop-i l = Kept l.initial.out l.out l.i
