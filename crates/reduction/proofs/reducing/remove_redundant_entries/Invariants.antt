-- `reduction::reducing::remove_redundant_entries` meets its contract.
use Rattle.orderings.specs.Layout.{decode}
use Rattle.reduction.proofs.Passes.{passes_left, Work}
use Rattle.reduction.proofs.reducing.remove_redundant_entries.Given as goal

abbrev pub invariant-loop-work : goal.invariant-loop-work
invariant-loop-work l = Work l.initial.list l.list l.cuts l.passes l.work

abbrev pub decreases-loop-work : goal.decreases-loop-work
decreases-loop-work l = passes_left l.work (decode l.list)
