-- `enumeration::marking::mark` meets its contract.
use Rattle.dependencies.specs.Layout.{place_in}
use Rattle.enumeration.specs.Inner.{unmarked, seen_at, marked_node}
use Rattle.enumeration.proofs.Marks.{Filled}
use Rattle.enumeration.proofs.marking.mark.Given as goal

abbrev pub invariant-loop-i : goal.invariant-loop-i
invariant-loop-i l = Filled (λ j. marked_node (place_in l.m j) (seen_at l.walk j) l.target l.dependency) unmarked 64 l.i l.seen
