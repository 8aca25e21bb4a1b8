-- `enumeration::marking::mark_node` meets its contract.
use mathlib.Core.Bool.{false, ◌||◌}
use lib.ListN.{get_or}
use Rattle.enumeration.specs.Inner.{hits}
use Rattle.enumeration.proofs.Marks.{Filled}
use Rattle.enumeration.proofs.marking.mark_node.Given as goal

abbrev pub invariant-loop-k : goal.invariant-loop-k
invariant-loop-k l = Filled (λ j. get_or l.seen.told j false || hits l.node j l.target l.dependency) false 16 l.k l.out.told
