-- `enumeration::walking::construct_orderings` meets its contract.
use Prim.Native.Nat.{◌+◌, ◌*◌}
use Rattle.enumeration.specs.Inner.{left}
use Rattle.enumeration.proofs.Walks.{Looped}
use Rattle.enumeration.proofs.walking.construct_orderings.Given as goal

abbrev pub invariant-loop-way : goal.invariant-loop-way
invariant-loop-way l = Looped l.m l.initial.way l.initial.rows l.way l.rows

abbrev pub decreases-loop-way : goal.decreases-loop-way
decreases-loop-way l = 2 * left l.way + l.way.depth
