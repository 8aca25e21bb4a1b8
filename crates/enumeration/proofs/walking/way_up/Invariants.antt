-- `enumeration::walking::way_up` meets its contract.
use Rattle.enumeration.proofs.Turns.{Climbing}
use Rattle.enumeration.proofs.walking.way_up.Given as goal

abbrev pub invariant-loop-i : goal.invariant-loop-i
invariant-loop-i l = Climbing l.m l.walk l.target l.i l.out
