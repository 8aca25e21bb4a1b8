-- `enumeration::prefixes::prefixes_at` meets its contract.
use Rattle.enumeration.proofs.Walks.{Starts}
use Rattle.enumeration.proofs.prefixes.prefixes_at.Given as goal

abbrev pub invariant-loop-k : goal.invariant-loop-k
invariant-loop-k l = Starts l.m l.place l.initial.rows l.walk l.rows l.k
