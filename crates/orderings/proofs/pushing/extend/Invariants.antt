-- `orderings::pushing::extend` meets its contract.
use Rattle.orderings.specs.Layout.{keys_of}
use Rattle.orderings.specs.Inner.{Extending}
use Rattle.orderings.proofs.pushing.extend.Given as goal

abbrev pub invariant-loop-k : goal.invariant-loop-k
invariant-loop-k l = Extending (keys_of l.initial.out) (keys_of l.p) l.k l.out
