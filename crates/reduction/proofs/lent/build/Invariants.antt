-- `reduction::lent::build` meets its contract.
use Rattle.std.proofs.Common.{[]}
use Rattle.reduction.specs.Lent.{keys_lent}
use Rattle.orderings.specs.Inner.{Extending}
use Rattle.reduction.proofs.lent.build.Given as goal

abbrev pub invariant-loop-k : goal.invariant-loop-k
invariant-loop-k l = Extending [] (keys_lent l.numbers l.at) l.k l.out
