-- `arena::adding::all_below` meets its contract.
use Rattle.std.proofs.Common.{rules, tests, ltb}
use Rattle.std.proofs.lemmas.Iterator.{YieldsList-from_slice}
use Rattle.laws.proofs.Runs.{each-list}
use Rattle.arena.proofs.adding.all_below.Goals as goal

pub returns : goal.returns
returns c =
    each-list (λ x. ltb x c.args.n) _ _ _ c.all.ensures.ran (YieldsList-from_slice c.args.numbers.now cc) (λ x b q k. search (rules, tests))
