-- `reduction::lent::fresh_lent` meets its contract.
use Rattle.std.proofs.Common.{rules, tests}
use Rattle.laws.proofs.Runs.{each-all}
use Rattle.reduction.specs.Lent.{fresh_lent}
use Rattle.reduction.proofs.LentLaws.{Unlike}
use Rattle.reduction.proofs.lent.fresh_lent.Goals as goal

pub returns : goal.returns
unfolding fresh_lent
returns c =
    each-all (Unlike c.args.numbers.now c.args.at c.args.k) c.args.k _ _ _ c.all.ensures.ran (λ x b q k. search (rules, tests))
