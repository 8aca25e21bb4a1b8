-- `lent_classes::lent::fresh_lent` meets its contract.
use Rattle.std.proofs.Common.{rules, tests}
use Rattle.laws.proofs.Runs.{each-all}
use Rattle.lent_classes.specs.Lent.{fresh_lent}
use Rattle.lent_classes.proofs.LentParts.{Unlike}
use Rattle.lent_classes.proofs.lent.fresh_lent.Goals as goal

pub returns : goal.returns
unfolding fresh_lent
returns c =
    let x = c.args in
    each-all (Unlike x.numbers.now x.at x.k) x.k _ _ _ c.all.ensures.ran (λ x b q k. search (rules, tests))
