-- `lent_classes::lent::apart_at` meets its contract.
use Rattle.std.proofs.Common.{rules, tests}
use Rattle.laws.proofs.Runs.{each-all}
use Rattle.lent_classes.specs.Lent.{fresh_lent, apart_at}
use Rattle.lent_classes.proofs.lent.apart_at.Goals as goal

pub returns : goal.returns
unfolding apart_at
returns c =
    let x = c.args in
    rw (← c.size_at.ensures.0) (each-all (fresh_lent x.numbers.now x.at) c.size_at.result _ _ _ c.all.ensures.ran (λ x b q k. search (rules, tests)))
