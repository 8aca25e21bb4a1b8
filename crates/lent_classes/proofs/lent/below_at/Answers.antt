-- `lent_classes::lent::below_at` meets its contract.
use Rattle.std.proofs.Common.{rules, tests}
use Rattle.laws.proofs.Runs.{each-all}
use Rattle.lent_classes.specs.Lent.{below_at}
use Rattle.lent_classes.proofs.LentParts.{Below}
use Rattle.lent_classes.proofs.lent.below_at.Goals as goal

pub returns : goal.returns
unfolding below_at
returns c =
    let x = c.args in
    rw (← c.size_at.ensures.0) (each-all (Below x.m x.numbers.now x.at) c.size_at.result _ _ _ c.all.ensures.ran (λ x b q k. search (rules, tests)))
