-- `reduction::lent::none_twice` meets its contract.
use Rattle.std.proofs.Common.{rules, tests, ap, ◌∙◌}
use Rattle.laws.specs.Tests.{each}
use Rattle.laws.proofs.Runs.{each-all}
use Rattle.reduction.proofs.LentLaws.{FreshAt}
use Rattle.reduction.proofs.lent.none_twice.Goals as goal

pub returns : goal.returns
returns c =
    each-all (FreshAt c.args.numbers.now c.args.at) c.number_at.result _ _ _ c.all.ensures.ran (λ x b q k. search (rules, tests))
    ∙ ap (each (FreshAt c.args.numbers.now c.args.at)) c.number_at.ensures.0
