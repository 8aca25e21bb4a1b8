-- `group_checks::checking::members_fresh` meets its contract.
use Rattle.std.proofs.Common.{rules, tests}
use Rattle.laws.proofs.Runs.{each-all}
use Rattle.classes.specs.Layout.{fresh}
use Rattle.group_checks.proofs.checking.members_fresh.Goals as goal

pub returns : goal.returns
returns c =
    each-all (λ k. fresh c.args.members.now k) c.args.n _ _ _ c.all.ensures.ran (λ x b q k. search (rules, tests))
