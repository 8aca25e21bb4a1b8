-- `dependencies::checking::keys_fresh` meets its contract.
use Rattle.std.proofs.Common.{rules, tests}
use Rattle.laws.proofs.Runs.{each-all}
use Rattle.dependencies.proofs.MapChecks.{FreshAt}
use Rattle.dependencies.proofs.checking.keys_fresh.Goals as goal

pub returns : goal.returns
returns c =
    each-all (FreshAt c.args.m) c.args.m.count _ _ _ c.all.ensures.ran (λ x b q k. search (rules, tests))
