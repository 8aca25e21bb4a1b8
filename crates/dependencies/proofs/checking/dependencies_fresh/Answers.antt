-- `dependencies::checking::dependencies_fresh` meets its contract.
use Rattle.std.proofs.Common.{rules, tests}
use Rattle.laws.proofs.Runs.{each-all}
use Rattle.dependencies.proofs.MapChecks.{Fresh}
use Rattle.dependencies.proofs.checking.dependencies_fresh.Goals as goal

pub returns : goal.returns
returns c =
    each-all (Fresh c.args.r) c.args.r.size _ _ _ c.all.ensures.ran (λ x b q k. search (rules, tests))
