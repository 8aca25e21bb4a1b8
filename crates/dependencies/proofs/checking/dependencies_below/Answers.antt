-- `dependencies::checking::dependencies_below` meets its contract.
use Rattle.std.proofs.Common.{rules, tests}
use Rattle.laws.proofs.Runs.{each-all}
use Rattle.dependencies.proofs.MapChecks.{Below}
use Rattle.dependencies.proofs.checking.dependencies_below.Goals as goal

pub returns : goal.returns
returns c =
    each-all (Below c.args.r c.args.n) c.args.r.size _ _ _ c.all.ensures.ran (λ x b q k. search (rules, tests))
