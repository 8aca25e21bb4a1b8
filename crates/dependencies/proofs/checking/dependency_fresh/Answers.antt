-- `dependencies::checking::dependency_fresh` meets its contract.
use Rattle.std.proofs.Common.{rules, tests}
use Rattle.laws.proofs.Runs.{each-all}
use Rattle.classes.specs.Layout.{fresh}
use Rattle.dependencies.proofs.MapChecks.{Other}
use Rattle.dependencies.proofs.checking.dependency_fresh.Goals as goal

pub returns : goal.returns
unfolding fresh
returns c =
    each-all (Other c.args.r c.args.k) c.args.k _ _ _ c.all.ensures.ran (λ x b q k. search (rules, tests))
