-- `dependencies::checking::rest_unused` meets its contract.
use Rattle.std.proofs.Common.{◌-◌, rules, tests}
use Rattle.laws.proofs.Runs.{each-all}
use Rattle.dependencies.specs.Layout.{rest_unused}
use Rattle.dependencies.proofs.MapChecks.{Unused}
use Rattle.dependencies.proofs.checking.rest_unused.Goals as goal

pub returns : goal.returns
unfolding rest_unused
returns c =
    each-all (Unused c.args.r) (16 - c.args.r.size) _ _ _ c.all.ensures.ran (λ x b q k. search (rules, tests))
