-- `group_checks::checking::sizes_filled` meets its contract.
use Rattle.std.proofs.Common.{rules, tests, ltb, get_or}
use Rattle.laws.proofs.Runs.{each-all}
use Rattle.group_checks.proofs.checking.sizes_filled.Goals as goal

pub returns : goal.returns
returns c =
    each-all (λ k. ltb 0 (get_or c.args.sizes k 0)) c.args.n _ _ _ c.all.ensures.ran (λ x b q k. search (rules, tests))
