-- `group_checks::checking::members_below` meets its contract.
use Rattle.std.proofs.Common.{rules, tests, ltb, get_or}
use Rattle.laws.proofs.Runs.{each-all}
use Rattle.group_checks.proofs.checking.members_below.Goals as goal

pub returns : goal.returns
returns c =
    each-all (λ k. ltb (get_or c.args.members.now k 0) c.args.n) c.args.used _ _ _ c.all.ensures.ran (λ x b q k. search (rules, tests))
