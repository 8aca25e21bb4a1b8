-- `group_checks::checking::fresh_member` meets its contract.
use Rattle.std.proofs.Common.{rules, tests, not, eqb, get_or}
use Rattle.laws.proofs.Runs.{each-all}
use Rattle.classes.specs.Layout.{fresh}
use Rattle.group_checks.proofs.checking.fresh_member.Goals as goal

pub returns : goal.returns
unfolding fresh
returns c =
    each-all (λ k. not (eqb (get_or c.args.members.now k 0) (get_or c.args.members.now c.args.k 0))) c.args.k _ _ _ c.all.ensures.ran (λ x b q k. search (rules, tests))
