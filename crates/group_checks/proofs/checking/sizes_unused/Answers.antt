-- `group_checks::checking::sizes_unused` meets its contract.
use Rattle.std.proofs.Common.{◌∙◌, rules, tests, eqb, drop}
use Rattle.std.proofs.lemmas.Iterator.{YieldsList-from_slice}
use Rattle.laws.proofs.Runs.{each-list, each-drop, take-rest}
use Rattle.classes.specs.Layout.{unused_from}
use Rattle.group_checks.proofs.checking.sizes_unused.Goals as goal

pub returns : goal.returns
unfolding unused_from
returns c =
    each-list (λ x. eqb x 0) _ _ _ c.all.ensures.ran (YieldsList-from_slice (drop c.args.n c.args.sizes.now) (c.iter.ensures.rest ∙ take-rest c.args.n c.args.sizes.now)) (λ x b q k. search (rules, tests)) ∙ each-drop (λ x. eqb x 0) c.args.n c.args.sizes.now
