-- `group_checks::checking::classes_known` meets its contract.
use Rattle.std.proofs.Common.{rules, tests, not, ◌||◌, ltb, get_or}
use Rattle.laws.proofs.Runs.{each-all}
use Rattle.classes.specs.Layout.{known_flavour}
use Rattle.group_checks.proofs.checking.classes_known.Goals as goal

pub returns : goal.returns
returns c =
    each-all (λ k. not (ltb k c.args.g.count) || known_flavour (get_or c.args.g.flavours k 0) (get_or c.args.g.values k 0)) 64 _ _ _ c.all.ensures.ran (λ x b q k. search (rules, tests))
