-- `arena::checking::children_below` meets its contract.
use Rattle.std.proofs.Common.{◌+◌, rules, tests, ltb, get_or}
use Rattle.laws.proofs.Runs.{each-all}
use Rattle.arena.specs.Layout.{children_below}
use Rattle.arena.proofs.checking.children_below.Goals as goal

pub returns : goal.returns
unfolding children_below
returns c =
    each-all (λ k. ltb (get_or c.args.row.now (3 + k) 0) c.args.i) c.args.n _ _ _ c.all.ensures.ran (λ x b q k. search (rules, tests))
