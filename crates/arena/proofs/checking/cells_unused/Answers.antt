-- `arena::checking::cells_unused` meets its contract.
use Rattle.std.proofs.Common.{◌+◌, ◌-◌, ◌*◌, rules, tests, eqb, get_or}
use Rattle.laws.proofs.Runs.{each-all}
use Rattle.arena.specs.Layout.{cells_unused}
use Rattle.arena.proofs.checking.cells_unused.Goals as goal

pub returns : goal.returns
unfolding cells_unused
returns c =
    each-all (λ k. eqb (get_or c.args.cells.now (1 + 11 * c.args.n + k) 0) 0) (11264 - 11 * c.args.n) _ _ _ c.all.ensures.ran (λ x b q k. search (rules, tests))
