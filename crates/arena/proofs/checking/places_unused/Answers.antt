-- `arena::checking::places_unused` meets its contract.
use Rattle.std.proofs.Common.{◌+◌, ◌-◌, rules, tests, eqb, get_or}
use Rattle.laws.proofs.Runs.{each-all}
use Rattle.arena.specs.Layout.{places_unused}
use Rattle.arena.proofs.checking.places_unused.Goals as goal

pub returns : goal.returns
unfolding places_unused
returns c =
    each-all (λ k. eqb (get_or c.args.row.now (3 + c.args.n + k) 0) 0) (8 - c.args.n) _ _ _ c.all.ensures.ran (λ x b q k. search (rules, tests))
