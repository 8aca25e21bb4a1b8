-- `orderings::checking::rest_unused` meets its contract.
use Rattle.std.proofs.Common.{◌+◌, ◌-◌, rules, tests, eqb, get_or}
use Rattle.laws.proofs.Runs.{each-all}
use Rattle.orderings.specs.Layout.{rest_unused}
use Rattle.orderings.proofs.checking.rest_unused.Goals as goal

pub returns : goal.returns
unfolding rest_unused
returns c =
    each-all (λ k. eqb (get_or c.args.o.keys (c.args.o.size + k) 0) 0) (16 - c.args.o.size) _ _ _ c.all.ensures.ran (λ x b q k. search (rules, tests))
