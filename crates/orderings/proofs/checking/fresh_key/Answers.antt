-- `orderings::checking::fresh_key` meets its contract.
use Rattle.std.proofs.Common.{rules, tests, not, eqb, get_or}
use Rattle.laws.proofs.Runs.{each-all}
use Rattle.orderings.specs.Ordering.{expr_of}
use Rattle.orderings.specs.Layout.{fresh_key}
use Rattle.orderings.proofs.checking.fresh_key.Goals as goal

pub returns : goal.returns
unfolding fresh_key
returns c =
    each-all (λ i. not (eqb (expr_of (get_or c.args.o.keys i 0)) (expr_of (get_or c.args.o.keys c.args.k 0)))) c.args.k _ _ _ c.all.ensures.ran (λ x b q k. search (rules, tests))
