-- `orderings::checking::exprs_below` meets its contract.
use Rattle.std.proofs.Common.{rules, tests}
use Rattle.laws.proofs.Runs.{each-all}
use Rattle.orderings.proofs.ListChecks.{Below}
use Rattle.orderings.proofs.checking.exprs_below.Goals as goal

pub returns : goal.returns
returns c =
    each-all (Below c.args.o c.args.n) c.args.o.size _ _ _ c.all.ensures.ran (λ x b q k. search (rules, tests))
