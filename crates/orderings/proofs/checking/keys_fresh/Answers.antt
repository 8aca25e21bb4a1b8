-- `orderings::checking::keys_fresh` meets its contract.
use Rattle.std.proofs.Common.{rules, tests}
use Rattle.laws.proofs.Runs.{each-all}
use Rattle.orderings.proofs.ListChecks.{Fresh}
use Rattle.orderings.proofs.checking.keys_fresh.Goals as goal

pub returns : goal.returns
returns c =
    each-all (Fresh c.args.o) c.args.o.size _ _ _ c.all.ensures.ran (λ x b q k. search (rules, tests))
