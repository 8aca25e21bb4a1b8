-- `dependencies::checking::places_unused` meets its contract.
use Rattle.std.proofs.Common.{ap, arith, rules, tests, get_or, ◌+◌, ◌-◌, ◌∙◌}
use Rattle.laws.proofs.Runs.{each-all}
use Rattle.laws.proofs.Each.{each_cong}
use Rattle.dependencies.specs.Layout.{unused_entry}
use Rattle.dependencies.proofs.MapChecks.{UnusedAt, no_place, read_is, sized}
use Rattle.dependencies.proofs.checking.places_unused.Goals as goal

pub returns : goal.returns
returns c =
    each-all (λ i. unused_entry (get_or c.args.m.list (c.args.m.count + i) no_place)) (64 - c.args.m.count) _ _ _ c.all.ensures.ran (λ x b q k. search (rules, tests))
    ∙ each_cong _ (UnusedAt c.args.m) (64 - c.args.m.count) (λ i l. ap unused_entry (read_is c.args.m (sized c.args.m _ c.well_formed.0) (c.args.m.count + i) (omega arith)))
