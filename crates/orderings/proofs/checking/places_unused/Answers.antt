-- `orderings::checking::places_unused` meets its contract.
use Rattle.std.proofs.Common.{rules, tests, ap, ◌∙◌, ◌+◌, ◌-◌, get_or, arith}
use Rattle.laws.proofs.Each.{each_cong}
use Rattle.laws.proofs.Runs.{each-all}
use Rattle.orderings.specs.Layout.{unused_ordering}
use Rattle.orderings.proofs.Codec.{no_place}
use Rattle.orderings.proofs.ListChecks.{UnusedAt, sized, read_is}
use Rattle.orderings.proofs.checking.places_unused.Goals as goal

pub returns : goal.returns
returns c =
    let z = sized c.args.g _ c.well_formed.0 in
    each-all (λ i. unused_ordering (get_or c.args.g.list (c.args.g.count + i) no_place)) (32 - c.args.g.count) _ _ _ c.all.ensures.ran (λ x b q k. search (rules, tests))
    ∙ each_cong (λ i. unused_ordering (get_or c.args.g.list (c.args.g.count + i) no_place)) (UnusedAt c.args.g) (32 - c.args.g.count) (λ i l. ap unused_ordering (read_is c.args.g z (c.args.g.count + i) (omega arith)))
