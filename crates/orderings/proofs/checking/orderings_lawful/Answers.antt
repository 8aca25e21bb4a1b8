-- `orderings::checking::orderings_lawful` meets its contract.
use Rattle.std.proofs.Common.{rules, tests, ap, ◌∙◌, get_or, arith}
use Rattle.laws.proofs.Each.{each_cong}
use Rattle.laws.proofs.Runs.{each-all}
use Rattle.orderings.specs.Layout.{lawful_ordering}
use Rattle.orderings.proofs.Codec.{no_place}
use Rattle.orderings.proofs.ListChecks.{LawfulAt, sized, read_is}
use Rattle.orderings.proofs.checking.orderings_lawful.Goals as goal

pub returns : goal.returns
returns c =
    let z = sized c.args.g _ c.well_formed.0 in
    each-all (λ i. lawful_ordering (get_or c.args.g.list i no_place)) c.args.g.count _ _ _ c.all.ensures.ran (λ x b q k. search (rules, tests))
    ∙ each_cong (λ i. lawful_ordering (get_or c.args.g.list i no_place)) (LawfulAt c.args.g) c.args.g.count (λ i l. ap lawful_ordering (read_is c.args.g z i (omega arith)))
