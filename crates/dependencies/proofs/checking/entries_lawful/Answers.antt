-- `dependencies::checking::entries_lawful` meets its contract.
use Rattle.std.proofs.Common.{ap, arith, rules, tests, get_or, ◌∙◌}
use Rattle.laws.proofs.Runs.{each-all}
use Rattle.laws.proofs.Each.{each_cong}
use Rattle.dependencies.specs.Layout.{lawful_entry}
use Rattle.dependencies.proofs.MapChecks.{LawfulAt, no_place, read_is, sized}
use Rattle.dependencies.proofs.checking.entries_lawful.Goals as goal

pub returns : goal.returns
returns c =
    each-all (λ i. lawful_entry (get_or c.args.m.list i no_place)) c.args.m.count _ _ _ c.all.ensures.ran (λ x b q k. search (rules, tests))
    ∙ each_cong _ (LawfulAt c.args.m) c.args.m.count (λ i l. ap lawful_entry (read_is c.args.m (sized c.args.m _ c.well_formed.0) i (omega arith)))
