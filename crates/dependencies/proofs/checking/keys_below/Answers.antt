-- `dependencies::checking::keys_below` meets its contract.
use Rattle.std.proofs.lemmas.Iterator.{serves_from_Range}
use Rattle.std.proofs.Common.{◌≤◌, ap, arith, rules, tests, get_or, ◌∙◌}
use Rattle.laws.proofs.Runs.{each-all}
use Rattle.laws.proofs.Each.{each_cong}
use Rattle.dependencies.specs.Layout.{entry_inside, keys_inside}
use Rattle.dependencies.proofs.MapChecks.{InsideAt, no_place, read_is, sized, lawful-few, read-size}
use Rattle.dependencies.proofs.checking.keys_below.Goals as goal

pub all-requires-clause-callable : goal.all-requires-clause-callable
all-requires-clause-callable c =
    let w : c.args.m.count ≤ 64 = lawful-few c.args.m c.requires in
    serves_from_Range (λ x q k. search (rules, tests)) (λ i low high. let s = read-size c.args.m (sized c.args.m _ c.well_formed.0) c.requires i high in search rules)

pub returns : goal.returns
unfolding keys_inside
returns c =
    let w = lawful-few c.args.m c.requires in
    each-all (λ i. entry_inside c.args.n (get_or c.args.m.list i no_place)) c.args.m.count _ _ _ c.all.ensures.ran (λ x b q k. search (rules, tests))
    ∙ each_cong _ (InsideAt c.args.n c.args.m) c.args.m.count (λ i l. ap (entry_inside c.args.n) (read_is c.args.m (sized c.args.m _ c.well_formed.0) i (omega arith)))
