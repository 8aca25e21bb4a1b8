-- `dependencies::checking::key_fresh` meets its contract.
use Rattle.std.proofs.Common.{ap, arith, rules, tests, eqb, not, get_or, ◌∙◌}
use Rattle.laws.proofs.Runs.{each-all}
use Rattle.laws.proofs.Each.{each_cong}
use Rattle.dependencies.specs.Layout.{fresh_key, place_in}
use Rattle.dependencies.specs.declared.DependencyNode.{DependencyNode}
use Rattle.dependencies.proofs.MapChecks.{Unlike, no_place, read_is, sized}
use Rattle.dependencies.proofs.checking.key_fresh.Goals as goal

pub returns : goal.returns
unfolding fresh_key
returns c =
    each-all (λ i. not (eqb (get_or c.args.m.list i no_place).key (get_or c.args.m.list c.args.k no_place).key)) c.args.k _ _ _ c.all.ensures.ran (λ x b q k. search (rules, tests))
    ∙ each_cong _ (Unlike c.args.m c.args.k) c.args.k (λ i l. let z = sized c.args.m _ c.well_formed.0 in ap (λ (r : DependencyNode). not (eqb r.key (get_or c.args.m.list c.args.k no_place).key)) (read_is c.args.m z i (omega arith)) ∙ ap (λ (r : DependencyNode). not (eqb (place_in c.args.m i).key r.key)) (read_is c.args.m z c.args.k (omega arith)))
