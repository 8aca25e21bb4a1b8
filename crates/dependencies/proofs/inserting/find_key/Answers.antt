-- `dependencies::inserting::find_key` meets its contract.
use Rattle.std.proofs.Common.{ap, arith, rules, tests, eqb, get_or, sym, ◌∙◌}
use Rattle.laws.proofs.Runs.{first-find}
use Rattle.laws.proofs.First.{first_cong}
use Rattle.dependencies.specs.declared.DependencyNode.{DependencyNode}
use Rattle.dependencies.proofs.MapChecks.{no_place, read_is, sized}
use Rattle.dependencies.proofs.MapInserts.{KeyAt, key-first}
use Rattle.dependencies.proofs.inserting.find_key.Goals as goal

pub returns : goal.returns
returns c =
    first-find (λ i. eqb (get_or c.args.m.list i no_place).key c.args.key) c.args.m.count _ _ _ c.find.ensures.ran (λ x b q k. search (rules, tests))
    ∙ first_cong _ (KeyAt c.args.m c.args.key) c.args.m.count (λ i l. ap (λ (r : DependencyNode). eqb r.key c.args.key) (read_is c.args.m (sized c.args.m _ c.well_formed.0) i (omega arith)))
    ∙ sym (key-first c.args.m c.args.key)
