-- `orderings::checking::keys_below` meets its contract.
use Rattle.std.proofs.Common.{◌≤◌, rules, tests, ap, ◌∙◌, get_or, arith}
use Rattle.std.proofs.lemmas.Iterator.{serves_from_Range}
use Rattle.laws.proofs.Each.{each_cong}
use Rattle.laws.proofs.Runs.{each-all}
use Rattle.orderings.specs.Layout.{keys_inside}
use Rattle.orderings.proofs.Codec.{no_place}
use Rattle.orderings.proofs.ListChecks.{Inside, InsideAt, sized, read_is, lawful-count, lawful-size}
use Rattle.orderings.proofs.checking.keys_below.Goals as goal

pub all-requires-clause-callable : goal.all-requires-clause-callable
all-requires-clause-callable c =
    let w = lawful-count c.args.g c.requires in
    let z = sized c.args.g _ c.well_formed.0 in
    serves_from_Range (λ x q k. search rules)
    (λ x a b.
    let short : (get_or c.args.g.list x no_place).size ≤ 16 = rw (read_is c.args.g z x (omega arith)) (lawful-size c.args.g c.requires x b) in
    search rules)

pub returns : goal.returns
unfolding keys_inside
returns c =
    let w = lawful-count c.args.g c.requires in
    let z = sized c.args.g _ c.well_formed.0 in
    each-all (λ i. Inside c.args.n (get_or c.args.g.list i no_place)) c.args.g.count _ _ _ c.all.ensures.ran (λ x b q k. search (rules, tests))
    ∙ each_cong (λ i. Inside c.args.n (get_or c.args.g.list i no_place)) (InsideAt c.args.n c.args.g) c.args.g.count (λ i l. ap (Inside c.args.n) (read_is c.args.g z i (omega arith)))
