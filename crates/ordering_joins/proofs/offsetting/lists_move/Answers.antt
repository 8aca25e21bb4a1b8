-- `ordering_joins::offsetting::lists_move` meets its contract.
use Rattle.std.proofs.Common.{rules, ap, ◌∙◌}
use Rattle.std.specs.List.{list_all}
use Rattle.std.proofs.lemmas.Iterator.{serves_from_Range}
use Rattle.laws.proofs.RunsA.{all-table}
use Rattle.orderings.specs.Layout.{keys_of, decode}
use Rattle.ordering_joins.specs.Inner.{LowKeys, keys_tabled}
use Rattle.orderings.proofs.Codec.{count-few, place_in}
use Rattle.ordering_joins.proofs.KeyTests.{place-low, lists-all, places-read}
use Rattle.ordering_joins.proofs.offsetting.lists_move.Goals as goal

pub all-requires-clause-callable : goal.all-requires-clause-callable
all-requires-clause-callable c =
    let w = count-few c.args.g c.requires.held in
    serves_from_Range (λ x q k. search rules)
    (λ x a b. let low : LowKeys (place_in c.args.g x) = place-low c.args.g c.requires x b in search rules)

pub returns : goal.returns
returns c =
    all-table (keys_tabled c.args.table.now) (λ i. keys_of (place_in c.args.g i)) c.args.g.count _ _ _ c.all.ensures.ran (λ x b q k. search rules)
    ∙ ap (list_all (keys_tabled c.args.table.now)) (places-read c.args.g c.requires.held) ∙ lists-all c.args.table.now (decode c.args.g)
