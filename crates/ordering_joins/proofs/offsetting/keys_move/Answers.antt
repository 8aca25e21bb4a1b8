-- `ordering_joins::offsetting::keys_move` meets its contract.
use Rattle.std.proofs.Common.{rules, tests, get_or, false, ◌∙◌, ◌<◌}
use Rattle.std.proofs.lemmas.Iterator.{serves_from_Range}
use Rattle.laws.proofs.RunsA.{all-table}
use Rattle.orderings.specs.Ordering.{expr_of}
use Rattle.orderings.specs.Layout.{keys_of}
use Rattle.orderings.proofs.Codec.{size_few}
use Rattle.ordering_joins.proofs.KeyTests.{key-low, keys-all}
use Rattle.ordering_joins.proofs.offsetting.keys_move.Goals as goal

pub all-requires-clause-callable : goal.all-requires-clause-callable
all-requires-clause-callable c =
    let w = size_few c.args.o c.requires.held in
    serves_from_Range (λ x q k. search rules)
    (λ x a b. let low : expr_of (get_or c.args.o.keys x 0) < 1024 = key-low c.args.o c.requires x b in search rules)

pub returns : goal.returns
unfolding keys_of
returns c =
    all-table (λ k. get_or c.args.table.now (expr_of k) false) (λ k. get_or c.args.o.keys k 0) c.args.o.size _ _ _ c.all.ensures.ran (λ x b q k. search (rules, tests))
    ∙ keys-all c.args.table.now (keys_of c.args.o)
