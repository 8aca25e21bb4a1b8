-- `products::ordering::ordering_at` meets its contract.
use mathlib.Core.Path.{ap, ◌∙◌}
use Rattle.orderings.specs.Inner.{extended_of}
use Rattle.products.proofs.Chains.{choice_ordered, ordering-is}
use Rattle.products.proofs.ordering.ordering_at.Goals as goal

pub order_at-requires : goal.order_at-requires
order_at-requires c = (c.requires.0.few, c.requires.1)

pub chain-requires : goal.chain-requires
chain-requires c =
    choice_ordered c.args.choice c.args.number c.requires.0 c.requires.1 c.order_at.result c.order_at.ensures

pub returns : goal.returns
returns c =
    c.chain.ensures ∙ ap extended_of (ordering-is c.args.choice c.args.number c.requires.0 c.requires.1 c.order_at.result c.order_at.ensures)
