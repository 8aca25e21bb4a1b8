-- `orderings::making::no_orderings` meets its contract.
use Rattle.orderings.specs.Layout.{encode}
use Rattle.orderings.proofs.making.no_orderings.Goals as goal

pub returns : goal.returns
unfolding encode
returns c = rw c.nothing.ensures
