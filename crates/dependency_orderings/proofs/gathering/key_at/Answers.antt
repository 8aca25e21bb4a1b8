-- `dependency_orderings::gathering::key_at` meets its contract.
use Rattle.dependency_orderings.specs.Inner.{key_at}
use Rattle.dependency_orderings.proofs.gathering.key_at.Goals as goal

pub packed-requires : goal.packed-requires
packed-requires c = (c.requires.0.exprs c.args.k c.requires.1, c.requires.0.options c.args.k c.requires.1)

pub returns : goal.returns
unfolding key_at
returns c = c.packed.ensures
