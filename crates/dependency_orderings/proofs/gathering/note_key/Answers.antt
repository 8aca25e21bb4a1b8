-- `dependency_orderings::gathering::note_key` meets its contract.
use Rattle.dependency_orderings.specs.Inner.{with_key}
use Rattle.dependency_orderings.proofs.gathering.note_key.Goals as goal

pub bounds-more-place : goal.bounds-more-place
bounds-more-place c = c.requires

pub returns : goal.returns
unfolding with_key
returns c = rw c.count_key.ensures
