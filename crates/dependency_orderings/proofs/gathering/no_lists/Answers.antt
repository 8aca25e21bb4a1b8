-- `dependency_orderings::gathering::no_lists` meets its contract.
use Rattle.dependency_orderings.proofs.gathering.no_lists.Goals as goal

pub returns : goal.returns
returns c = rw c.nothing_found.ensures
