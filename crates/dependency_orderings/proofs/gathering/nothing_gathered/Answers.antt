-- `dependency_orderings::gathering::nothing_gathered` meets its contract.
use Rattle.dependency_orderings.proofs.gathering.nothing_gathered.Goals as goal

pub returns : goal.returns
returns c = rw c.no_lists.ensures
