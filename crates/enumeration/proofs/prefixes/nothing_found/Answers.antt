-- `enumeration::prefixes::nothing_found` meets its contract.
use Rattle.enumeration.proofs.prefixes.nothing_found.Goals as goal

pub returns : goal.returns
returns c = rw c.nothing.ensures
