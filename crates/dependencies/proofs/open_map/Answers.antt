-- `dependencies::open_map` meets its contract.
use Rattle.dependencies.specs.Layout.{encode}
use Rattle.dependencies.proofs.open_map.Goals as goal

pub returns : goal.returns
unfolding encode
returns c = rw c.nothing.ensures
