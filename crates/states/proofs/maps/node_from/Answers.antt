-- `states::maps::node_from` meets its contract.
use Prim.Native.Nat.{◌+◌}
use mathlib.Core.Bool.{not}
use lib.Dec.{eqb}
use lib.ListN.{get_or}
use Rattle.states.specs.Maps.{node_from}
use Rattle.states.proofs.maps.node_from.Goals as goal

pub returns : goal.returns
unfolding node_from
returns c =
    let x = c.args in
    λ t. record {
      key = get_or x.cells.now x.at 0;
      projected = not (eqb (get_or x.cells.now (x.at + 1) 0) 0);
      target = c.target_from.ensures t;
      size = c.widened.ensures t;
      dependencies = c.keys_from-dependencies.ensures t;
    }
