-- `states::maps::load_map` meets its contract.
use Rattle.std.proofs.Common.{◌+◌, ◌*◌, rules, tests}
use Rattle.laws.proofs.RunsB.{table-from_fn}
use Rattle.dependencies.specs.Layout.{unused}
use Rattle.states.specs.Maps.{node_from, map_from}
use Rattle.states.proofs.maps.load_map.Goals as goal

pub returns : goal.returns
unfolding map_from
returns c =
    λ t. record {
      count = c.widened.ensures t;
      list = table-from_fn (λ i. node_from c.args.cells.now (1 + 19 * i)) 64 unused _ _ c.from_fn.ensures.items (λ x b q k. search (rules, tests)) t;
    }
