-- `galthumir::maps::galthumir_check_map` meets its contract.
use Rattle.std.proofs.Common.{ap, ◌∙◌}
use Rattle.arena.specs.Refusals.{number_of}
use Rattle.dependencies.proofs.MapCalls.{map_number-listed}
use Rattle.states.specs.Maps.{map_from}
use Rattle.galthumir.proofs.maps.galthumir_check_map.Goals as goal

pub returns : goal.returns
returns c =
    c.number_of.ensures ∙ ap number_of (rw c.load_map.ensures at c.check.ensures) ∙ map_number-listed c.args.arena.now (map_from c.args.map.now)
