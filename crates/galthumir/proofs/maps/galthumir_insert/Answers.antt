-- `galthumir::maps::galthumir_insert` meets its contract.
use mathlib.Core.Path.{sym, subst}
use Rattle.states.specs.Inner.{MapFitsIfDone}
use Rattle.state_laws.proofs.MapFit.{insert-fits}
use Rattle.galthumir.proofs.maps.galthumir_insert.Goals as goal

pub store_map-requires : goal.store_map-requires
store_map-requires c = subst MapFitsIfDone (sym c.insert-inserted.ensures) (insert-fits _ _ _ _ _ _)

pub returns : goal.returns
returns c = rw (c.insert-inserted.ensures, c.given_from-2.ensures, c.given_from.ensures, c.load_map.ensures) at c.store_map.ensures
