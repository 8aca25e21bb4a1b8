-- `galthumir::orders::galthumir_add_offset` meets its contract.
use Prim.Native.Nat.{ℕ}
use mathlib.Core.Path.{sym, subst}
use mathlib.Core.List.{List}
use mir.Facts.{to_z-of_z}
use Rattle.orderings.specs.declared.Listed.{Listed}
use Rattle.states.specs.Inner.{ListFitsIfDone}
use Rattle.state_laws.proofs.ListFit.{offset_fits}
use Rattle.galthumir.proofs.Shapes.{on-first}
use Rattle.galthumir.proofs.orders.galthumir_add_offset.Goals as goal

pub store_orderings-requires : goal.store_orderings-requires
store_orderings-requires c = subst (λ (o : Listed × List ℕ). ListFitsIfDone o.0) (sym c.add_offset-listed.ensures) (offset_fits _ _ _)

pub returns : goal.returns
returns c = on-first _ _ _ _ _ (rw (to_z-of_z c.ranges.offset, c.load_orderings.ensures) at c.add_offset-listed.ensures) c.store_orderings.ensures
