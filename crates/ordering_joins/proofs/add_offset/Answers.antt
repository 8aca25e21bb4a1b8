-- `ordering_joins::add_offset` meets its contract.
use mathlib.Core.Path.{◌≡◌, sym, ap, subst, ◌∙◌}
use lib.IntN.{ℤ}
use mir.Facts.{to_z-of_z}
use Rattle.arena.specs.Layout.{decode as nodes}
use Rattle.arena.specs.Calls.{in_cells}
use Rattle.ordering_joins.specs.Calls.{offset_list}
use Rattle.orderings.specs.declared.Listed.{Listed}
use Rattle.orderings.proofs.Asking.{done-zero}
use Rattle.orderings.proofs.ListChecks.{sized}
use Rattle.ordering_joins.proofs.OffsetCall.{number-there, offset_refused, offset_passed}
use Rattle.ordering_joins.proofs.add_offset.Goals as goal

pub offset_in-requires : goal.offset_in-requires
offset_in-requires c =
    number-there c.args.cells.now c.args.list (sized c.args.list _ c.well_formed.1.0) (done-zero _ (sym c.in-Ok.ensures))

pub returns-in-Ok : goal.returns-in-Ok
returns-in-Ok c =
    let q : (c.offset_in.result, c.offset_in.new.cells) ≡ in_cells (offset_list c.args.offset c.args.list (nodes c.args.cells.now)) =
    subst (λ (y : ℤ). (c.offset_in.result, c.offset_in.new.cells) ≡ in_cells (offset_list y c.args.list (nodes c.args.cells.now))) (to_z-of_z c.ranges.offset) c.offset_in.ensures in
    q ∙ sym (offset_passed c.args.offset c.args.cells.now c.args.list (sym c.in-Ok.ensures))

pub returns-in-Err : goal.returns-in-Err
returns-in-Err c =
    ap (λ (x : Listed). (x, c.args.cells.now)) c.refusal.ensures ∙ offset_refused c.args.offset c.args.cells.now c.args.list c.in-Err.why (sym c.in-Err.ensures)
