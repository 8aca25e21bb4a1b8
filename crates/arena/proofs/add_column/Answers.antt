-- `arena::add_column` meets its contract.
use Rattle.arena.specs.declared.Refusal.TheVariants.{BadState}
use Rattle.std.specs.Prelude.{Err}
use mathlib.Core.Bool.{true}
use mathlib.Core.Path.{◌≡◌, sym, ◌∙◌}
use Rattle.arena.specs.Node.{column}
use Rattle.arena.specs.Arena.{Allowed}
use Rattle.arena.specs.Layout.{lawful}
use Rattle.arena.specs.Calls.{in_cells, add_column}
use Rattle.arena.proofs.Refusals.{handed-on}
use Rattle.arena.proofs.Lending.{lent-refused, checked-ok, on-arena, node-of, placeable}
use Rattle.arena.proofs.add_column.Goals as goal

pub returns-in_err-check_arena : goal.returns-in_err-check_arena
returns-in_err-check_arena c =
    lent-refused c.args.cells.now _ _ (sym c.in_err-check_arena.ensures) (handed-on _ _ c.from_residual.ensures.1) _

pub place-requires : goal.place-requires
unfolding Allowed
place-requires c =
    placeable c.args.cells.now c.column_row-row.result (column c.args.name c.args.index) (checked-ok c.args.cells.now (sym c.in_ok-check_arena.ensures)) c.column_row-row.ensures c.ranges.index.fits

pub returns : goal.returns
unfolding add_column Allowed
returns c =
    let l : lawful c.args.cells.now ≡ true = checked-ok c.args.cells.now (sym c.in_ok-check_arena.ensures) in
    let n = node-of c.args.cells.now c.column_row-row.result (column c.args.name c.args.index) l c.column_row-row.ensures c.ranges.index.fits in
    c.place.ensures ∙ rw n (sym (on-arena (Err BadState, c.args.cells.now) (λ ns. in_cells (add_column c.args.name c.args.index ns)) c.args.cells.now l))
