-- `shifting::shifting::shift_column` meets its contract.
use native.Mathlib.Omega.{arith}
use borrow.Author.Rules.{rules}
use lib.ListN.{get_or}
use mir.Syntax.{w32}
use mir.Val.{Fits}
use Rattle.arena.proofs.Walking.{placed_row}
use Rattle.shifting.proofs.Shifts.{column-moves, column-placeable, column-grew}
use Rattle.shifting.proofs.shifting.shift_column.Goals as goal

pub overflow_sub-row-2 : goal.overflow_sub-row-2
overflow_sub-row-2 c =
    omega (arith, (column-moves c.args.lift c.args.cells.now c.row_of-row.result c.args.e c.requires.0.0 c.requires.1.0 c.requires.1.1 c.row_of-row.ensures).low)

pub overflow_add-row-2 : goal.overflow_add-row-2
overflow_add-row-2 c =
    let f : Fits w32 (get_or c.row_of-row.result 1 0) = search rules in
    let m = column-moves c.args.lift c.args.cells.now c.row_of-row.result c.args.e c.requires.0.0 c.requires.1.0 c.requires.1.1 c.row_of-row.ensures in
    omega (arith, f.fits, m.low, m.high)

pub place-requires : goal.place-requires
place-requires c =
    column-placeable c.args.lift c.args.cells.now c.row_of-row.result c.args.e c.requires.0.0 c.requires.1.0 c.requires.1.1 c.row_of-row.ensures

pub returns : goal.returns
returns c =
    column-grew c.args.lift c.args.cells.now c.row_of-row.result c.args.e c.requires.0.0 c.requires.1.0 c.requires.1.1 c.row_of-row.ensures c.place.new.cells c.place.result (placed_row _ _ _ _ (column-placeable c.args.lift c.args.cells.now c.row_of-row.result c.args.e c.requires.0.0 c.requires.1.0 c.requires.1.1 c.row_of-row.ensures) c.place.ensures)
