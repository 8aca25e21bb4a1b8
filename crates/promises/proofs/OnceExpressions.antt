-- Two results that meet a contract are equal: the public functions of arena and shifting.
use Rattle.laws.proofs.Determined.{one-result}
use Rattle.promises.proofs.Once.{OneAnswer, OneLent, OneWith}
use Rattle.arena.proofs.adding.column_row.Reads as ArenaAddingColumnRow
use Rattle.arena.proofs.adding.literal_row.Reads as ArenaAddingLiteralRow
use Rattle.arena.proofs.adding.operation_row.Reads as ArenaAddingOperationRow
use Rattle.arena.proofs.adding.all_below.Reads as ArenaAddingAllBelow
use Rattle.arena.proofs.adding.place.Reads as ArenaAddingPlace
use Rattle.arena.proofs.cells.wide.Reads as ArenaCellsWide
use Rattle.arena.proofs.cells.narrow.Reads as ArenaCellsNarrow
use Rattle.arena.proofs.cells.node_count.Reads as ArenaCellsNodeCount
use Rattle.arena.proofs.cells.cell_of.Reads as ArenaCellsCellOf
use Rattle.arena.proofs.cells.row_of.Reads as ArenaCellsRowOf
use Rattle.arena.proofs.checking.row_below.Reads as ArenaCheckingRowBelow
use Rattle.arena.proofs.checking.lawful_arena.Reads as ArenaCheckingLawfulArena
use Rattle.arena.proofs.check_arena.Reads as ArenaCheckArena
use Rattle.arena.proofs.add_column.Reads as ArenaAddColumn
use Rattle.arena.proofs.add_literal.Reads as ArenaAddLiteral
use Rattle.arena.proofs.add_operation.Reads as ArenaAddOperation
use Rattle.arena.proofs.read_node.Reads as ArenaReadNode
use Rattle.arena.proofs.read_child.Reads as ArenaReadChild
use Rattle.arena.proofs.memo.note.Reads as ArenaMemoNote
use Rattle.arena.proofs.memo.refused.Reads as ArenaMemoRefused
use Rattle.arena.proofs.refusing.number_of.Reads as ArenaRefusingNumberOf
use Rattle.arena.proofs.reading.read_in.Reads as ArenaReadingReadIn
use Rattle.arena.proofs.reading.child_count.Reads as ArenaReadingChildCount
use Rattle.arena.proofs.reading.child_in.Reads as ArenaReadingChildIn
use Rattle.shifting.proofs.add_offset_to_expr.Reads as ShiftingAddOffsetToExpr
use Rattle.shifting.proofs.shifting.can_move.Reads as ShiftingShiftingCanMove
use Rattle.shifting.proofs.shifting.shift_in.Reads as ShiftingShiftingShiftIn

-- ---- arena

pub arena-adding-column_row : (κs : _) (a : _) → OneAnswer (ArenaAddingColumnRow.Learnt κs a)
arena-adding-column_row κs a r r' s s' = one-result

pub arena-adding-literal_row : (κs : _) (a : _) → OneAnswer (ArenaAddingLiteralRow.Learnt κs a)
arena-adding-literal_row κs a r r' s s' = one-result

pub arena-adding-operation_row : (κs : _) (a : _) → OneAnswer (ArenaAddingOperationRow.Learnt κs a)
arena-adding-operation_row κs a r r' s s' = one-result

pub arena-adding-all_below : (κs : _) (a : _) → OneAnswer (ArenaAddingAllBelow.Learnt κs a)
arena-adding-all_below κs a r r' s s' = one-result

pub arena-adding-place : (κs : _) (a : _) → OneWith (λ s. s.0.now) (ArenaAddingPlace.Learnt κs a)
arena-adding-place κs a r r' s s' = one-result

pub arena-cells-wide : (κs : _) (a : _) → OneAnswer (ArenaCellsWide.Learnt κs a)
arena-cells-wide κs a r r' s s' = one-result

pub arena-cells-narrow : (κs : _) (a : _) → OneAnswer (ArenaCellsNarrow.Learnt κs a)
arena-cells-narrow κs a r r' s s' = one-result

pub arena-cells-node_count : (κs : _) (a : _) → OneAnswer (ArenaCellsNodeCount.Learnt κs a)
arena-cells-node_count κs a r r' s s' = one-result

pub arena-cells-cell_of : (κs : _) (a : _) → OneAnswer (ArenaCellsCellOf.Learnt κs a)
arena-cells-cell_of κs a r r' s s' = one-result

pub arena-cells-row_of : (κs : _) (a : _) → OneAnswer (ArenaCellsRowOf.Learnt κs a)
arena-cells-row_of κs a r r' s s' = one-result

pub arena-checking-row_below : (κs : _) (a : _) → OneAnswer (ArenaCheckingRowBelow.Learnt κs a)
arena-checking-row_below κs a r r' s s' = one-result

pub arena-checking-lawful_arena : (κs : _) (a : _) → OneAnswer (ArenaCheckingLawfulArena.Learnt κs a)
arena-checking-lawful_arena κs a r r' s s' = one-result

pub arena-check_arena : (κs : _) (a : _) → OneAnswer (ArenaCheckArena.Learnt κs a)
arena-check_arena κs a r r' s s' = one-result

pub arena-add_column : (κs : _) (a : _) → OneWith (λ s. s.0.now) (ArenaAddColumn.Learnt κs a)
arena-add_column κs a r r' s s' = one-result

pub arena-add_literal : (κs : _) (a : _) → OneWith (λ s. s.0.now) (ArenaAddLiteral.Learnt κs a)
arena-add_literal κs a r r' s s' = one-result

pub arena-add_operation : (κs : _) (a : _) → OneWith (λ s. s.0.now) (ArenaAddOperation.Learnt κs a)
arena-add_operation κs a r r' s s' = one-result

pub arena-read_node : (κs : _) (a : _) → OneAnswer (ArenaReadNode.Learnt κs a)
arena-read_node κs a r r' s s' = one-result

pub arena-read_child : (κs : _) (a : _) → OneAnswer (ArenaReadChild.Learnt κs a)
arena-read_child κs a r r' s s' = one-result

pub arena-memo-note : (κs : _) (a : _) → OneLent (λ s. s.0.now) (ArenaMemoNote.Learnt κs a)
arena-memo-note κs a r r' s s' = one-result

pub arena-memo-refused : (κs : _) (a : _) → OneAnswer (ArenaMemoRefused.Learnt κs a)
arena-memo-refused κs a r r' s s' = one-result

pub arena-refusing-number_of : (κs : _) (a : _) → OneAnswer (ArenaRefusingNumberOf.Learnt κs a)
arena-refusing-number_of κs a r r' s s' = one-result

pub arena-reading-read_in : (κs : _) (a : _) → OneAnswer (ArenaReadingReadIn.Learnt κs a)
arena-reading-read_in κs a r r' s s' = one-result

pub arena-reading-child_count : (κs : _) (a : _) → OneAnswer (ArenaReadingChildCount.Learnt κs a)
arena-reading-child_count κs a r r' s s' = one-result

pub arena-reading-child_in : (κs : _) (a : _) → OneAnswer (ArenaReadingChildIn.Learnt κs a)
arena-reading-child_in κs a r r' s s' = one-result

-- ---- shifting

pub shifting-add_offset_to_expr : (κs : _) (a : _) → OneWith (λ s. s.0.now) (ShiftingAddOffsetToExpr.Learnt κs a)
shifting-add_offset_to_expr κs a r r' s s' = one-result

pub shifting-shifting-can_move : (κs : _) (a : _) → OneAnswer (ShiftingShiftingCanMove.Learnt κs a)
shifting-shifting-can_move κs a r r' s s' = one-result

pub shifting-shifting-shift_in : (κs : _) (a : _) → OneWith (λ s. s.0.now) (ShiftingShiftingShiftIn.Learnt κs a)
shifting-shifting-shift_in κs a r r' s s' = one-result
