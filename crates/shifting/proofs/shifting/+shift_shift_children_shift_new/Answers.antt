-- `shifting::shifting::shift`, `shifting::shifting::shift_children`, `shifting::shifting::shift_new` meet their contracts: one proof for their cycle of calls.
use Prim.Native.Nat.{ℕ, ◌<◌}
use mathlib.Core.Path.{◌≡◌, sym, ap, subst, ◌∙◌}
use native.Mathlib.Omega.{arith}
use lib.ListN.{length, get_or}
use Rattle.std.specs.Prelude.{Result, is_ok}
use Rattle.arena.specs.declared.Refusal.{Refusal}
use Rattle.arena.proofs.Refusals.{handed-on}
use Rattle.arena.specs.Expression.{expression_at}
use Rattle.arena.specs.Layout.{cell_of, children_of, decode}
use Rattle.shifting.specs.Inner.{shifted_by, Ready}
use Rattle.arena.specs.Inner.{Grew, Walked, WalkedAll}
use Rattle.arena.proofs.Layouts.{length-decode}
use Rattle.arena.proofs.Walking.{children-count, placed_row, memo-kept, memo-answers, memo-noted, grew-number, through-begins, through-child, through-more, through_fails, through-ends}
use Rattle.shifting.proofs.Shifts.{ready-small, literal-stays, ready-all, children_eight, child-lower, child-known, child-ready, children-full, operation-placeable, operation-walked}
use Rattle.shifting.proofs.shifting.+shift_shift_children_shift_new.Goals as goal

pub shift-returns-then-entry-ne0 : goal.shift-returns-then-entry-ne0
shift-returns-then-entry-ne0 t c =
    rw c.wide-e.ensures (memo-answers (shifted_by c.args.lift) c.args.cells.now c.args.memo.now c.args.expr c.requires.known.holds c.requires.memo_true (λ z. c.if-entry-ne0.true (ap (λ (k : ℕ). get_or c.args.memo.now k 0) c.wide-e.ensures ∙ z)))

pub shift-note-requires : goal.shift-note-requires
shift-note-requires t c =
    let w = c.shift_new-answer.ensures in (
      omega (arith, c.wide-e.ensures, c.requires.known.below, c.requires.known.holds.few),
      λ i q.
          let g = grew-number (shifted_by c.args.lift) (shifted_by c.args.lift (expression_at (decode c.args.cells.now) c.args.expr)) c.args.cells.now c.shift_new-answer.new.cells i c.requires.known.holds (ready-small c.args.lift c.args.cells.now c.args.memo.now c.args.expr c.requires) (subst (Grew (shifted_by c.args.lift (expression_at (decode c.args.cells.now) c.args.expr)) c.args.cells.now c.shift_new-answer.new.cells) q w.grew) in
          omega (arith, g.0, length-decode c.shift_new-answer.new.cells, w.grew.holds.few),
    )

pub shift-returns : goal.shift-returns
shift-returns t c =
    rw (c.note.ensures, c.wide-e.ensures) (memo-noted (shifted_by c.args.lift) c.args.cells.now c.shift_new-answer.new.cells c.shift_new-answer.new.memo c.args.expr c.shift_new-answer.result c.requires.known.holds (omega (arith, c.requires.known.below, length-decode c.args.cells.now)) (ready-small c.args.lift c.args.cells.now c.args.memo.now c.args.expr c.requires) c.shift_new-answer.ensures)

pub shift_children-loop-k-init : goal.shift_children-loop-k-init
shift_children-loop-k-init t c =
    through-begins (shifted_by c.args.lift) c.args.cells.now c.args.row.now c.args.memo.now c.requires.ready.known.holds c.requires.ready.memo_true c.requires.row_is

pub shift_children-overflow_add-k : goal.shift_children-overflow_add-k
shift_children-overflow_add-k t c =
    let l : c.loop-k.k < length (children_of c.args.row.now) = omega (arith, children-count c.args.row.now, c.wide-k-end.ensures) in
    omega (arith, l, children_eight c.args.lift c.args.cells.now c.args.memo.now c.args.row.now c.args.expr c.requires)

pub shift_children-offset_bounds-row-k : goal.shift_children-offset_bounds-row-k
shift_children-offset_bounds-row-k t c =
    let l : c.loop-k.k < length (children_of c.args.row.now) = omega (arith, children-count c.args.row.now, c.wide-k-end.ensures) in
    omega (arith, l, children_eight c.args.lift c.args.cells.now c.args.memo.now c.args.row.now c.args.expr c.requires)

pub shift_children-bounds-row-k : goal.shift_children-bounds-row-k
shift_children-bounds-row-k t c =
    let l : c.loop-k.k < length (children_of c.args.row.now) = omega (arith, children-count c.args.row.now, c.wide-k-end.ensures) in
    omega (arith, l, children_eight c.args.lift c.args.cells.now c.args.memo.now c.args.row.now c.args.expr c.requires)

pub shift_children-shift-requires : goal.shift_children-shift-requires
shift_children-shift-requires t c =
    let l : c.loop-k.k < length (children_of c.args.row.now) = omega (arith, children-count c.args.row.now, c.wide-k-end.ensures) in
    let h = c.loop-k.invariant in
    let q = through-child (shifted_by c.args.lift) c.args.cells.now c.args.row.now c.loop-k.cells c.loop-k.memo c.loop-k.row c.loop-k.k h l in
    (omega (arith, q, child-lower c.args.lift c.args.cells.now c.args.memo.now c.args.row.now c.args.expr c.requires c.loop-k.k l, c.decreases), subst (Ready c.args.lift c.loop-k.cells c.loop-k.memo) (sym q) (child-ready c.args.lift c.args.cells.now c.args.memo.now c.args.row.now c.args.expr c.requires c.loop-k.cells c.loop-k.memo c.loop-k.row c.loop-k.k h l))

pub shift_children-returns-in_err-row : goal.shift_children-returns-in_err-row
shift_children-returns-in_err-row t c =
    let l : c.loop-k.k < length (children_of c.args.row.now) = omega (arith, children-count c.args.row.now, c.wide-k-end.ensures) in
    let h = c.loop-k.invariant in
    let q = through-child (shifted_by c.args.lift) c.args.cells.now c.args.row.now c.loop-k.cells c.loop-k.memo c.loop-k.row c.loop-k.k h l in
    rw (handed-on _ _ c.from_residual.ensures.1) (through_fails (shifted_by c.args.lift) c.args.cells.now c.args.row.now c.loop-k.cells c.loop-k.memo c.loop-k.row c.loop-k.k h l c.shift.new.cells c.shift.new.memo (child-known c.args.lift c.args.cells.now c.args.memo.now c.args.row.now c.args.expr c.requires c.loop-k.k l) _
    (subst (Walked (shifted_by c.args.lift) c.loop-k.cells c.shift.new.cells c.shift.new.memo (get_or (children_of c.args.row.now) c.loop-k.k 0)) c.in_err-row.was (rw q at c.shift.ensures)))

pub shift_children-overflow_add-row : goal.shift_children-overflow_add-row
shift_children-overflow_add-row t c =
    let l : c.loop-k.k < length (children_of c.args.row.now) = omega (arith, children-count c.args.row.now, c.wide-k-end.ensures) in
    omega (arith, l, children_eight c.args.lift c.args.cells.now c.args.memo.now c.args.row.now c.args.expr c.requires)

pub shift_children-offset_bounds-row-k-in-loop-k : goal.shift_children-offset_bounds-row-k-in-loop-k
shift_children-offset_bounds-row-k-in-loop-k t c =
    let l : c.loop-k.k < length (children_of c.args.row.now) = omega (arith, children-count c.args.row.now, c.wide-k-end.ensures) in
    omega (arith, l, children_eight c.args.lift c.args.cells.now c.args.memo.now c.args.row.now c.args.expr c.requires)

pub shift_children-bounds-row-k-in-loop-k : goal.shift_children-bounds-row-k-in-loop-k
shift_children-bounds-row-k-in-loop-k t c =
    let l : c.loop-k.k < length (children_of c.args.row.now) = omega (arith, children-count c.args.row.now, c.wide-k-end.ensures) in
    omega (arith, l, children_eight c.args.lift c.args.cells.now c.args.memo.now c.args.row.now c.args.expr c.requires)

pub shift_children-loop-k-preserved : goal.shift_children-loop-k-preserved
shift_children-loop-k-preserved t c =
    let l : c.loop-k.k < length (children_of c.args.row.now) = omega (arith, children-count c.args.row.now, c.wide-k-end.ensures) in
    let h = c.loop-k.invariant in
    let q = through-child (shifted_by c.args.lift) c.args.cells.now c.args.row.now c.loop-k.cells c.loop-k.memo c.loop-k.row c.loop-k.k h l in
    through-more (shifted_by c.args.lift) c.args.cells.now c.args.row.now c.loop-k.cells c.loop-k.memo c.loop-k.row c.loop-k.k h l c.shift.new.cells c.shift.new.memo (child-known c.args.lift c.args.cells.now c.args.memo.now c.args.row.now c.args.expr c.requires c.loop-k.k l) c.in_ok-row.field-0
    (subst (Walked (shifted_by c.args.lift) c.loop-k.cells c.shift.new.cells c.shift.new.memo (get_or (children_of c.args.row.now) c.loop-k.k 0)) c.in_ok-row.was (rw q at c.shift.ensures))

pub shift_children-returns : goal.shift_children-returns
shift_children-returns t c =
    let e : length (children_of c.args.row.now) ≡ c.loop-k.k = omega (arith, children-count c.args.row.now, c.wide-k-end.ensures) in
    through-ends (shifted_by c.args.lift) c.args.cells.now c.args.row.now c.loop-k.cells c.loop-k.memo c.loop-k.row c.loop-k.k c.loop-k.invariant e

pub shift_new-shift_column-requires : goal.shift_new-shift_column-requires
shift_new-shift_column-requires t c =
    let d = c.requires in
    rw c.wide-e.ensures ((d.known, d.small), (rw c.wide-e.ensures at (sym c.cell_of.ensures ∙ c.in-1.is), d.moves))

pub shift_new-returns-in-1 : goal.shift_new-returns-in-1
shift_new-returns-in-1 t c =
    let g = rw c.wide-e.ensures at c.shift_column.ensures in
    record { grew = g; memo_true = memo-kept (shifted_by c.args.lift) c.args.memo.now g.extends c.requires.memo_true }

pub shift_new-returns-in-2 : goal.shift_new-returns-in-2
shift_new-returns-in-2 t c =
    literal-stays c.args.lift c.args.cells.now c.args.memo.now c.args.expr c.requires (rw c.wide-e.ensures at (sym c.cell_of.ensures ∙ c.in-2.is))

pub shift_new-shift_children-requires : goal.shift_new-shift_children-requires
shift_new-shift_children-requires t c =
    let k : c.cell_of.result ≡ cell_of c.args.cells.now c.args.expr 0 = rw c.wide-e.ensures at c.cell_of.ensures in
    (omega (arith, c.decreases), ready-all c.args.lift c.args.cells.now c.args.memo.now c.args.expr c.requires (λ z. omega (arith, k ∙ z)) (λ z. omega (arith, k ∙ z)) c.row_of-row.result (rw c.wide-e.ensures at c.row_of-row.ensures))

pub shift_new-returns-in_err-shift_children-in_default : goal.shift_new-returns-in_err-shift_children-in_default
shift_new-returns-in_err-shift_children-in_default t c =
    let k : c.cell_of.result ≡ cell_of c.args.cells.now c.args.expr 0 = rw c.wide-e.ensures at c.cell_of.ensures in
    let a = ready-all c.args.lift c.args.cells.now c.args.memo.now c.args.expr c.requires (λ z. omega (arith, k ∙ z)) (λ z. omega (arith, k ∙ z)) c.row_of-row.result (rw c.wide-e.ensures at c.row_of-row.ensures) in
    let w = subst (λ (r : Result (Unit {0}) Refusal). WalkedAll (shifted_by c.args.lift) c.args.cells.now c.shift_children.new.cells c.shift_children.new.memo c.row_of-row.result c.shift_children.new.row (is_ok r)) c.in_err-shift_children-in_default.was c.shift_children.ensures in
    rw (handed-on _ _ c.from_residual.ensures.1) (children-full c.args.lift c.args.cells.now c.args.memo.now c.row_of-row.result c.args.expr a c.shift_children.new.cells c.shift_children.new.memo c.shift_children.new.row w _)

pub shift_new-place-requires : goal.shift_new-place-requires
shift_new-place-requires t c =
    let k : c.cell_of.result ≡ cell_of c.args.cells.now c.args.expr 0 = rw c.wide-e.ensures at c.cell_of.ensures in
    let a = ready-all c.args.lift c.args.cells.now c.args.memo.now c.args.expr c.requires (λ z. omega (arith, k ∙ z)) (λ z. omega (arith, k ∙ z)) c.row_of-row.result (rw c.wide-e.ensures at c.row_of-row.ensures) in
    let w = subst (λ (r : Result (Unit {0}) Refusal). WalkedAll (shifted_by c.args.lift) c.args.cells.now c.shift_children.new.cells c.shift_children.new.memo c.row_of-row.result c.shift_children.new.row (is_ok r)) c.in_ok-shift_children-in_default.was c.shift_children.ensures in
    operation-placeable c.args.lift c.args.cells.now c.args.memo.now c.row_of-row.result c.args.expr a c.shift_children.new.cells c.shift_children.new.memo c.shift_children.new.row w

pub shift_new-returns-in_ok-shift_children-in_default : goal.shift_new-returns-in_ok-shift_children-in_default
shift_new-returns-in_ok-shift_children-in_default t c =
    let k : c.cell_of.result ≡ cell_of c.args.cells.now c.args.expr 0 = rw c.wide-e.ensures at c.cell_of.ensures in
    let a = ready-all c.args.lift c.args.cells.now c.args.memo.now c.args.expr c.requires (λ z. omega (arith, k ∙ z)) (λ z. omega (arith, k ∙ z)) c.row_of-row.result (rw c.wide-e.ensures at c.row_of-row.ensures) in
    let w = subst (λ (r : Result (Unit {0}) Refusal). WalkedAll (shifted_by c.args.lift) c.args.cells.now c.shift_children.new.cells c.shift_children.new.memo c.row_of-row.result c.shift_children.new.row (is_ok r)) c.in_ok-shift_children-in_default.was c.shift_children.ensures in
    operation-walked c.args.lift c.args.cells.now c.args.memo.now c.row_of-row.result c.args.expr a c.shift_children.new.cells c.shift_children.new.memo c.shift_children.new.row w c.place.new.cells c.place.result (placed_row _ _ _ _ (operation-placeable c.args.lift c.args.cells.now c.args.memo.now c.row_of-row.result c.args.expr a c.shift_children.new.cells c.shift_children.new.memo c.shift_children.new.row w) c.place.ensures)
