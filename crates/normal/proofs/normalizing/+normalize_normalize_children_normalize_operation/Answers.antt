-- `normal::normalizing::normalize`, `normal::normalizing::normalize_children`, `normal::normalizing::normalize_operation` meet their contracts: one proof for their cycle of calls.
use Prim.Native.Nat.{ℕ, ◌<◌}
use Rattle.std.specs.Prelude.{Result, is_ok}
use Rattle.arena.specs.declared.Refusal.{Refusal}
use Rattle.arena.proofs.Refusals.{handed-on}
use mathlib.Core.Path.{◌≡◌, sym, ap, subst, ◌∙◌}
use native.Mathlib.Omega.{arith}
use lib.ListN.{length, get_or}
use Rattle.arena.specs.Node.{node_at, child_numbers}
use Rattle.arena.specs.Layout.{children_of, decode}
use Rattle.arena.specs.Inner.{WalkedAll}
use Rattle.arena.proofs.Walking.{PlacedRow, children-count, placed_row, through-ends}
use Rattle.normal.specs.Inner.{rewriting}
use Rattle.normal.proofs.Steps.{ready-known, memo-hit, answer-small, answer-noted, leaf_walked, ready-all, children_eight, loop_begins, loop_lower, loop_ready, loop_more, loop_fails, children-full, operation-placeable, operation-full, operation-walked}
use Rattle.normal.proofs.normalizing.+normalize_normalize_children_normalize_operation.Goals as goal

pub normalize-replacement-first-requires : goal.normalize-replacement-first-requires
normalize-replacement-first-requires t c =
    omega (arith, c.requires.there, c.requires.holds.few)

pub normalize-child_count-requires : goal.normalize-child_count-requires
normalize-child_count-requires t c =
    rw c.wide-e.ensures (ready-known c.args.old c.args.firsts.now c.args.cells.now c.args.memo.now c.args.expr c.requires)

pub normalize-returns-then-child_count-eq0 : goal.normalize-returns-then-child_count-eq0
normalize-returns-then-child_count-eq0 t c =
    let v = c.wide-e.ensures in
    let n : c.child_count.result ≡ length (child_numbers (node_at (decode c.args.cells.now) c.args.expr)) = rw v at c.child_count.ensures in
    rw c.replacement-first.ensures (leaf_walked c.args.old c.args.firsts.now c.args.cells.now c.args.memo.now c.args.expr c.requires (sym n ∙ c.if-child_count-eq0.true))

pub normalize-returns-then-entry-ne0 : goal.normalize-returns-then-entry-ne0
normalize-returns-then-entry-ne0 t c =
    let v = c.wide-e.ensures in
    rw v (memo-hit c.args.old c.args.firsts.now c.args.cells.now c.args.memo.now c.args.expr c.requires (λ z. c.if-entry-ne0.true (ap (λ (k : ℕ). get_or c.args.memo.now k 0) v ∙ z)))

pub normalize-normalize_operation-answer-requires : goal.normalize-normalize_operation-answer-requires
normalize-normalize_operation-answer-requires t c =
    let v = c.wide-e.ensures in
    let n : c.child_count.result ≡ length (child_numbers (node_at (decode c.args.cells.now) c.args.expr)) = rw v at c.child_count.ensures in
    (omega (arith, c.decreases), (c.requires, omega (arith, n, c.if-child_count-eq0.false)))

pub normalize-note-requires : goal.normalize-note-requires
normalize-note-requires t c =
    let v = c.wide-e.ensures in
    let x = c.normalize_operation-answer in
    (omega (arith, v, c.requires.below, c.requires.there, c.requires.holds.few), answer-small c.args.old c.args.firsts.now c.args.cells.now c.args.memo.now c.args.expr c.requires x.new.cells x.new.memo x.result x.ensures)

pub normalize-returns : goal.normalize-returns
normalize-returns t c =
    let v = c.wide-e.ensures in
    let x = c.normalize_operation-answer in
    rw (c.note.ensures, v) (answer-noted c.args.old c.args.firsts.now c.args.cells.now c.args.memo.now c.args.expr c.requires x.new.cells x.new.memo x.result x.ensures)

pub normalize_children-loop-k-init : goal.normalize_children-loop-k-init
normalize_children-loop-k-init t c =
    loop_begins c.args.old c.args.firsts.now c.args.cells.now c.args.memo.now c.args.row.now c.args.expr c.requires

pub normalize_children-overflow_add-child : goal.normalize_children-overflow_add-child
normalize_children-overflow_add-child t c =
    let o = c.loop-k in
    let l : o.k < length (children_of c.args.row.now) = omega (arith, children-count c.args.row.now, c.wide-k-end.ensures) in
    omega (arith, l, children_eight c.args.old c.args.firsts.now c.args.cells.now c.args.memo.now c.args.row.now c.args.expr c.requires)

pub normalize_children-offset_bounds-row-k : goal.normalize_children-offset_bounds-row-k
normalize_children-offset_bounds-row-k t c =
    let o = c.loop-k in
    let l : o.k < length (children_of c.args.row.now) = omega (arith, children-count c.args.row.now, c.wide-k-end.ensures) in
    omega (arith, l, children_eight c.args.old c.args.firsts.now c.args.cells.now c.args.memo.now c.args.row.now c.args.expr c.requires)

pub normalize_children-bounds-row-k : goal.normalize_children-bounds-row-k
normalize_children-bounds-row-k t c =
    let o = c.loop-k in
    let l : o.k < length (children_of c.args.row.now) = omega (arith, children-count c.args.row.now, c.wide-k-end.ensures) in
    omega (arith, l, children_eight c.args.old c.args.firsts.now c.args.cells.now c.args.memo.now c.args.row.now c.args.expr c.requires)

pub normalize_children-normalize-requires : goal.normalize_children-normalize-requires
normalize_children-normalize-requires t c =
    let o = c.loop-k in
    let l : o.k < length (children_of c.args.row.now) = omega (arith, children-count c.args.row.now, c.wide-k-end.ensures) in
    (omega (arith, loop_lower c.args.old c.args.firsts.now c.args.cells.now c.args.memo.now c.args.row.now c.args.expr c.requires o.cells o.memo o.row o.k o.invariant l, c.decreases), loop_ready c.args.old c.args.firsts.now c.args.cells.now c.args.memo.now c.args.row.now c.args.expr c.requires o.cells o.memo o.row o.k o.invariant l)

pub normalize_children-returns-in_err-i : goal.normalize_children-returns-in_err-i
normalize_children-returns-in_err-i t c =
    let o = c.loop-k in
    let l : o.k < length (children_of c.args.row.now) = omega (arith, children-count c.args.row.now, c.wide-k-end.ensures) in
    let x = c.normalize in
    rw (handed-on _ _ c.from_residual.ensures.1) (loop_fails c.args.old c.args.firsts.now c.args.cells.now c.args.memo.now c.args.row.now c.args.expr c.requires o.cells o.memo o.row o.k o.invariant l x.new.cells x.new.memo x.result x.ensures _ c.in_err-i.was)

pub normalize_children-overflow_add-row : goal.normalize_children-overflow_add-row
normalize_children-overflow_add-row t c =
    let o = c.loop-k in
    let l : o.k < length (children_of c.args.row.now) = omega (arith, children-count c.args.row.now, c.wide-k-end.ensures) in
    omega (arith, l, children_eight c.args.old c.args.firsts.now c.args.cells.now c.args.memo.now c.args.row.now c.args.expr c.requires)

pub normalize_children-offset_bounds-row-k-in-loop-k : goal.normalize_children-offset_bounds-row-k-in-loop-k
normalize_children-offset_bounds-row-k-in-loop-k t c =
    let o = c.loop-k in
    let l : o.k < length (children_of c.args.row.now) = omega (arith, children-count c.args.row.now, c.wide-k-end.ensures) in
    omega (arith, l, children_eight c.args.old c.args.firsts.now c.args.cells.now c.args.memo.now c.args.row.now c.args.expr c.requires)

pub normalize_children-bounds-row-k-in-loop-k : goal.normalize_children-bounds-row-k-in-loop-k
normalize_children-bounds-row-k-in-loop-k t c =
    let o = c.loop-k in
    let l : o.k < length (children_of c.args.row.now) = omega (arith, children-count c.args.row.now, c.wide-k-end.ensures) in
    omega (arith, l, children_eight c.args.old c.args.firsts.now c.args.cells.now c.args.memo.now c.args.row.now c.args.expr c.requires)

pub normalize_children-loop-k-preserved : goal.normalize_children-loop-k-preserved
normalize_children-loop-k-preserved t c =
    let o = c.loop-k in
    let l : o.k < length (children_of c.args.row.now) = omega (arith, children-count c.args.row.now, c.wide-k-end.ensures) in
    let x = c.normalize in
    loop_more c.args.old c.args.firsts.now c.args.cells.now c.args.memo.now c.args.row.now c.args.expr c.requires o.cells o.memo o.row o.k o.invariant l x.new.cells x.new.memo x.result x.ensures c.in_ok-i.i c.in_ok-i.was

pub normalize_children-returns : goal.normalize_children-returns
normalize_children-returns t c =
    let o = c.loop-k in
    let e : length (children_of c.args.row.now) ≡ o.k = omega (arith, children-count c.args.row.now, c.wide-k-end.ensures) in
    through-ends (rewriting c.args.old c.args.firsts.now c.args.cells.now) c.args.cells.now c.args.row.now o.cells o.memo o.row o.k o.invariant e

pub normalize_operation-row_of-row-requires : goal.normalize_operation-row_of-row-requires
normalize_operation-row_of-row-requires t c =
    omega (arith, c.wide.ensures, c.requires.0.below, c.requires.0.there, c.requires.0.holds.few)

pub normalize_operation-normalize_children-requires : goal.normalize_operation-normalize_children-requires
normalize_operation-normalize_children-requires t c =
    let r = c.row_of-row.result in
    let a = ready-all c.args.old c.args.firsts.now c.args.cells.now c.args.memo.now c.args.expr c.requires.0 (λ z. omega (arith, z, c.requires.1)) r (rw c.wide.ensures at c.row_of-row.ensures) in
    (omega (arith, c.decreases), a)

pub normalize_operation-returns-in_err-normalize_children : goal.normalize_operation-returns-in_err-normalize_children
normalize_operation-returns-in_err-normalize_children t c =
    let r = c.row_of-row.result in
    let a = ready-all c.args.old c.args.firsts.now c.args.cells.now c.args.memo.now c.args.expr c.requires.0 (λ z. omega (arith, z, c.requires.1)) r (rw c.wide.ensures at c.row_of-row.ensures) in
    let x = c.normalize_children in
    let w = subst (λ (o : Result (Unit {0}) Refusal). WalkedAll (rewriting c.args.old c.args.firsts.now c.args.cells.now) c.args.cells.now x.new.cells x.new.memo r x.new.row (is_ok o)) c.in_err-normalize_children.was x.ensures in
    rw (handed-on _ _ c.from_residual.ensures.1) (children-full c.args.old c.args.firsts.now c.args.cells.now c.args.memo.now r c.args.expr a x.new.cells x.new.memo x.new.row w _)

pub normalize_operation-place-requires : goal.normalize_operation-place-requires
normalize_operation-place-requires t c =
    let r = c.row_of-row.result in
    let a = ready-all c.args.old c.args.firsts.now c.args.cells.now c.args.memo.now c.args.expr c.requires.0 (λ z. omega (arith, z, c.requires.1)) r (rw c.wide.ensures at c.row_of-row.ensures) in
    let x = c.normalize_children in
    let w = subst (λ (o : Result (Unit {0}) Refusal). WalkedAll (rewriting c.args.old c.args.firsts.now c.args.cells.now) c.args.cells.now x.new.cells x.new.memo r x.new.row (is_ok o)) c.in_ok-normalize_children.was x.ensures in
    operation-placeable c.args.old c.args.firsts.now c.args.cells.now c.args.memo.now r c.args.expr a x.new.cells x.new.memo x.new.row w

pub normalize_operation-returns-in_err-i : goal.normalize_operation-returns-in_err-i
normalize_operation-returns-in_err-i t c =
    let r = c.row_of-row.result in
    let a = ready-all c.args.old c.args.firsts.now c.args.cells.now c.args.memo.now c.args.expr c.requires.0 (λ z. omega (arith, z, c.requires.1)) r (rw c.wide.ensures at c.row_of-row.ensures) in
    let x = c.normalize_children in
    let w = subst (λ (o : Result (Unit {0}) Refusal). WalkedAll (rewriting c.args.old c.args.firsts.now c.args.cells.now) c.args.cells.now x.new.cells x.new.memo r x.new.row (is_ok o)) c.in_ok-normalize_children.was x.ensures in
    let y = c.place in
    let p = subst (PlacedRow x.new.row x.new.cells y.new.cells) c.in_err-i.was (placed_row x.new.row x.new.cells y.new.cells y.result (operation-placeable c.args.old c.args.firsts.now c.args.cells.now c.args.memo.now r c.args.expr a x.new.cells x.new.memo x.new.row w) y.ensures) in
    rw (handed-on _ _ c.from_residual-in_err-i.ensures.1) (operation-full c.args.old c.args.firsts.now c.args.cells.now c.args.memo.now r c.args.expr a x.new.cells x.new.memo x.new.row w y.new.cells _ p _)

pub normalize_operation-replacement-requires : goal.normalize_operation-replacement-requires
normalize_operation-replacement-requires t c =
    omega (arith, c.requires.0.there, c.requires.0.holds.few)

pub normalize_operation-returns : goal.normalize_operation-returns
normalize_operation-returns t c =
    let r = c.row_of-row.result in
    let a = ready-all c.args.old c.args.firsts.now c.args.cells.now c.args.memo.now c.args.expr c.requires.0 (λ z. omega (arith, z, c.requires.1)) r (rw c.wide.ensures at c.row_of-row.ensures) in
    let x = c.normalize_children in
    let w = subst (λ (o : Result (Unit {0}) Refusal). WalkedAll (rewriting c.args.old c.args.firsts.now c.args.cells.now) c.args.cells.now x.new.cells x.new.memo r x.new.row (is_ok o)) c.in_ok-normalize_children.was x.ensures in
    let y = c.place in
    let p = subst (PlacedRow x.new.row x.new.cells y.new.cells) c.in_ok-i.was (placed_row x.new.row x.new.cells y.new.cells y.result (operation-placeable c.args.old c.args.firsts.now c.args.cells.now c.args.memo.now r c.args.expr a x.new.cells x.new.memo x.new.row w) y.ensures) in
    rw c.replacement.ensures (operation-walked c.args.old c.args.firsts.now c.args.cells.now c.args.memo.now r c.args.expr a x.new.cells x.new.memo x.new.row w y.new.cells c.in_ok-i.i p)
