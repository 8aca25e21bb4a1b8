-- `projection::walking::project_children`, `projection::walking::project_node` meet their contracts: one proof for their cycle of calls.
use Rattle.arena.specs.declared.Refusal.TheVariants.{ArenaFull}
use mathlib.Core.Path.{◌≡◌, sym, ap, subst, ◌∙◌}
use native.Mathlib.Omega.{arith}
use lib.ListN.{length, get_or}
use Rattle.arena.specs.Layout.{children_of}
use Rattle.arena.proofs.Walking.{children-count, placed_row}
use Rattle.projection.specs.Inner.{WalkedFrom}
use Rattle.projection.proofs.WalkLaws.{children-done, child-lower, child-ready, child-full, others-ready, others-walked, ready-below, entry-answers, children-ready, children-full, operation-placeable, answer-small, operation-walked}
use Prim.Native.Nat.{ℕ, ◌<◌}
use Rattle.projection.proofs.walking.+project_children_project_node.Goals as goal

pub project_children-returns-then-wide-k : goal.project_children-returns-then-wide-k
project_children-returns-then-wide-k t c =
    children-done c.args.cells.now c.args.table.now c.args.row.now c.args.expr c.args.k c.requires (omega (arith, children-count c.args.row.now, c.wide.ensures, c.if-wide-k.true))

pub project_children-overflow_add-k : goal.project_children-overflow_add-k
project_children-overflow_add-k t c =
    omega (arith, children-count c.args.row.now, c.wide.ensures, c.if-wide-k.false, c.requires.few)

pub project_children-offset_bounds-row-k : goal.project_children-offset_bounds-row-k
project_children-offset_bounds-row-k t c =
    omega (arith, children-count c.args.row.now, c.wide.ensures, c.if-wide-k.false, c.requires.few)

pub project_children-bounds-row-k : goal.project_children-bounds-row-k
project_children-bounds-row-k t c =
    omega (arith, children-count c.args.row.now, c.wide.ensures, c.if-wide-k.false, c.requires.few)

pub project_children-project_node-requires : goal.project_children-project_node-requires
project_children-project_node-requires t c =
    let l : c.args.k < length (children_of c.args.row.now) = omega (arith, children-count c.args.row.now, c.wide.ensures, c.if-wide-k.false) in
    (omega (arith, child-lower c.args.cells.now c.args.table.now c.args.row.now c.args.expr c.args.k c.requires l, c.decreases, c.requires.few), child-ready c.args.cells.now c.args.table.now c.args.row.now c.args.expr c.args.k c.requires l)

pub project_children-returns-in_default : goal.project_children-returns-in_default
project_children-returns-in_default t c =
    let l : c.args.k < length (children_of c.args.row.now) = omega (arith, children-count c.args.row.now, c.wide.ensures, c.if-wide-k.false) in
    let x = c.project_node in
    child-full c.args.cells.now c.args.table.now c.args.row.now c.args.expr c.args.k c.requires l x.new.cells x.new.table x.result x.ensures c.in_default.field-0 c.in_default.is

pub project_children-overflow_add-row : goal.project_children-overflow_add-row
project_children-overflow_add-row t c =
    omega (arith, children-count c.args.row.now, c.wide.ensures, c.if-wide-k.false, c.requires.few)

pub project_children-offset_bounds-row-k-2 : goal.project_children-offset_bounds-row-k-2
project_children-offset_bounds-row-k-2 t c =
    omega (arith, children-count c.args.row.now, c.wide.ensures, c.if-wide-k.false, c.requires.few)

pub project_children-bounds-row-k-2 : goal.project_children-bounds-row-k-2
project_children-bounds-row-k-2 t c =
    omega (arith, children-count c.args.row.now, c.wide.ensures, c.if-wide-k.false, c.requires.few)

pub project_children-overflow_add-k-2 : goal.project_children-overflow_add-k-2
project_children-overflow_add-k-2 t c =
    omega (arith, children-count c.args.row.now, c.wide.ensures, c.if-wide-k.false, c.requires.few)

pub project_children-project_children-requires : goal.project_children-project_children-requires
project_children-project_children-requires t c =
    let l : c.args.k < length (children_of c.args.row.now) = omega (arith, children-count c.args.row.now, c.wide.ensures, c.if-wide-k.false) in
    let x = c.project_node in
    (omega (arith, l, c.decreases, c.requires.few), others-ready c.args.cells.now c.args.table.now c.args.row.now c.args.expr c.args.k c.requires l x.new.cells x.new.table x.result x.ensures c.in-Ok.i c.in-Ok.is)

pub project_children-returns : goal.project_children-returns
project_children-returns t c =
    let l : c.args.k < length (children_of c.args.row.now) = omega (arith, children-count c.args.row.now, c.wide.ensures, c.if-wide-k.false) in
    let x = c.project_node in
    let y = c.project_children in
    others-walked c.args.cells.now c.args.table.now c.args.row.now c.args.expr c.args.k c.requires l x.new.cells x.new.table x.result x.ensures c.in-Ok.i c.in-Ok.is y.new.cells y.new.table y.new.row y.result y.ensures

pub project_node-offset_bounds-table-e : goal.project_node-offset_bounds-table-e
project_node-offset_bounds-table-e t c =
    omega (arith, c.wide-e.ensures, ready-below c.args.cells.now c.args.table.now c.args.expr c.requires, c.requires.holds.few)

pub project_node-bounds-table-e : goal.project_node-bounds-table-e
project_node-bounds-table-e t c =
    omega (arith, c.wide-e.ensures, ready-below c.args.cells.now c.args.table.now c.args.expr c.requires, c.requires.holds.few)

pub project_node-overflow_sub-result : goal.project_node-overflow_sub-result
project_node-overflow_sub-result t c =
    let v = c.wide-e.ensures in
    let n : get_or c.args.table.now c.wide-e.result 0 ≡ get_or c.args.table.now c.args.expr 0 = ap (λ (k : ℕ). get_or c.args.table.now k 0) v in
    omega (arith, n, c.requires.projects, c.if-entry-ne1.true)

pub project_node-returns-then-entry-ne1 : goal.project_node-returns-then-entry-ne1
project_node-returns-then-entry-ne1 t c =
    let v = c.wide-e.ensures in
    rw v (entry-answers c.args.cells.now c.args.table.now c.args.expr c.requires (λ z. c.if-entry-ne1.true (ap (λ (k : ℕ). get_or c.args.table.now k 0) v ∙ z)))

pub project_node-row_of-row-requires : goal.project_node-row_of-row-requires
project_node-row_of-row-requires t c =
    omega (arith, c.wide-e.ensures, ready-below c.args.cells.now c.args.table.now c.args.expr c.requires, c.requires.holds.few)

pub project_node-project_children-requires : goal.project_node-project_children-requires
project_node-project_children-requires t c =
    let v = c.wide-e.ensures in
    let o : get_or c.args.table.now c.args.expr 0 ≡ 1 = ap (λ (k : ℕ). get_or c.args.table.now k 0) (sym v) ∙ c.if-entry-ne1.false in
    (omega (arith, c.decreases), children-ready c.args.cells.now c.args.table.now c.args.expr c.requires o c.row_of-row.result (rw v at c.row_of-row.ensures))

pub project_node-returns-then-not-project_children : goal.project_node-returns-then-not-project_children
project_node-returns-then-not-project_children t c =
    let v = c.wide-e.ensures in
    let o : get_or c.args.table.now c.args.expr 0 ≡ 1 = ap (λ (k : ℕ). get_or c.args.table.now k 0) (sym v) ∙ c.if-entry-ne1.false in
    let x = c.project_children in
    let r = c.row_of-row.result in
    let w = subst (WalkedFrom c.args.cells.now c.args.table.now r x.new.cells x.new.table x.new.row c.args.expr 0) c.if-not-project_children.true x.ensures in
    children-full c.args.cells.now c.args.table.now c.args.expr c.requires o r (rw v at c.row_of-row.ensures) x.new.cells x.new.table x.new.row w ArenaFull

pub project_node-place-answer-requires : goal.project_node-place-answer-requires
project_node-place-answer-requires t c =
    let v = c.wide-e.ensures in
    let o : get_or c.args.table.now c.args.expr 0 ≡ 1 = ap (λ (k : ℕ). get_or c.args.table.now k 0) (sym v) ∙ c.if-entry-ne1.false in
    let x = c.project_children in
    let r = c.row_of-row.result in
    let w = subst (WalkedFrom c.args.cells.now c.args.table.now r x.new.cells x.new.table x.new.row c.args.expr 0) c.if-not-project_children.false x.ensures in
    operation-placeable c.args.cells.now c.args.table.now c.args.expr c.requires o r (rw v at c.row_of-row.ensures) x.new.cells x.new.table x.new.row w

pub project_node-settle-requires : goal.project_node-settle-requires
project_node-settle-requires t c =
    let v = c.wide-e.ensures in
    let o : get_or c.args.table.now c.args.expr 0 ≡ 1 = ap (λ (k : ℕ). get_or c.args.table.now k 0) (sym v) ∙ c.if-entry-ne1.false in
    let x = c.project_children in
    let y = c.place-answer in
    let r = c.row_of-row.result in
    let q = rw v at c.row_of-row.ensures in
    let w = subst (WalkedFrom c.args.cells.now c.args.table.now r x.new.cells x.new.table x.new.row c.args.expr 0) c.if-not-project_children.false x.ensures in
    let m = operation-placeable c.args.cells.now c.args.table.now c.args.expr c.requires o r q x.new.cells x.new.table x.new.row w in
    (omega (arith, v, ready-below c.args.cells.now c.args.table.now c.args.expr c.requires, c.requires.holds.few), answer-small c.args.cells.now c.args.table.now c.args.expr c.requires o r q x.new.cells x.new.table x.new.row w y.new.cells y.result (placed_row x.new.row x.new.cells y.new.cells y.result m y.ensures))

pub project_node-returns : goal.project_node-returns
project_node-returns t c =
    let v = c.wide-e.ensures in
    let o : get_or c.args.table.now c.args.expr 0 ≡ 1 = ap (λ (k : ℕ). get_or c.args.table.now k 0) (sym v) ∙ c.if-entry-ne1.false in
    let x = c.project_children in
    let y = c.place-answer in
    let r = c.row_of-row.result in
    let q = rw v at c.row_of-row.ensures in
    let w = subst (WalkedFrom c.args.cells.now c.args.table.now r x.new.cells x.new.table x.new.row c.args.expr 0) c.if-not-project_children.false x.ensures in
    let m = operation-placeable c.args.cells.now c.args.table.now c.args.expr c.requires o r q x.new.cells x.new.table x.new.row w in
    rw (c.settle.ensures, v) (operation-walked c.args.cells.now c.args.table.now c.args.expr c.requires o r q x.new.cells x.new.table x.new.row w y.new.cells y.result (placed_row x.new.row x.new.cells y.new.cells y.result m y.ensures))
