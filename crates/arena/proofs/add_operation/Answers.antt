-- `arena::add_operation` meets its contract.
use Rattle.arena.specs.declared.Refusal.TheVariants.{BadState}
use Rattle.std.specs.Prelude.{Err}
use mathlib.Core.Bool.{true, false}
use mathlib.Core.Path.{◌≡◌, sym, ◌∙◌}
use borrow.Author.Rules.{rules}
use borrow.Author.Tests.{le-leb, lt-leb}
use lib.Dec.{ltb, leb}
use lib.ListN.{length, get_or}
use Rattle.arena.specs.Layout.{count, decode, lawful}
use Rattle.laws.specs.Tests.{each}
use Rattle.arena.specs.Node.{operation}
use Rattle.arena.specs.Arena.{Allowed}
use Rattle.arena.specs.Calls.{in_cells, add_operation}
use Rattle.arena.proofs.Layouts.{length-decode, coded-cells, lawful-holds}
use Rattle.arena.proofs.Refusals.{handed-on}
use Rattle.arena.proofs.Lending.{lent-refused, checked-ok, on-arena, node-of, placeable, operation-allowed}
use Rattle.arena.proofs.add_operation.Goals as goal

pub returns-in_err-check_arena : goal.returns-in_err-check_arena
returns-in_err-check_arena c =
    lent-refused c.args.cells.now _ _ (sym c.in_err-check_arena.ensures) (handed-on _ _ c.from_residual.ensures.1) _

pub returns-then-not-all_below : goal.returns-then-not-all_below
unfolding add_operation in_cells
returns-then-not-all_below c =
    let l : lawful c.args.cells.now ≡ true = checked-ok c.args.cells.now (sym c.in_ok-check_arena.ensures) in
    let a : each (λ k. ltb (get_or c.args.children.now k 0) (length (decode c.args.cells.now))) (length c.args.children.now) ≡ false = rw (length-decode c.args.cells.now, ← c.node_count-n.ensures) (sym c.all_below.ensures ∙ c.if-not-all_below.true) in
    sym (on-arena (Err BadState, c.args.cells.now) (λ ns. in_cells (add_operation c.args.label c.args.children.now ns)) c.args.cells.now l ∙ rw (a, coded-cells _ (lawful-holds _ l)))

pub returns-then-children-gt8 : goal.returns-then-children-gt8
unfolding add_operation in_cells
returns-then-children-gt8 c =
    let l : lawful c.args.cells.now ≡ true = checked-ok c.args.cells.now (sym c.in_ok-check_arena.ensures) in
    let a : each (λ k. ltb (get_or c.args.children.now k 0) (length (decode c.args.cells.now))) (length c.args.children.now) ≡ true = rw (length-decode c.args.cells.now, ← c.node_count-n.ensures) (sym c.all_below.ensures ∙ c.if-not-all_below.false) in
    let m : leb (length c.args.children.now) 8 ≡ false = lt-leb _ _ c.if-children-gt8.true in
    sym (on-arena (Err BadState, c.args.cells.now) (λ ns. in_cells (add_operation c.args.label c.args.children.now ns)) c.args.cells.now l ∙ rw (a, m, coded-cells _ (lawful-holds _ l)))

pub place-requires : goal.place-requires
place-requires c =
    let l : lawful c.args.cells.now ≡ true = checked-ok c.args.cells.now (sym c.in_ok-check_arena.ensures) in
    let a : each (λ k. ltb (get_or c.args.children.now k 0) (length (decode c.args.cells.now))) (length c.args.children.now) ≡ true = rw (length-decode c.args.cells.now, ← c.node_count-n.ensures) (sym c.all_below.ensures ∙ c.if-not-all_below.false) in
    let w : Allowed (count c.args.cells.now) (operation c.args.label c.args.children.now) = operation-allowed c.args.label c.args.children.now c.args.cells.now a (search rules) in
    placeable c.args.cells.now c.operation_row-row.result (operation c.args.label c.args.children.now) l c.operation_row-row.ensures w

pub returns : goal.returns
unfolding add_operation
returns c =
    let l : lawful c.args.cells.now ≡ true = checked-ok c.args.cells.now (sym c.in_ok-check_arena.ensures) in
    let a : each (λ k. ltb (get_or c.args.children.now k 0) (length (decode c.args.cells.now))) (length c.args.children.now) ≡ true = rw (length-decode c.args.cells.now, ← c.node_count-n.ensures) (sym c.all_below.ensures ∙ c.if-not-all_below.false) in
    let m : leb (length c.args.children.now) 8 ≡ true = le-leb _ _ c.if-children-gt8.false in
    let w : Allowed (count c.args.cells.now) (operation c.args.label c.args.children.now) = operation-allowed c.args.label c.args.children.now c.args.cells.now a (search rules) in
    let n = node-of c.args.cells.now c.operation_row-row.result (operation c.args.label c.args.children.now) l c.operation_row-row.ensures w in
    c.place.ensures ∙ rw n (sym (on-arena (Err BadState, c.args.cells.now) (λ ns. in_cells (add_operation c.args.label c.args.children.now ns)) c.args.cells.now l ∙ rw (a, m)))
