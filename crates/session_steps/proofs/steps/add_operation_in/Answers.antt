-- `session_steps::steps::add_operation_in` meets its contract.
use Prim.Native.Nat.{ℕ}
use mathlib.Core.Bool.{true, false}
use mathlib.Core.List.{List}
use mathlib.Core.Path.{◌≡◌, sym, ap, ◌∙◌, subst}
use native.Mathlib.Omega.{arith}
use lib.Dec.{ltb}
use lib.ListN.{length, get_or}
use lib.Seq.{length-take-le}
use Rattle.laws.specs.Tests.{each}
use Rattle.arena.specs.Node.{Node, operation}
use Rattle.arena.specs.Arena.{add}
use Rattle.arena.specs.Layout.{row, decode as nodes_in}
use Rattle.arena.specs.Calls.{answered, in_cells, add_operation}
use Rattle.arena.proofs.Layouts.{length-decode, holds-lawful}
use Rattle.arena.proofs.Lending.{node-of, placeable, operation-allowed}
use Rattle.records.specs.Fields.{fields}
use Rattle.records.proofs.Items.{length_fields}
use Rattle.session_steps.specs.State.{added_reply}
use Rattle.session_steps.proofs.Answering.{told_in, added-told}
use Rattle.session_steps.proofs.Deciding.{operation-unknown, operation-many, operation-added}
use Rattle.session_steps.proofs.steps.add_operation_in.Goals as goal

pub returns-then-not-children_below : goal.returns-then-not-children_below
returns-then-not-children_below c =
    let e : length (nodes_in c.args.cells.now) ≡ c.node_count-count.result = length-decode c.args.cells.now ∙ sym c.node_count-count.ensures in
    let a : each (λ k. ltb (get_or (fields c.args.body.now 4 c.args.n) k 0) (length (nodes_in c.args.cells.now))) c.args.n ≡ false = ap (λ (m : ℕ). each (λ k. ltb (get_or (fields c.args.body.now 4 c.args.n) k 0) m) c.args.n) e ∙ sym c.children_below.ensures ∙ c.if-not-children_below.true in
    operation-unknown c.args.label c.args.n c.args.body.now c.args.cells.now c.requires.0 a

pub returns-then-n-gt8 : goal.returns-then-n-gt8
returns-then-n-gt8 c =
    let e : length (nodes_in c.args.cells.now) ≡ c.node_count-count.result = length-decode c.args.cells.now ∙ sym c.node_count-count.ensures in
    let a : each (λ k. ltb (get_or (fields c.args.body.now 4 c.args.n) k 0) (length (nodes_in c.args.cells.now))) c.args.n ≡ true = ap (λ (m : ℕ). each (λ k. ltb (get_or (fields c.args.body.now 4 c.args.n) k 0) m) c.args.n) e ∙ sym c.children_below.ensures ∙ c.if-not-children_below.false in
    operation-many c.args.label c.args.n c.args.body.now c.args.cells.now c.requires.0 a c.if-n-gt8.true

pub slice_bounds-operation_row-end : goal.slice_bounds-operation_row-end
slice_bounds-operation_row-end c =
    sym (length-take-le c.args.n c.children_of-children.result (omega (arith, c.children_of-children.ensures.0, c.if-n-gt8.false)))

pub operation_row-row-requires : goal.operation_row-row-requires
operation_row-row-requires c =
    omega (arith, length-take-le c.args.n c.children_of-children.result (omega (arith, c.children_of-children.ensures.0, c.if-n-gt8.false)), c.if-n-gt8.false)

pub place-requires : goal.place-requires
place-requires c =
    let e : length (nodes_in c.args.cells.now) ≡ c.node_count-count.result = length-decode c.args.cells.now ∙ sym c.node_count-count.ensures in
    let a : each (λ k. ltb (get_or (fields c.args.body.now 4 c.args.n) k 0) (length (nodes_in c.args.cells.now))) c.args.n ≡ true = ap (λ (m : ℕ). each (λ k. ltb (get_or (fields c.args.body.now 4 c.args.n) k 0) m) c.args.n) e ∙ sym c.children_below.ensures ∙ c.if-not-children_below.false in
    let q : c.operation_row-row.result ≡ row (operation c.args.label (fields c.args.body.now 4 c.args.n)) = c.operation_row-row.ensures ∙ ap (λ (t : List ℕ). row (operation c.args.label t)) c.children_of-children.ensures.1 in
    let w = operation-allowed c.args.label (fields c.args.body.now 4 c.args.n) c.args.cells.now (subst (λ (m : ℕ). each (λ k. ltb (get_or (fields c.args.body.now 4 c.args.n) k 0) (length (nodes_in c.args.cells.now))) m ≡ true) (sym (length_fields c.args.body.now 4 c.args.n)) a) (omega (arith, length_fields c.args.body.now 4 c.args.n, c.if-n-gt8.false)) in
    placeable c.args.cells.now c.operation_row-row.result (operation c.args.label (fields c.args.body.now 4 c.args.n)) (holds-lawful c.args.cells.now c.requires.0) q w

pub returns : goal.returns
returns c =
    let e : length (nodes_in c.args.cells.now) ≡ c.node_count-count.result = length-decode c.args.cells.now ∙ sym c.node_count-count.ensures in
    let a : each (λ k. ltb (get_or (fields c.args.body.now 4 c.args.n) k 0) (length (nodes_in c.args.cells.now))) c.args.n ≡ true = ap (λ (m : ℕ). each (λ k. ltb (get_or (fields c.args.body.now 4 c.args.n) k 0) m) c.args.n) e ∙ sym c.children_below.ensures ∙ c.if-not-children_below.false in
    let q : c.operation_row-row.result ≡ row (operation c.args.label (fields c.args.body.now 4 c.args.n)) = c.operation_row-row.ensures ∙ ap (λ (t : List ℕ). row (operation c.args.label t)) c.children_of-children.ensures.1 in
    let w = operation-allowed c.args.label (fields c.args.body.now 4 c.args.n) c.args.cells.now (subst (λ (m : ℕ). each (λ k. ltb (get_or (fields c.args.body.now 4 c.args.n) k 0) (length (nodes_in c.args.cells.now))) m ≡ true) (sym (length_fields c.args.body.now 4 c.args.n)) a) (omega (arith, length_fields c.args.body.now 4 c.args.n, c.if-n-gt8.false)) in
    let n = node-of c.args.cells.now c.operation_row-row.result (operation c.args.label (fields c.args.body.now 4 c.args.n)) (holds-lawful c.args.cells.now c.requires.0) q w in
    told_in added_reply (add_operation c.args.label (fields c.args.body.now 4 c.args.n) (nodes_in c.args.cells.now)) c.place.result c.place.new.cells c.quiet.result
    (c.place.ensures ∙ ap (λ (x : Node). in_cells (answered (nodes_in c.args.cells.now) (add x (nodes_in c.args.cells.now)))) n ∙ sym (ap in_cells (operation-added c.args.label c.args.n c.args.body.now c.args.cells.now a c.if-n-gt8.false))) (c.quiet.ensures ∙ added-told _)
