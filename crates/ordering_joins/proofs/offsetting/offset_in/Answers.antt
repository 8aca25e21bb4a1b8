-- `ordering_joins::offsetting::offset_in` meets its contract.
use Prim.Native.Nat.{ℕ, ◌<◌}
use mathlib.Core.Path.{◌≡◌, ap, subst, ◌∙◌}
use native.Mathlib.Omega.{arith}
use lib.IntN.{ℤ}
use mir.Facts.{to_z-of_z}
use Rattle.orderings.specs.declared.Listed.{Listed}
use Rattle.shifting.specs.Shift.{moved}
use Rattle.shifting.specs.Inner.{lifted}
use Rattle.ordering_joins.proofs.KeyTests.{there-low}
use Rattle.ordering_joins.proofs.OffsetCall.{table-moves, offset_out, offset_ready, offset_full, offset_done}
use Rattle.ordering_joins.proofs.offsetting.offset_in.Goals as goal

pub movable-table-requires : goal.movable-table-requires
movable-table-requires c =
    ((c.requires.holds, omega (arith, c.node_count-n.ensures)), c.lift_of-lift.ensures.0)

pub lists_move-requires : goal.lists_move-requires
lists_move-requires c = there-low c.args.cells.now c.args.g c.requires

pub returns-then-not-lists_move : goal.returns-then-not-lists_move
returns-then-not-lists_move c =
    let w = c.lift_of-lift in
    let agree : (i : ℕ) → i < 65536 → moved c.args.offset i ≡ lifted w.result i = subst (λ (z : ℤ). (i : ℕ) → i < 65536 → moved z i ≡ lifted w.result i) (to_z-of_z c.ranges.offset) w.ensures.1 in
    let n = c.node_count-n in
    let t = c.movable-table in
    let is = table-moves w.result c.args.cells.now c.args.g c.requires t.result n.result n.ensures t.ensures c.lists_move.result c.lists_move.ensures in
    ap (λ (x : Listed). (x, c.args.cells.now)) c.refusal.ensures ∙ offset_out c.args.cells.now c.args.g c.args.offset w.result c.requires agree (is ∙ c.if-not-lists_move.true)

pub shift_lists-requires : goal.shift_lists-requires
shift_lists-requires c =
    let w = c.lift_of-lift in
    let agree : (i : ℕ) → i < 65536 → moved c.args.offset i ≡ lifted w.result i = subst (λ (z : ℤ). (i : ℕ) → i < 65536 → moved z i ≡ lifted w.result i) (to_z-of_z c.ranges.offset) w.ensures.1 in
    let n = c.node_count-n in
    let t = c.movable-table in
    let is = table-moves w.result c.args.cells.now c.args.g c.requires t.result n.result n.ensures t.ensures c.lists_move.result c.lists_move.ensures in
    offset_ready c.args.cells.now c.args.g c.args.offset w.result c.requires agree (is ∙ c.if-not-lists_move.false) w.ensures.0 1024

pub returns-in-Ok : goal.returns-in-Ok
returns-in-Ok c =
    let w = c.lift_of-lift in
    let agree : (i : ℕ) → i < 65536 → moved c.args.offset i ≡ lifted w.result i = subst (λ (z : ℤ). (i : ℕ) → i < 65536 → moved z i ≡ lifted w.result i) (to_z-of_z c.ranges.offset) w.ensures.1 in
    let n = c.node_count-n in
    let t = c.movable-table in
    let is = table-moves w.result c.args.cells.now c.args.g c.requires t.result n.result n.ensures t.ensures c.lists_move.result c.lists_move.ensures in
    let s = c.shift_lists in
    offset_done c.args.cells.now c.args.g c.args.offset w.result c.requires agree (is ∙ c.if-not-lists_move.false) s.new.cells s.result s.ensures c.in-Ok.list c.in-Ok.is

pub returns-in-Err : goal.returns-in-Err
returns-in-Err c =
    let w = c.lift_of-lift in
    let agree : (i : ℕ) → i < 65536 → moved c.args.offset i ≡ lifted w.result i = subst (λ (z : ℤ). (i : ℕ) → i < 65536 → moved z i ≡ lifted w.result i) (to_z-of_z c.ranges.offset) w.ensures.1 in
    let n = c.node_count-n in
    let t = c.movable-table in
    let is = table-moves w.result c.args.cells.now c.args.g c.requires t.result n.result n.ensures t.ensures c.lists_move.result c.lists_move.ensures in
    let s = c.shift_lists in
    ap (λ (x : Listed). (x, c.args.cells.now)) c.refusal-in-Err.ensures
    ∙ offset_full c.args.cells.now c.args.g c.args.offset w.result c.requires agree (is ∙ c.if-not-lists_move.false) s.new.cells s.result s.ensures c.in-Err.field-0 c.in-Err.is
