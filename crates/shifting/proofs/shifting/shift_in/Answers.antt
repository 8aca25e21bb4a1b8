-- `shifting::shifting::shift_in` meets its contract.
use Prim.Native.Nat.{ℕ, ◌<◌}
use mathlib.Core.Path.{◌≡◌, sym, subst, ◌∙◌}
use lib.IntN.{ℤ}
use mir.Facts.{to_z-of_z}
use Rattle.shifting.specs.Shift.{moved}
use Rattle.shifting.specs.Inner.{lifted}
use Rattle.shifting.proofs.Shifts.{shift-out, shift-ready, shift-done, shift-full}
use Rattle.shifting.proofs.shifting.shift_in.Goals as goal

pub can_move-requires : goal.can_move-requires
can_move-requires c =
    rw c.wide.ensures (c.requires, c.lift_of-lift.ensures.0)

pub returns-then-not-can_move : goal.returns-then-not-can_move
returns-then-not-can_move c =
    let g : (i : ℕ) → i < 65536 → moved c.args.offset i ≡ lifted c.lift_of-lift.result i = subst (λ (z : ℤ). (i : ℕ) → i < 65536 → moved z i ≡ lifted c.lift_of-lift.result i) (to_z-of_z c.ranges.offset) c.lift_of-lift.ensures.1 in
    sym (shift-out c.args.cells.now c.args.expr c.args.offset c.lift_of-lift.result c.requires g (sym (rw c.wide.ensures at c.can_move.ensures) ∙ c.if-not-can_move.true))

pub shift-answer-requires : goal.shift-answer-requires
shift-answer-requires c =
    let g : (i : ℕ) → i < 65536 → moved c.args.offset i ≡ lifted c.lift_of-lift.result i = subst (λ (z : ℤ). (i : ℕ) → i < 65536 → moved z i ≡ lifted c.lift_of-lift.result i) (to_z-of_z c.ranges.offset) c.lift_of-lift.ensures.1 in
    shift-ready c.args.cells.now c.args.expr c.args.offset c.lift_of-lift.result c.requires g (sym (rw c.wide.ensures at c.can_move.ensures) ∙ c.if-not-can_move.false) c.lift_of-lift.ensures.0 1024

pub returns-then-refused : goal.returns-then-refused
returns-then-refused c =
    let g : (i : ℕ) → i < 65536 → moved c.args.offset i ≡ lifted c.lift_of-lift.result i = subst (λ (z : ℤ). (i : ℕ) → i < 65536 → moved z i ≡ lifted c.lift_of-lift.result i) (to_z-of_z c.ranges.offset) c.lift_of-lift.ensures.1 in
    sym (shift-full c.args.cells.now c.args.expr c.args.offset c.lift_of-lift.result c.requires g (sym (rw c.wide.ensures at c.can_move.ensures) ∙ c.if-not-can_move.false) c.shift-answer.new.cells c.shift-answer.new.memo c.shift-answer.result (sym c.refused.ensures ∙ c.if-refused.true) c.shift-answer.ensures)

pub returns : goal.returns
returns c =
    let g : (i : ℕ) → i < 65536 → moved c.args.offset i ≡ lifted c.lift_of-lift.result i = subst (λ (z : ℤ). (i : ℕ) → i < 65536 → moved z i ≡ lifted c.lift_of-lift.result i) (to_z-of_z c.ranges.offset) c.lift_of-lift.ensures.1 in
    sym (shift-done c.args.cells.now c.args.expr c.args.offset c.lift_of-lift.result c.requires g (sym (rw c.wide.ensures at c.can_move.ensures) ∙ c.if-not-can_move.false) c.shift-answer.new.cells c.shift-answer.new.memo c.shift-answer.result (sym c.refused.ensures ∙ c.if-refused.false) c.shift-answer.ensures)
