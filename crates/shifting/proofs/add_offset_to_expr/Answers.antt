-- `shifting::add_offset_to_expr` meets its contract.
use Rattle.arena.specs.declared.Refusal.TheVariants.{BadState}
use Rattle.std.specs.Prelude.{Err}
use mathlib.Core.Bool.{true, false}
use mathlib.Core.Path.{◌≡◌, sym, subst, ◌∙◌}
use native.Mathlib.Omega.{arith}
use borrow.Author.Tests.{lt-ltb, le-ltb}
use lib.Dec.{ltb}
use lib.IntN.{ℤ}
use lib.ListN.{length}
use mir.Facts.{to_z-of_z}
use Rattle.arena.specs.Layout.{decode, lawful}
use Rattle.arena.specs.Calls.{in_cells}
use Rattle.shifting.specs.Calls.{shifted_outcome, add_offset}
use Rattle.arena.proofs.Layouts.{length-decode, coded-cells, lawful-holds}
use Rattle.arena.proofs.Refusals.{handed-on}
use Rattle.arena.proofs.Lending.{lent-refused, checked-ok, on-arena, known}
use Rattle.shifting.proofs.add_offset_to_expr.Goals as goal

pub returns-in_err-check_arena : goal.returns-in_err-check_arena
returns-in_err-check_arena c =
    lent-refused c.args.cells.now _ _ (sym c.in_err-check_arena.ensures) (handed-on _ _ c.from_residual.ensures.1) _

pub returns-then-node_count-wide : goal.returns-then-node_count-wide
unfolding add_offset in_cells
returns-then-node_count-wide c =
    let l : lawful c.args.cells.now ≡ true = checked-ok c.args.cells.now (sym c.in_ok-check_arena.ensures) in
    let b : ltb c.args.expr (length (decode c.args.cells.now)) ≡ false = le-ltb c.args.expr (length (decode c.args.cells.now)) (omega (arith, length-decode c.args.cells.now, c.node_count.ensures, c.wide.ensures)) in
    sym (on-arena (Err BadState, c.args.cells.now) (λ ns. in_cells (add_offset c.args.expr c.args.offset ns)) c.args.cells.now l ∙ rw (b, coded-cells c.args.cells.now (lawful-holds c.args.cells.now l)))

pub shift_in-requires : goal.shift_in-requires
shift_in-requires c =
    known c.args.cells.now c.args.expr (checked-ok c.args.cells.now (sym c.in_ok-check_arena.ensures)) (omega (arith, c.node_count.ensures, c.wide.ensures))

pub returns : goal.returns
unfolding add_offset
returns c =
    let l : lawful c.args.cells.now ≡ true = checked-ok c.args.cells.now (sym c.in_ok-check_arena.ensures) in
    let b : ltb c.args.expr (length (decode c.args.cells.now)) ≡ true = lt-ltb c.args.expr (length (decode c.args.cells.now)) (omega (arith, length-decode c.args.cells.now, c.node_count.ensures, c.wide.ensures)) in
    let q : (c.shift_in.result, c.shift_in.new.cells) ≡ in_cells (shifted_outcome c.args.expr c.args.offset (decode c.args.cells.now)) = subst (λ (z : ℤ). (c.shift_in.result, c.shift_in.new.cells) ≡ in_cells (shifted_outcome c.args.expr z (decode c.args.cells.now))) (to_z-of_z c.ranges.offset) c.shift_in.ensures in
    q ∙ sym (on-arena (Err BadState, c.args.cells.now) (λ ns. in_cells (add_offset c.args.expr c.args.offset ns)) c.args.cells.now l ∙ rw b)
