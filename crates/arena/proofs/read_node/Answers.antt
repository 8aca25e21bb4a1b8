-- `arena::read_node` meets its contract.
use Rattle.arena.specs.declared.Refusal.TheVariants.{BadState}
use Rattle.std.specs.Prelude.{Ok, Err}
use mathlib.Core.Bool.{true, false}
use mathlib.Core.Path.{◌≡◌, sym, ap, ◌∙◌}
use native.Mathlib.Omega.{arith}
use borrow.Author.Tests.{lt-ltb, le-ltb}
use lib.Dec.{ltb}
use lib.ListN.{length}
use Rattle.arena.specs.Layout.{decode, lawful}
use Rattle.arena.specs.Calls.{read_node}
use Rattle.arena.proofs.Layouts.{length-decode}
use Rattle.arena.proofs.Refusals.{handed-on}
use Rattle.arena.proofs.Lending.{read-refused, checked-ok, on-arena, known}
use Rattle.arena.proofs.read_node.Goals as goal

pub returns-in_err-check_arena : goal.returns-in_err-check_arena
returns-in_err-check_arena c =
    read-refused c.args.cells.now _ _ (sym c.in_err-check_arena.ensures) (handed-on _ _ c.from_residual.ensures.1) _

pub returns-then-n-e : goal.returns-then-n-e
unfolding read_node
returns-then-n-e c =
    let l : lawful c.args.cells.now ≡ true = checked-ok c.args.cells.now (sym c.in_ok-check_arena.ensures) in
    let b : ltb c.args.expr (length (decode c.args.cells.now)) ≡ false = le-ltb c.args.expr (length (decode c.args.cells.now)) (omega (arith, length-decode c.args.cells.now, c.node_count-n.ensures, c.wide-e.ensures)) in
    sym (on-arena (Err BadState) (read_node c.args.expr) c.args.cells.now l ∙ rw b)

pub read_in-requires : goal.read_in-requires
read_in-requires c =
    let l : lawful c.args.cells.now ≡ true = checked-ok c.args.cells.now (sym c.in_ok-check_arena.ensures) in
    known c.args.cells.now c.wide-e.result l (omega (arith, c.node_count-n.ensures))

pub returns : goal.returns
unfolding read_node
returns c =
    let l : lawful c.args.cells.now ≡ true = checked-ok c.args.cells.now (sym c.in_ok-check_arena.ensures) in
    let b : ltb c.args.expr (length (decode c.args.cells.now)) ≡ true = lt-ltb c.args.expr (length (decode c.args.cells.now)) (omega (arith, length-decode c.args.cells.now, c.node_count-n.ensures, c.wide-e.ensures)) in
    ap Ok c.read_in.ensures ∙ rw c.wide-e.ensures (sym (on-arena (Err BadState) (read_node c.args.expr) c.args.cells.now l ∙ rw b))
