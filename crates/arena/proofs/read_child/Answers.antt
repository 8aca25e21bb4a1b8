-- `arena::read_child` meets its contract.
use Rattle.arena.specs.declared.Refusal.TheVariants.{BadState}
use Rattle.std.specs.Prelude.{Err}
use mathlib.Core.Bool.{true, false}
use mathlib.Core.Path.{◌≡◌, sym, ◌∙◌}
use native.Mathlib.Omega.{arith}
use borrow.Author.Tests.{lt-ltb, le-ltb}
use lib.Dec.{ltb}
use lib.ListN.{length, get_or}
use Rattle.arena.specs.Node.{node_at, child_numbers}
use Rattle.arena.specs.Layout.{decode, lawful}
use Rattle.arena.specs.Calls.{read_child}
use Rattle.arena.proofs.Layouts.{length-decode}
use Rattle.arena.proofs.Refusals.{handed-on}
use Rattle.arena.proofs.Lending.{read-refused, checked-ok, on-arena, known}
use Rattle.arena.proofs.read_child.Goals as goal

pub returns-in_err-check_arena : goal.returns-in_err-check_arena
returns-in_err-check_arena c =
    read-refused c.args.cells.now _ _ (sym c.in_err-check_arena.ensures) (handed-on _ _ c.from_residual.ensures.1) _

pub returns-then-n-e : goal.returns-then-n-e
unfolding read_child
returns-then-n-e c =
    let l : lawful c.args.cells.now ≡ true = checked-ok c.args.cells.now (sym c.in_ok-check_arena.ensures) in
    let b : ltb c.args.expr (length (decode c.args.cells.now)) ≡ false = le-ltb c.args.expr (length (decode c.args.cells.now)) (omega (arith, length-decode c.args.cells.now, c.node_count-n.ensures, c.wide-e.ensures)) in
    sym (on-arena (Err BadState) (read_child c.args.expr c.args.place) c.args.cells.now l ∙ rw b)

pub child_count-requires : goal.child_count-requires
child_count-requires c =
    let l : lawful c.args.cells.now ≡ true = checked-ok c.args.cells.now (sym c.in_ok-check_arena.ensures) in
    known c.args.cells.now c.wide-e.result l (omega (arith, c.node_count-n.ensures))

pub returns-then-child_count-k : goal.returns-then-child_count-k
unfolding read_child
returns-then-child_count-k c =
    let l : lawful c.args.cells.now ≡ true = checked-ok c.args.cells.now (sym c.in_ok-check_arena.ensures) in
    let b : ltb c.args.expr (length (decode c.args.cells.now)) ≡ true = lt-ltb c.args.expr (length (decode c.args.cells.now)) (omega (arith, length-decode c.args.cells.now, c.node_count-n.ensures, c.wide-e.ensures)) in
    let k : ltb c.args.place (length (child_numbers (node_at (decode c.args.cells.now) c.args.expr))) ≡ false = le-ltb c.args.place (length (child_numbers (node_at (decode c.args.cells.now) c.args.expr))) (omega (arith, rw c.wide-e.ensures at c.child_count.ensures, c.wide-k.ensures)) in
    sym (on-arena (Err BadState) (read_child c.args.expr c.args.place) c.args.cells.now l ∙ rw (b, k))

pub child_in-requires : goal.child_in-requires
child_in-requires c =
    let l : lawful c.args.cells.now ≡ true = checked-ok c.args.cells.now (sym c.in_ok-check_arena.ensures) in
    (known c.args.cells.now c.wide-e.result l (omega (arith, c.node_count-n.ensures)), omega (arith, c.child_count.ensures))

pub returns : goal.returns
unfolding read_child
returns c =
    let l : lawful c.args.cells.now ≡ true = checked-ok c.args.cells.now (sym c.in_ok-check_arena.ensures) in
    let b : ltb c.args.expr (length (decode c.args.cells.now)) ≡ true = lt-ltb c.args.expr (length (decode c.args.cells.now)) (omega (arith, length-decode c.args.cells.now, c.node_count-n.ensures, c.wide-e.ensures)) in
    let k : ltb c.args.place (length (child_numbers (node_at (decode c.args.cells.now) c.args.expr))) ≡ true = lt-ltb c.args.place (length (child_numbers (node_at (decode c.args.cells.now) c.args.expr))) (omega (arith, rw c.wide-e.ensures at c.child_count.ensures, c.wide-k.ensures)) in
    let n : c.child_in.result ≡ get_or (child_numbers (node_at (decode c.args.cells.now) c.args.expr)) c.args.place 0 = rw (c.wide-e.ensures, c.wide-k.ensures) at c.child_in.ensures in
    rw n (sym (on-arena (Err BadState) (read_child c.args.expr c.args.place) c.args.cells.now l ∙ rw (b, k)))
