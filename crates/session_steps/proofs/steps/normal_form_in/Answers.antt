-- `session_steps::steps::normal_form_in` meets its contract.
use Rattle.arena.proofs.Refusals.{handed-on}
use Prim.Native.Nat.{◌<◌, ◌≤◌}
use mathlib.Core.Path.{sym, ap, ◌∙◌}
use native.Mathlib.Omega.{arith}
use lib.ListN.{length}
use Rattle.arena.specs.Layout.{decode as nodes_in}
use Rattle.arena.proofs.Layouts.{length-decode}
use Rattle.classes.specs.Layout.{decode}
use Rattle.arena.specs.Calls.{in_cells}
use Rattle.normal.specs.Calls.{normalize_expr}
use Rattle.session_steps.specs.State.{normal_reply}
use Rattle.session_steps.proofs.Answering.{told_in, normal-ok, normal-err}
use Rattle.session_steps.proofs.Deciding.{normal-unknown, normal-known}
use Rattle.session_steps.proofs.steps.normal_form_in.Goals as goal

pub returns-then-n-index : goal.returns-then-n-index
returns-then-n-index c =
    let l : length (nodes_in c.args.cells.now) ≤ c.args.e = omega (arith, length-decode c.args.cells.now, c.node_count-n.ensures, c.index.ensures.0, c.if-n-index.true) in
    normal-unknown c.args.e c.args.cells.now (decode c.args.g) c.requires.0 l

pub normalize_in-requires : goal.normalize_in-requires
normalize_in-requires c =
    (record { holds = c.requires.0; below = omega (arith, c.node_count-n.ensures, c.index.ensures.0, c.if-n-index.false) }, c.requires.1)

pub returns-in_err-form : goal.returns-in_err-form
returns-in_err-form c =
    let l : c.args.e < length (nodes_in c.args.cells.now) = omega (arith, length-decode c.args.cells.now, c.node_count-n.ensures, c.index.ensures.0, c.if-n-index.false) in
    told_in (normal_reply c.args.e) (normalize_expr c.args.e (nodes_in c.args.cells.now) (decode c.args.g)) c.normalize_in.result c.normalize_in.new.cells c.from_residual.result
    (rw c.from-expr.ensures at c.normalize_in.ensures ∙ sym (ap in_cells (normal-known c.args.e c.args.cells.now (decode c.args.g) l))) (handed-on _ _ c.from_residual.ensures.1 ∙ normal-err c.args.e _ _ c.in_err-form.was)

pub returns : goal.returns
returns c =
    let l : c.args.e < length (nodes_in c.args.cells.now) = omega (arith, length-decode c.args.cells.now, c.node_count-n.ensures, c.index.ensures.0, c.if-n-index.false) in
    told_in (normal_reply c.args.e) (normalize_expr c.args.e (nodes_in c.args.cells.now) (decode c.args.g)) c.normalize_in.result c.normalize_in.new.cells _
    (rw c.from-expr.ensures at c.normalize_in.ensures ∙ sym (ap in_cells (normal-known c.args.e c.args.cells.now (decode c.args.g) l))) (normal-ok c.args.e _ _ _ c.in_ok-form.was c.from-expr.ensures)
