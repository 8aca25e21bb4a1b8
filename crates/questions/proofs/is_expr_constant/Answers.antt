-- `questions::is_expr_constant` meets its contract.
use Prim.Native.Nat.{◌≤◌, ◌<◌}
use Rattle.std.specs.Prelude.{Ok, Err}
use mathlib.Core.Path.{sym, ap, ◌∙◌}
use native.Mathlib.Omega.{arith}
use borrow.Author.Rules.{rules}
use lib.ListN.{length}
use Rattle.arena.specs.Layout.{decode as nodes}
use Rattle.arena.specs.Refusals.{refusal}
use Rattle.arena.proofs.Layouts.{length-decode}
use Rattle.arena.proofs.Refusals.{handed-on, done-zero}
use Rattle.classes.specs.Layout.{decode}
use Rattle.group_checks.proofs.HeldLaws.{number-held}
use Rattle.group_checks.proofs.Calling.{ask_done, ask_refused, number-known}
use Rattle.questions.specs.Calls.{constant_answer}
use Rattle.questions.proofs.Calling.{constant-unknown, constant-known}
use Rattle.questions.proofs.is_expr_constant.Goals as goal

pub returns-in_err-check_group : goal.returns-in_err-check_group
returns-in_err-check_group c =
    ask_refused c.args.cells.now c.args.group (constant_answer c.args.expr) c.from_residual.result _ (sym c.in_err-check_group.ensures) (handed-on _ _ c.from_residual.ensures.1)

pub returns-then-node_count-wide : goal.returns-then-node_count-wide
returns-then-node_count-wide c =
    let l : length (nodes c.args.cells.now) ≤ c.args.expr = omega (arith, length-decode c.args.cells.now, c.node_count.ensures, c.wide.ensures) in
    sym (ask_done c.args.cells.now c.args.group (λ k. Err (refusal k)) (constant_answer c.args.expr) (sym c.in_ok-check_group.ensures) ∙ constant-unknown (nodes c.args.cells.now) (decode c.args.group) c.args.expr l)

pub constant_in-requires : goal.constant_in-requires
constant_in-requires c =
    let z = sym c.in_ok-check_group.ensures in
    let h = number-held c.args.cells.now c.args.group (search rules) (search rules) (search rules) (search rules) (done-zero _ z) in
    (number-known c.args.cells.now c.args.group c.args.expr z (omega (arith, c.node_count.ensures, c.wide.ensures)), h.coded)

pub returns : goal.returns
returns c =
    let l : c.args.expr < length (nodes c.args.cells.now) = omega (arith, length-decode c.args.cells.now, c.node_count.ensures, c.wide.ensures) in
    ap Ok c.constant_in.ensures ∙ sym (ask_done c.args.cells.now c.args.group (λ k. Err (refusal k)) (constant_answer c.args.expr) (sym c.in_ok-check_group.ensures) ∙ constant-known (nodes c.args.cells.now) (decode c.args.group) c.args.expr l)
