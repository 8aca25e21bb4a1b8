-- `questions::exprs_equal` meets its contract.
use Prim.Native.Nat.{◌<◌}
use Rattle.std.specs.Prelude.{Ok, Err}
use mathlib.Core.Path.{sym, ap, ◌∙◌}
use native.Mathlib.Omega.{arith}
use borrow.Author.Rules.{rules}
use lib.ListN.{length}
use Rattle.arena.specs.Layout.{decode as nodes}
use Rattle.arena.specs.Refusals.{refusal}
use Rattle.arena.proofs.Layouts.{length-decode}
use Rattle.arena.proofs.Refusals.{handed-on, done-zero}
use Rattle.classes.specs.Layout.{decode}
use Rattle.group_checks.proofs.HeldLaws.{number-held}
use Rattle.group_checks.proofs.Calling.{ask_done, ask_refused, number-known}
use Rattle.questions.specs.Calls.{equal_answer}
use Rattle.questions.proofs.Calling.{equal-left, equal-right, equal-known}
use Rattle.questions.proofs.exprs_equal.Goals as goal
use Rattle.questions.proofs.exprs_equal.Goals.{then-n-wide-via-then-n-wide, then-n-wide-via-else-n-wide+then-n-wide-2}

pub returns-in_err-check_group : goal.returns-in_err-check_group
returns-in_err-check_group c =
    ask_refused c.args.cells.now c.args.group (equal_answer c.args.left c.args.right) c.from_residual.result _ (sym c.in_err-check_group.ensures) (handed-on _ _ c.from_residual.ensures.1)

pub returns-then-n-wide : goal.returns-then-n-wide
returns-then-n-wide c =
    let z = ask_done c.args.cells.now c.args.group (λ k. Err (refusal k)) (equal_answer c.args.left c.args.right) (sym c.in_ok-check_group.ensures) in
    elim c.then-n-wide.branch [
      | then-n-wide-via-then-n-wide w ↦ sym (z ∙ equal-left (nodes c.args.cells.now) (decode c.args.group) c.args.left c.args.right (omega (arith, length-decode c.args.cells.now)))
      | then-n-wide-via-else-n-wide+then-n-wide-2 w ↦ sym (z ∙ equal-right (nodes c.args.cells.now) (decode c.args.group) c.args.left c.args.right (omega (arith, length-decode c.args.cells.now)))
    ]

pub equal_in-requires : goal.equal_in-requires
equal_in-requires c =
    let z = sym c.in_ok-check_group.ensures in
    let h = number-held c.args.cells.now c.args.group (search rules) (search rules) (search rules) (search rules) (done-zero _ z) in
    ((number-known c.args.cells.now c.args.group c.args.left z (omega (arith, c.node_count-n.ensures, c.wide.ensures)), number-known c.args.cells.now c.args.group c.args.right z (omega (arith, c.node_count-n.ensures, c.wide-else-n-wide.ensures))), h.coded)

pub returns : goal.returns
returns c =
    let l : c.args.left < length (nodes c.args.cells.now) = omega (arith, length-decode c.args.cells.now) in
    let m : c.args.right < length (nodes c.args.cells.now) = omega (arith, length-decode c.args.cells.now) in
    ap Ok c.equal_in.ensures ∙ sym (ask_done c.args.cells.now c.args.group (λ k. Err (refusal k)) (equal_answer c.args.left c.args.right) (sym c.in_ok-check_group.ensures) ∙ equal-known (nodes c.args.cells.now) (decode c.args.group) c.args.left c.args.right l m)
