-- `ordering_questions::is_expr_partial_const` meets its contract.
use Rattle.std.proofs.Common.{ap, sym, ◌∙◌, arith}
use Rattle.std.specs.Prelude.{Ok, Err}
use Rattle.arena.specs.Layout.{count}
use Rattle.arena.specs.Refusals.{refusal}
use Rattle.arena.proofs.Refusals.{handed-on}
use Rattle.orderings.specs.Layout.{decode}
use Rattle.ordering_questions.specs.Calls.{partial_answer}
use Rattle.orderings.proofs.Asking.{ask_refused, ask_passed, done-zero}
use Rattle.ordering_questions.proofs.Asking.{partial_unknown, partial-known}
use Rattle.orderings.proofs.ListChecks.{sized}
use Rattle.orderings.proofs.ListHeld.{number-held}
use Rattle.ordering_questions.proofs.is_expr_partial_const.Goals as goal

pub returns-in_err-check_list : goal.returns-in_err-check_list
returns-in_err-check_list c =
    handed-on _ _ c.from_residual.ensures.1
    ∙ ask_refused Err (partial_answer (count c.args.cells.now) c.args.expr) c.args.cells.now c.args.list _ (sym c.in_err-check_list.ensures)

pub returns-then-n-wide : goal.returns-then-n-wide
returns-then-n-wide c =
    let cells = c.args.cells.now in
    sym (ask_passed (λ k. Err (refusal k)) (partial_answer (count cells) c.args.expr) cells c.args.list (sym c.in_ok-check_list.ensures)
    ∙ partial_unknown (count cells) c.args.expr (decode c.args.list) (omega (arith, c.node_count-n.ensures, c.wide.ensures, c.if-n-wide.true)))

pub partial_in-requires : goal.partial_in-requires
partial_in-requires c =
    (number-held c.args.cells.now c.args.list (sized c.args.list _ c.well_formed.1.0) (done-zero _ (sym c.in_ok-check_list.ensures))).held

pub returns : goal.returns
returns c =
    let cells = c.args.cells.now in
    ap Ok c.partial_in.ensures
    ∙ sym (ask_passed (λ k. Err (refusal k)) (partial_answer (count cells) c.args.expr) cells c.args.list (sym c.in_ok-check_list.ensures)
    ∙ partial-known (count cells) c.args.expr (decode c.args.list) (omega (arith, c.node_count-n.ensures, c.wide.ensures, c.if-n-wide.false)))
