-- `ordering_joins::output_ordering` meets its contract.
use mathlib.Core.List.{List}
use mathlib.Core.Path.{sym, ◌∙◌}
use Prim.Native.Nat.{ℕ}
use Rattle.std.specs.Prelude.{Err}
use Rattle.arena.specs.Refusals.{refusal}
use Rattle.arena.proofs.Refusals.{handed-on}
use Rattle.orderings.specs.Lists.{output_ordering}
use Rattle.ordering_joins.specs.Calls.{output_of}
use Rattle.orderings.proofs.Asking.{ask_refused, ask_passed, done-zero}
use Rattle.orderings.proofs.ListChecks.{sized}
use Rattle.orderings.proofs.ListHeld.{number-held}
use Rattle.ordering_joins.proofs.output_ordering.Goals as goal

pub returns-in_err-check_list : goal.returns-in_err-check_list
returns-in_err-check_list c =
    handed-on _ _ c.from_residual.ensures.1
    ∙ ask_refused Err (λ (os : List (List ℕ)). output_of (output_ordering os)) c.args.cells.now c.args.list _ (sym c.in_err-check_list.ensures)

pub output_in-requires : goal.output_in-requires
output_in-requires c =
    (number-held c.args.cells.now c.args.list (sized c.args.list _ c.well_formed.1.0) (done-zero _ (sym c.in_ok-check_list.ensures))).held

pub returns : goal.returns
returns c =
    c.output_in.ensures
    ∙ sym (ask_passed (λ k. Err (refusal k)) (λ (os : List (List ℕ)). output_of (output_ordering os)) c.args.cells.now c.args.list (sym c.in_ok-check_list.ensures))
