-- `orderings::clear` meets its contract.
use Rattle.std.proofs.Common.{ℕ, List, [], sym, ap, ◌∙◌}
use Rattle.std.specs.Prelude.{Ok, Err}
use Rattle.arena.specs.Refusals.{refusal}
use Rattle.arena.specs.declared.Refusal.{Refusal}
use Rattle.orderings.specs.Layout.{encode}
use Rattle.orderings.specs.Calls.{clear_answer}
use Rattle.orderings.proofs.Appending.{told}
use Rattle.orderings.proofs.Asking.{ask_refused, ask_passed}
use Rattle.orderings.proofs.clear.Goals as goal

pub returns-in-Ok : goal.returns-in-Ok
unfolding clear_answer
returns-in-Ok c =
    ap (told (Ok tt)) c.no_orderings.ensures
    ∙ sym (ask_passed (λ (n : ℕ). told (Err (refusal n)) c.args.list) (λ (os : List (List ℕ)). told (Ok tt) (encode [])) c.args.cells.now c.args.list (sym c.in-Ok.ensures))

pub returns-in-Err : goal.returns-in-Err
unfolding clear_answer
returns-in-Err c =
    c.refusal.ensures ∙ ask_refused (λ (e : Refusal). told (Err e) c.args.list) (λ (os : List (List ℕ)). told (Ok tt) (encode [])) c.args.cells.now c.args.list c.in-Err.why (sym c.in-Err.ensures)
