-- `arena::check_arena` meets its contract.
use Rattle.std.proofs.Common.{ℕ, ◌≡◌, eqb, sym, ap, ◌∙◌, Err}
use Rattle.arena.specs.Refusals.{refusal}
use Rattle.arena.specs.Calls.{checked}
use Rattle.arena.proofs.Refusals.{zero-ok, refusal-err}
use Rattle.arena.proofs.Lending.{on_none, on-arena}
use Rattle.arena.proofs.check_arena.Goals as goal

pub returns-then-lawful_arena : goal.returns-then-lawful_arena
returns-then-lawful_arena c =
    sym (zero-ok _ (ap (λ (k : ℕ). eqb k 0) (on-arena 11 (λ ns. 0) c.args.cells.now (sym c.lawful_arena.ensures ∙ c.if-lawful_arena.true))))

pub returns-else-lawful_arena : goal.returns-else-lawful_arena
unfolding refusal
returns-else-lawful_arena c =
    let e : checked c.args.cells.now ≡ 11 = on_none 11 (λ ns. 0) c.args.cells.now (sym c.lawful_arena.ensures ∙ c.if-lawful_arena.false) in
    sym (refusal-err _ (ap (λ (k : ℕ). eqb k 0) e) ∙ ap (λ (k : ℕ). Err (refusal k)) e)
