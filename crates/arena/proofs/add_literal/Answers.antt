-- `arena::add_literal` meets its contract.
use Rattle.arena.specs.declared.Refusal.TheVariants.{BadState}
use Rattle.std.specs.Prelude.{Err}
use mathlib.Core.Bool.{true}
use mathlib.Core.Path.{◌≡◌, sym, ◌∙◌}
use Rattle.arena.specs.Node.{literal}
use Rattle.arena.specs.Arena.{Allowed}
use Rattle.arena.specs.Layout.{lawful}
use Rattle.arena.specs.Calls.{in_cells, add_literal}
use Rattle.arena.proofs.Refusals.{handed-on}
use Rattle.arena.proofs.Lending.{lent-refused, checked-ok, on-arena, node-of, placeable}
use Rattle.arena.proofs.add_literal.Goals as goal

pub returns-in_err-check_arena : goal.returns-in_err-check_arena
returns-in_err-check_arena c =
    lent-refused c.args.cells.now _ _ (sym c.in_err-check_arena.ensures) (handed-on _ _ c.from_residual.ensures.1) _

pub place-requires : goal.place-requires
unfolding Allowed
place-requires c =
    placeable c.args.cells.now c.literal_row-row.result (literal c.args.value) (checked-ok c.args.cells.now (sym c.in_ok-check_arena.ensures)) c.literal_row-row.ensures (tt)

pub returns : goal.returns
unfolding add_literal Allowed
returns c =
    let l : lawful c.args.cells.now ≡ true = checked-ok c.args.cells.now (sym c.in_ok-check_arena.ensures) in
    let n = node-of c.args.cells.now c.literal_row-row.result (literal c.args.value) l c.literal_row-row.ensures (tt) in
    c.place.ensures ∙ rw n (sym (on-arena (Err BadState, c.args.cells.now) (λ ns. in_cells (add_literal c.args.value ns)) c.args.cells.now l))
