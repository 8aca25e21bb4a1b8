-- `session_steps::steps::add_literal_in` meets its contract.
use mathlib.Core.Path.{ap, ◌∙◌}
use Rattle.arena.specs.Node.{Node, literal}
use Rattle.arena.specs.Arena.{Allowed, add}
use Rattle.arena.specs.Layout.{decode as nodes_in}
use Rattle.arena.specs.Calls.{answered, in_cells, add_literal}
use Rattle.arena.proofs.Layouts.{holds-lawful}
use Rattle.arena.proofs.Lending.{node-of, placeable}
use Rattle.session_steps.specs.State.{added_reply}
use Rattle.session_steps.proofs.Answering.{told_in, added-told}
use Rattle.session_steps.proofs.steps.add_literal_in.Goals as goal

pub place-requires : goal.place-requires
unfolding Allowed
place-requires c =
    placeable c.args.cells.now c.literal_row-row.result (literal c.args.value) (holds-lawful c.args.cells.now c.requires) c.literal_row-row.ensures (tt)

pub returns : goal.returns
unfolding Allowed add_literal
returns c =
    let ns = nodes_in c.args.cells.now in
    let n = node-of c.args.cells.now c.literal_row-row.result (literal c.args.value) (holds-lawful c.args.cells.now c.requires) c.literal_row-row.ensures (tt) in
    told_in added_reply (add_literal c.args.value ns) c.place.result c.place.new.cells c.quiet.result
    (c.place.ensures ∙ ap (λ (x : Node). in_cells (answered ns (add x ns))) n) (c.quiet.ensures ∙ added-told _)
