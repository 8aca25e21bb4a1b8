-- `shifting::shifting::node_moves` meets its contract.
use Rattle.std.specs.Prelude.{is_some}
use Prim.Native.Nat.{ℕ, ◌%◌}
use mathlib.Core.Path.{sym, ap, ◌∙◌}
use Rattle.shifting.specs.Inner.{lifted}
use Rattle.shifting.proofs.Moves.{column-moves, children_move_lem}
use Rattle.shifting.proofs.shifting.node_moves.Goals as goal

pub returns-then-cell_of-eq1 : goal.returns-then-cell_of-eq1
returns-then-cell_of-eq1 c =
    c.index_moves.ensures ∙ ap (λ (x : ℕ). is_some (lifted c.args.lift (x % 65536))) c.cell_of-then-cell_of-eq1.ensures
    ∙ column-moves c.args.cells.now c.args.e c.requires.0.0 (lifted c.args.lift) (sym c.cell_of.ensures ∙ c.if-cell_of-eq1.true)

pub returns-else-cell_of-eq1 : goal.returns-else-cell_of-eq1
returns-else-cell_of-eq1 c =
    c.children_move.ensures
    ∙ children_move_lem c.args.cells.now c.args.e c.requires.0.0 (lifted c.args.lift) (λ q. c.if-cell_of-eq1.false (c.cell_of.ensures ∙ q)) c.args.table.now c.requires.1
