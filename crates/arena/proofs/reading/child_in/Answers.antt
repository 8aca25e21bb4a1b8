-- `arena::reading::child_in` meets its contract.
use mathlib.Core.Path.{sym, ◌∙◌}
use native.Mathlib.Omega.{arith}
use Rattle.arena.proofs.NodeCells.{child-count, children-few, child-at}
use Rattle.arena.proofs.reading.child_in.Goals as goal

pub overflow_add-k : goal.overflow_add-k
overflow_add-k c =
    omega (arith, child-count c.args.cells.now c.args.e c.requires.0, children-few c.args.cells.now c.args.e c.requires.0, c.requires.1, c.requires.0.below, c.requires.0.holds.few)

pub cell_of-requires : goal.cell_of-requires
cell_of-requires c =
    omega (arith, child-count c.args.cells.now c.args.e c.requires.0, children-few c.args.cells.now c.args.e c.requires.0, c.requires.1, c.requires.0.below, c.requires.0.holds.few)

pub returns : goal.returns
returns c =
    c.cell_of.ensures ∙ sym (child-at c.args.cells.now c.args.e c.requires.0 c.args.k c.requires.1)
