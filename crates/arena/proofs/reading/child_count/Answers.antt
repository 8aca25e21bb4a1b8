-- `arena::reading::child_count` meets its contract.
use mathlib.Core.Path.{sym, ◌∙◌}
use native.Mathlib.Omega.{arith}
use Rattle.arena.proofs.NodeCells.{child-count}
use Rattle.arena.proofs.reading.child_count.Goals as goal

pub cell_of-requires : goal.cell_of-requires
cell_of-requires c =
    omega (arith, c.requires.below, c.requires.holds.few)

pub returns : goal.returns
returns c =
    c.wide.ensures ∙ c.cell_of.ensures ∙ sym (child-count c.args.cells.now c.args.e c.requires)
