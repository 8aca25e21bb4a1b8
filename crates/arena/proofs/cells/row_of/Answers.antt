-- `arena::cells::row_of` meets its contract.
use Rattle.laws.specs.Lists.{table}
use Rattle.arena.specs.Layout.{row_of}
use Rattle.arena.proofs.cells.row_of.Goals as goal

pub returns : goal.returns
unfolding row_of table
returns c =
    cc
