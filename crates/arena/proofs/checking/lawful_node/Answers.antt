-- `arena::checking::lawful_node` meets its contract.
use Rattle.std.proofs.Common.{rules}
use Rattle.arena.specs.Layout.{lawful_node}
use Rattle.arena.proofs.checking.lawful_node.Goals as goal

pub returns-then-lawful_row : goal.returns-then-lawful_row
unfolding lawful_node
returns-then-lawful_row c =
    search (rules, c.is_none.ensures, c.lawful_row.ensures, c.row_below.ensures, c.row_of-row.ensures)
