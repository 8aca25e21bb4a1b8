-- `arena::adding::column_row` meets its contract.
use Rattle.arena.specs.Layout.{row}
use borrow.Author.Rules.{rules}
use Rattle.arena.proofs.adding.column_row.Goals as goal

pub returns : goal.returns
unfolding row
returns c = search rules
