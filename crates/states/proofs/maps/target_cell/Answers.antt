-- `states::maps::target_cell` meets its contract.
use Rattle.states.specs.Maps.{target_cell}
use borrow.Author.Rules.{rules}
use Rattle.states.proofs.maps.target_cell.Goals as goal

pub overflow_add-result : goal.overflow_add-result
overflow_add-result c = search (rules, c.requires.target c.if-node.true)

pub returns-then-node : goal.returns-then-node
unfolding target_cell
returns-then-node c = rw c.if-node.true

pub returns-else-node : goal.returns-else-node
unfolding target_cell
returns-else-node c = rw c.if-node.false
