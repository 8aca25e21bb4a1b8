-- `projection::walking::project_children`, `projection::walking::project_node` meet their contracts: one proof for their cycle of calls.
use Prim.Native.Nat.{◌+◌, ◌-◌, ◌*◌}
use Rattle.projection.proofs.walking.+project_children_project_node.Given as goal

abbrev pub decreases-project_children : goal.decreases-project_children
decreases-project_children l = 10 * l.expr + (8 - l.k)

abbrev pub decreases-project_node : goal.decreases-project_node
decreases-project_node l = 10 * l.expr + 9
