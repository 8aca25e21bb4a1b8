-- `normal::normalizing::normalize`, `normal::normalizing::normalize_children`, `normal::normalizing::normalize_operation` meet their contracts: one proof for their cycle of calls.
use Prim.Native.Nat.{◌+◌, ◌*◌}
use Rattle.arena.proofs.Walking.{Through}
use Rattle.normal.specs.Inner.{rewriting}
use Rattle.normal.proofs.normalizing.+normalize_normalize_children_normalize_operation.Given as goal

abbrev pub decreases-normalize : goal.decreases-normalize
decreases-normalize l = 3 * l.expr + 2

abbrev pub decreases-normalize_children : goal.decreases-normalize_children
decreases-normalize_children l = 3 * l.expr

abbrev pub invariant-normalize_children-loop-k : goal.invariant-normalize_children-loop-k
invariant-normalize_children-loop-k l = Through (rewriting l.old l.firsts l.initial.cells) l.initial.cells l.cells l.memo l.initial.row l.row l.k

abbrev pub decreases-normalize_operation : goal.decreases-normalize_operation
decreases-normalize_operation l = 3 * l.expr + 1
