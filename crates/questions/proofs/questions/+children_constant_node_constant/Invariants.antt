-- `questions::questions::children_constant`, `questions::questions::node_constant` meet their contracts: one proof for their cycle of calls.
use Prim.Native.Nat.{◌+◌, ◌*◌}
use Rattle.questions.proofs.Constancy.{Passing}
use Rattle.questions.proofs.questions.+children_constant_node_constant.Given as goal

abbrev pub decreases-children_constant : goal.decreases-children_constant
decreases-children_constant l = 2 * l.e

abbrev pub invariant-children_constant-loop-k : goal.invariant-children_constant-loop-k
invariant-children_constant-loop-k l = Passing l.cells l.marks l.e l.seen l.k

abbrev pub decreases-node_constant : goal.decreases-node_constant
decreases-node_constant l = 2 * l.e + 1
