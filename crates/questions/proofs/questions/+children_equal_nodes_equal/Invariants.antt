-- `questions::questions::children_equal`, `questions::questions::nodes_equal` meet their contracts: one proof for their cycle of calls.
use Prim.Native.Nat.{◌+◌, ◌*◌}
use Rattle.questions.proofs.Equality.{Going}
use Rattle.questions.proofs.questions.+children_equal_nodes_equal.Given as goal

abbrev pub decreases-children_equal : goal.decreases-children_equal
decreases-children_equal l = 2 * l.a

abbrev pub invariant-children_equal-loop-k : goal.invariant-children_equal-loop-k
invariant-children_equal-loop-k l = Going l.cells l.places l.a l.b l.seen l.k

abbrev pub decreases-nodes_equal : goal.decreases-nodes_equal
decreases-nodes_equal l = 2 * l.a + 1
