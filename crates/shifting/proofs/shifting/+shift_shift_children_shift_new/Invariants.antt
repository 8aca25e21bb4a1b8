-- `shifting::shifting::shift`, `shifting::shifting::shift_children`, `shifting::shifting::shift_new` meet their contracts: one proof for their cycle of calls.
use Prim.Native.Nat.{◌+◌, ◌*◌}
use Rattle.shifting.specs.Inner.{shifted_by}
use Rattle.arena.proofs.Walking.{Through}
use Rattle.shifting.proofs.shifting.+shift_shift_children_shift_new.Given as goal

abbrev pub decreases-shift : goal.decreases-shift
decreases-shift l = 3 * l.expr + 2

abbrev pub decreases-shift_children : goal.decreases-shift_children
decreases-shift_children l = 3 * l.expr

abbrev pub invariant-shift_children-loop-k : goal.invariant-shift_children-loop-k
invariant-shift_children-loop-k l = Through (shifted_by l.lift) l.initial.cells l.cells l.memo l.initial.row l.row l.k

abbrev pub decreases-shift_new : goal.decreases-shift_new
decreases-shift_new l = 3 * l.expr + 1
