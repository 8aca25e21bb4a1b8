-- `shifted_classes::right_side::shift_rights` meets its contract.
use Prim.Native.Nat.{ℕ}
use mathlib.Core.List.{List}
use Rattle.shifted_classes.specs.Inner.{rights_lent}
use Rattle.shifted_classes.proofs.Placings.{NumbersTo}
use Rattle.shifted_classes.proofs.right_side.shift_rights.Given as goal

abbrev pub invariant-loop-k : goal.invariant-loop-k
invariant-loop-k l = ((done : List ℕ) × NumbersTo l.lift l.initial.cells l.cells l.memo (rights_lent l.pairs) done l.k)
