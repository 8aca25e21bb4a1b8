-- `shifted_classes::right_side::shift_members` meets its contract.
use mathlib.Core.Path.{◌≡◌}
use lib.ListN.{length, take}
use Rattle.classes.specs.Good.{flat}
use Rattle.classes.specs.Layout.{decode}
use Rattle.shifted_classes.proofs.Placings.{NumbersTo}
use Rattle.shifted_classes.proofs.right_side.shift_members.Given as goal

abbrev pub invariant-loop-k : goal.invariant-loop-k
invariant-loop-k l = (length l.members ≡ 256) × NumbersTo l.lift l.initial.cells l.cells l.memo (flat (decode l.g)) (take l.k l.members) l.k
