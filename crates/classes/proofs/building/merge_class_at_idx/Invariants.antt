-- `classes::building::merge_class_at_idx` meets its contract.
use Prim.Native.Nat.{◌≤◌}
use mathlib.Core.Path.{◌≡◌}
use lib.ListN.{take}
use Rattle.classes.specs.Group.{class_at, merged_at}
use Rattle.classes.specs.Layout.{encode, decode}
use Rattle.classes.proofs.building.merge_class_at_idx.Given as goal

abbrev pub invariant-loop-k : goal.invariant-loop-k
invariant-loop-k l = (l.k ≤ l.g.count) × (l.out ≡ encode l.g.limit (take l.k (merged_at (decode l.g) l.i (class_at (decode l.src) l.j))))
