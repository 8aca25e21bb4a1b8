-- `classes::building::remove_class_at_idx` meets its contract.
use Prim.Native.Nat.{◌≤◌}
use mathlib.Core.Path.{◌≡◌}
use lib.ListN.{take}
use Rattle.classes.specs.Group.{removed}
use Rattle.classes.specs.Layout.{encode, decode}
use Rattle.classes.proofs.building.remove_class_at_idx.Given as goal

abbrev pub invariant-loop-k : goal.invariant-loop-k
invariant-loop-k l = (l.k ≤ l.last) × (l.out ≡ encode l.g.limit (take l.k (removed (decode l.g) l.i)))
