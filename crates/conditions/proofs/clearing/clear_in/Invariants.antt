-- `conditions::clearing::clear_in` meets its contract.
use Prim.Native.Nat.{◌-◌, ◌≤◌}
use mathlib.Core.Path.{◌≡◌}
use Rattle.classes.specs.Group.{cleared, clear_rest}
use Rattle.classes.specs.Layout.{decode}
use Rattle.classes.specs.Inner.{Coded}
use Rattle.conditions.proofs.clearing.clear_in.Given as goal

abbrev pub invariant-loop-i : goal.invariant-loop-i
invariant-loop-i l = ((Coded l.g × (l.g.limit ≡ l.initial.g.limit)) × (l.i ≤ l.g.count)) × (cleared (decode l.initial.g) ≡ clear_rest l.i l.any (decode l.g))

abbrev pub decreases-loop-i : goal.decreases-loop-i
decreases-loop-i l = l.g.count - l.i
