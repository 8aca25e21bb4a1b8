-- `classes::finding::find_class` meets its contract.
use Prim.Native.Nat.{◌-◌, ◌≤◌}
use mathlib.Core.Path.{◌≡◌}
use Rattle.laws.specs.Tests.{first_from}
use Rattle.classes.specs.Group.{class_of}
use Rattle.classes.specs.Layout.{sum_to, decode}
use Rattle.classes.proofs.Members.{Holds}
use Rattle.classes.proofs.finding.find_class.Given as goal

abbrev pub invariant-loop-i : goal.invariant-loop-i
invariant-loop-i l = (l.i ≤ l.g.count) × ((l.start ≡ sum_to l.g.sizes l.i) × (class_of (decode l.g) l.e ≡ first_from (Holds l.g l.e) (l.g.count - l.i) l.i))
