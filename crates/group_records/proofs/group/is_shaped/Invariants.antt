-- `group_records::group::is_shaped` meets its contract.
use Prim.Native.Nat.{◌≤◌}
use mathlib.Core.Path.{◌≡◌}
use lib.ListN.{length}
use Rattle.group_records.specs.GroupRecord.{body_given}
use Rattle.group_records.specs.Inner.{is_given}
use Rattle.group_records.proofs.Shape.{Left}
use Rattle.group_records.proofs.group.is_shaped.Given as goal

abbrev pub invariant-loop-j : goal.invariant-loop-j
invariant-loop-j l = (l.at ≤ length l.body) × (is_given (body_given l.body) ≡ Left l.body l.n l.at l._j)
