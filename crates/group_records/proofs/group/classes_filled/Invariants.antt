-- `group_records::group::classes_filled` meets its contract.
use mathlib.Core.Bool.{true}
use mathlib.Core.Path.{◌≡◌}
use Rattle.laws.specs.Tests.{each}
use Rattle.group_records.specs.Inner.{Before}
use Rattle.group_records.proofs.GroupWalk.{Filled}
use Rattle.group_records.proofs.group.classes_filled.Given as goal

abbrev pub invariant-loop-j : goal.invariant-loop-j
invariant-loop-j l = Before l.body l._j l.at × (each (Filled l.body) l._j ≡ true)
