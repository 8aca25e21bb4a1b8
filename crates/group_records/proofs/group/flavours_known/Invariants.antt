-- `group_records::group::flavours_known` meets its contract.
use mathlib.Core.Bool.{true}
use mathlib.Core.Path.{◌≡◌}
use Rattle.laws.specs.Tests.{each}
use Rattle.group_records.specs.Inner.{Before}
use Rattle.group_records.proofs.GroupWalk.{Known}
use Rattle.group_records.proofs.group.flavours_known.Given as goal

abbrev pub invariant-loop-j : goal.invariant-loop-j
invariant-loop-j l = Before l.body l._j l.at × (each (Known l.body) l._j ≡ true)
