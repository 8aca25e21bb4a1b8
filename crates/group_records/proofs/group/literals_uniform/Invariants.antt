-- `group_records::group::literals_uniform` meets its contract.
use mathlib.Core.Bool.{true}
use mathlib.Core.Path.{◌≡◌}
use Rattle.laws.specs.Tests.{each}
use Rattle.arena.specs.Layout.{decode as nodes}
use Rattle.group_records.specs.Inner.{Before}
use Rattle.group_records.proofs.GroupWalk.{Uniform}
use Rattle.group_records.proofs.group.literals_uniform.Given as goal

abbrev pub invariant-loop-j : goal.invariant-loop-j
invariant-loop-j l = Before l.body l._j l.at × (each (Uniform (nodes l.cells) l.body) l._j ≡ true)
