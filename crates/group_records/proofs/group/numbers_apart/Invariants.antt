-- `group_records::group::numbers_apart` meets its contract.
use mathlib.Core.Bool.{true}
use mathlib.Core.Path.{◌≡◌}
use Rattle.laws.specs.Tests.{each}
use Rattle.classes.specs.Layout.{fresh}
use Rattle.group_records.proofs.Apart.{Seen}
use Rattle.group_records.proofs.group.numbers_apart.Given as goal

abbrev pub invariant-loop-x : goal.invariant-loop-x
invariant-loop-x l = (each (fresh l.numbers) l.x-index ≡ true) × Seen l.numbers l.seen l.x-index
