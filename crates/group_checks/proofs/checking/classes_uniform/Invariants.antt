-- `group_checks::checking::classes_uniform` meets its contract.
use Prim.Native.Nat.{◌≤◌}
use mathlib.Core.Bool.{true}
use mathlib.Core.Path.{◌≡◌}
use Rattle.laws.specs.Tests.{each}
use Rattle.arena.specs.Layout.{decode as nodes}
use Rattle.classes.specs.Layout.{sum_to, uniform_at}
use Rattle.group_checks.proofs.checking.classes_uniform.Given as goal

abbrev pub invariant-loop-j : goal.invariant-loop-j
invariant-loop-j l = (l.j ≤ l.g.count) × ((l.start ≡ sum_to l.g.sizes l.j) × (each (λ j. uniform_at (nodes l.cells) l.g j) l.j ≡ true))
