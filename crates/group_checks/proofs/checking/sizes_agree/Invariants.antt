-- `group_checks::checking::sizes_agree` meets its contract.
use Prim.Native.Nat.{◌+◌, ◌≤◌}
use mathlib.Core.Path.{◌≡◌}
use Rattle.classes.specs.Layout.{sum_to}
use Rattle.group_checks.proofs.checking.sizes_agree.Given as goal

abbrev pub invariant-loop-j : goal.invariant-loop-j
invariant-loop-j l = (l.j ≤ l.n) × (l.left + sum_to l.sizes l.j ≡ l.used)
