-- `products::choosing::count_choices` meets its contract.
use Prim.Native.Nat.{◌*◌, ◌≤◌}
use mathlib.Core.Path.{◌≡◌}
use Rattle.products.proofs.Choices.{choices_from}
use Rattle.products.proofs.choosing.count_choices.Given as goal

abbrev pub invariant-loop-j : goal.invariant-loop-j
invariant-loop-j l = ((l.j ≤ l.s.size) × (l.orders * l.total ≤ 1024)) × (l.total ≡ choices_from l.s l.j)
