-- `products::choosing::choices_from` meets its contract.
use Prim.Native.Nat.{◌≤◌}
use mathlib.Core.Path.{◌≡◌}
use Rattle.products.proofs.Choices.{choices_from}
use Rattle.products.proofs.choosing.choices_from.Given as goal

abbrev pub invariant-loop-i : goal.invariant-loop-i
invariant-loop-i l = ((l.j ≤ l.i) × (l.i ≤ l.s.size)) × (l.total ≡ choices_from l.s l.i)
