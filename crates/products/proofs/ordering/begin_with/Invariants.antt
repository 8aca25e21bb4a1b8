-- `products::ordering::begin_with` meets its contract.
use mathlib.Core.Path.{◌≡◌}
use Rattle.products.proofs.Chains.{writing}
use Rattle.products.proofs.ordering.begin_with.Given as goal

abbrev pub invariant-loop-i : goal.invariant-loop-i
invariant-loop-i l = l.out ≡ writing l.order l.place l.i
