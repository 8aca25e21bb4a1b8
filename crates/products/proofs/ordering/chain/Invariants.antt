-- `products::ordering::chain` meets its contract.
use Rattle.products.proofs.Chains.{Chaining, in_order}
use Rattle.products.proofs.ordering.chain.Given as goal

abbrev pub invariant-loop-i : goal.invariant-loop-i
invariant-loop-i l = Chaining (in_order l.choice l.order) l.i l.out
