-- `products::ordering::order_at` meets its contract: one proof for the function that calls itself.
use Rattle.products.proofs.ordering.+order_at.Given as goal

abbrev pub decreases-order_at : goal.decreases-order_at
decreases-order_at l = l.n
