-- `products::choosing::choice_at` meets its contract.
use Rattle.products.proofs.Choices.{Choosing}
use Rattle.products.proofs.choosing.choice_at.Given as goal

abbrev pub invariant-loop-j : goal.invariant-loop-j
invariant-loop-j l = Choosing (record { shape = l.shape; found = l.found }) l.number l.j l.rest l.out
