-- `session_steps::holding::opened` meets its contract.
use Rattle.session_steps.proofs.holding.opened.Goals as goal

pub returns : goal.returns
returns c = λ i. record { group = c.empty.ensures i; list = c.no_orderings.ensures i }
