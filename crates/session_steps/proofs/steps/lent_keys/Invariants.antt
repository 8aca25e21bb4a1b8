-- `session_steps::steps::lent_keys` meets its contract.
use Rattle.session_steps.proofs.Bodies.{Copied}
use Rattle.session_steps.proofs.steps.lent_keys.Given as goal

abbrev pub invariant-loop-k : goal.invariant-loop-k
invariant-loop-k l = Copied l.body l.n l.numbers l.k
