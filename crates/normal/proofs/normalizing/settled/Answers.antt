-- `normal::normalizing::settled` meets its contract.
use mathlib.Core.Path.{sym, ◌∙◌}
use Rattle.normal.specs.Inner.{settled_by}
use Rattle.normal.proofs.normalizing.settled.Goals as goal

pub returns-then-refused : goal.returns-then-refused
unfolding settled_by
returns-then-refused c = rw (sym c.refused.ensures ∙ c.if-refused.true)

pub returns : goal.returns
unfolding settled_by
returns c = rw (sym c.refused.ensures ∙ c.if-refused.false)
