-- `merging::extending::is_trivial` meets its contract.
use mathlib.Core.Path.{◌∙◌}
use borrow.Author.Tests.{eq-eqb, ne_eqb}
use Rattle.merging.proofs.Dropping.{trivial_empty, trivial_larger, trivial_one}
use Rattle.merging.proofs.extending.is_trivial.Goals as goal

pub returns-then-size-eq0 : goal.returns-then-size-eq0
returns-then-size-eq0 c = eq-eqb _ _ c.if-size-eq0.true ∙ trivial_empty c.args.g c.requires.0 c.args.i c.if-size-eq0.true

pub returns-then-size-eq1 : goal.returns-then-size-eq1
returns-then-size-eq1 c = trivial_one c.args.g c.requires.0 c.args.i c.if-size-eq0.false c.if-size-eq1.true

pub returns-else-size-eq1 : goal.returns-else-size-eq1
returns-else-size-eq1 c = ne_eqb _ _ c.if-size-eq1.false ∙ trivial_larger c.args.g c.requires.0 c.args.i c.if-size-eq0.false c.if-size-eq1.false
