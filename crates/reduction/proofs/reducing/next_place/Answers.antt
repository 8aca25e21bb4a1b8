-- `reduction::reducing::next_place` meets its contract.
use borrow.Author.Tests.{eq-eqb, ne_eqb}
use Rattle.reduction.proofs.reducing.next_place.Goals as goal

pub returns-then-way-eq0 : goal.returns-then-way-eq0
returns-then-way-eq0 c = rw (eq-eqb c.args.way 0 c.if-way-eq0.true)

pub returns-else-way-eq0 : goal.returns-else-way-eq0
returns-else-way-eq0 c = rw (ne_eqb c.args.way 0 c.if-way-eq0.false)
