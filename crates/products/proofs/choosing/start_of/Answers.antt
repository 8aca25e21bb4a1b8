-- `products::choosing::start_of` meets its contract.
use Rattle.products.proofs.Choices.{start_first, start-later}
use Rattle.products.proofs.choosing.start_of.Goals as goal

pub returns-then-j-eq0 : goal.returns-then-j-eq0
returns-then-j-eq0 c = start_first c.args.s c.args.j c.if-j-eq0.true

pub returns-else-j-eq0 : goal.returns-else-j-eq0
returns-else-j-eq0 c = start-later c.args.s c.args.j c.if-j-eq0.false
