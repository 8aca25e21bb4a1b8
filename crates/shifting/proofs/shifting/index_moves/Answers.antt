-- `shifting::shifting::index_moves` meets its contract.
use Rattle.shifting.proofs.Lifts.{moves_end, moves-low}
use Rattle.std.proofs.Common.{◌+◌, ◌∙◌}
use borrow.Author.Tests.{lt-leb}
use Rattle.shifting.proofs.shifting.index_moves.Goals as goal

pub returns-then-index-lift-ge65535 : goal.returns-then-index-lift-ge65535
returns-then-index-lift-ge65535 c = moves_end c.args.lift c.args.index c.if-index-lift-ge65535.true

pub returns-else-index-lift-ge65535 : goal.returns-else-index-lift-ge65535
returns-else-index-lift-ge65535 c = lt-leb 65535 (c.args.index + c.args.lift) c.if-index-lift-ge65535.false ∙ moves-low c.args.lift c.args.index c.if-index-lift-ge65535.false
