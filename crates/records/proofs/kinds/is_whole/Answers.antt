-- `records::kinds::is_whole` meets its contract.
use Rattle.std.proofs.Common.{length, ◌∙◌}
use borrow.Author.Tests.{lt-leb}
use Rattle.records.proofs.Headers.{cut-header, whole-test}
use Rattle.records.proofs.kinds.is_whole.Goals as goal

pub returns-then-bytes-ge4 : goal.returns-then-bytes-ge4
returns-then-bytes-ge4 c =
    whole-test c.args.bytes.now c.body_length.result c.if-bytes-ge4.true c.body_length.ensures

pub returns-else-bytes-ge4 : goal.returns-else-bytes-ge4
returns-else-bytes-ge4 c =
    lt-leb 4 (length c.args.bytes.now) c.if-bytes-ge4.false ∙ cut-header c.args.bytes.now c.if-bytes-ge4.false
