-- `records::kinds::ordering` meets its contract.
use Rattle.std.proofs.Common.{◌%◌, length, arith}
use borrow.Author.Tests.{le-leb, eq-eqb}
use Rattle.records.specs.Record.{ordering_in, item_of}
use Rattle.records.proofs.Items.{length-keys}
use Rattle.records.proofs.kinds.ordering.Goals as goal

pub returns-then-n-eq0 : goal.returns-then-n-eq0
unfolding ordering_in item_of
returns-then-n-eq0 c =
    rw (le-leb 4 (length c.args.body.now) (omega arith), le-leb (length c.args.body.now) 64 (omega arith), eq-eqb (length c.args.body.now % 4) 0 (omega arith), length-keys c.args.body.now)
