-- `records::kinds::operation` meets its contract.
use Rattle.std.proofs.Common.{◌-◌, ◌/◌, ◌%◌, length, arith}
use borrow.Author.Tests.{le-leb, eq-eqb}
use Rattle.records.specs.Record.{operation_in, item_of}
use Rattle.records.proofs.Items.{length_fields}
use Rattle.records.proofs.kinds.operation.Goals as goal

pub returns-then-n-eq0 : goal.returns-then-n-eq0
unfolding operation_in item_of
returns-then-n-eq0 c =
    rw (le-leb 4 (length c.args.body.now) c.if-n-ge4.true, eq-eqb (length c.args.body.now % 2) 0 (omega arith), c.wide_field.ensures, length_fields c.args.body.now 4 ((length c.args.body.now - 4) / 2))
