-- `records::kinds::group_part` meets its contract.
use Rattle.std.proofs.Common.{sym, ◌∙◌, arith}
use lib.Seq.{length-take-le}
use Rattle.records.specs.Chosen.{group_part}
use Rattle.records.proofs.Headers.{whole-header, size-within}
use Rattle.records.proofs.Choices.{group-whole}
use Rattle.records.proofs.kinds.group_part.Goals as goal

pub record_size-requires : goal.record_size-requires
record_size-requires c =
    whole-header c.args.bytes.now (group-whole c.args.bytes.now (sym c.is_group_record.ensures ∙ c.if-is_group_record.true))

pub slice_bounds-result-end : goal.slice_bounds-result-end
slice_bounds-result-end c =
    sym (length-take-le _ c.args.bytes.now (omega (arith, c.record_size.ensures, size-within c.args.bytes.now (group-whole c.args.bytes.now (sym c.is_group_record.ensures ∙ c.if-is_group_record.true)))))

pub returns-then-is_group_record : goal.returns-then-is_group_record
unfolding group_part
returns-then-is_group_record c =
    rw (sym c.is_group_record.ensures ∙ c.if-is_group_record.true, c.record_size.ensures)

pub returns-else-is_group_record : goal.returns-else-is_group_record
unfolding group_part
returns-else-is_group_record c =
    rw (sym c.is_group_record.ensures ∙ c.if-is_group_record.false)
