-- `records::kinds::is_group_record` meets its contract.
use Rattle.std.proofs.Common.{sym, ◌∙◌}
use Rattle.records.proofs.Headers.{whole-header}
use Rattle.records.proofs.kinds.is_group_record.Goals as goal

pub field-requires : goal.field-requires
field-requires c =
    whole-header c.args.bytes.now (sym c.is_whole.ensures ∙ c.if-is_whole.true)
