-- `records::read_record` meets its contract.
use Rattle.std.proofs.Common.{sym, ◌∙◌}
use Rattle.records.specs.Record.{read_record, item_of}
use Rattle.records.proofs.read_record.Goals as goal

pub read_body-requires : goal.read_body-requires
read_body-requires c =
    sym c.is_whole.ensures ∙ c.if-is_whole.true

pub returns-then-is_whole : goal.returns-then-is_whole
unfolding read_record
returns-then-is_whole c =
    rw (sym c.is_whole.ensures ∙ c.if-is_whole.true) c.read_body.ensures

pub returns-else-is_whole : goal.returns-else-is_whole
unfolding read_record item_of
returns-else-is_whole c =
    rw (sym c.is_whole.ensures ∙ c.if-is_whole.false)
