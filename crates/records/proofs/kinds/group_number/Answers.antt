-- `records::kinds::group_number` meets its contract.
use Rattle.std.proofs.Common.{sym, ◌∙◌}
use Rattle.records.specs.Chosen.{number_of}
use Rattle.arena.specs.Refusals.{outcome, refusal}
use Rattle.records.proofs.kinds.group_number.Goals as goal

pub returns-then-is_group_record : goal.returns-then-is_group_record
unfolding number_of outcome
returns-then-is_group_record c =
    rw (sym c.is_group_record.ensures ∙ c.if-is_group_record.true)

pub returns-else-is_group_record : goal.returns-else-is_group_record
unfolding number_of outcome refusal
returns-else-is_group_record c =
    rw (sym c.is_group_record.ensures ∙ c.if-is_group_record.false)
