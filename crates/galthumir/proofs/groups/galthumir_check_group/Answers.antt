-- `galthumir::groups::galthumir_check_group` meets its contract.
use Rattle.std.proofs.Common.{ap, ◌∙◌}
use Rattle.arena.specs.Refusals.{number_of}
use Rattle.group_checks.proofs.Calling.{group-listed}
use Rattle.group_states.specs.Groups.{group_from}
use Rattle.galthumir.proofs.groups.galthumir_check_group.Goals as goal

pub returns : goal.returns
returns c =
    c.number_of.ensures ∙ ap number_of (rw c.load_group.ensures at c.check.ensures) ∙ group-listed c.args.arena.now (group_from c.args.group.now)
