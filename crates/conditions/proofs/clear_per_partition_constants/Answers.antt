-- `conditions::clear_per_partition_constants` meets its contract.
use mathlib.Core.Path.{◌≡◌, sym, ◌∙◌}
use borrow.Author.Rules.{rules}
use lib.ListN.{length}
use Rattle.arena.proofs.Refusals.{done-zero}
use Rattle.group_checks.proofs.HeldLaws.{number-held}
use Rattle.classes.proofs.Judging.{refusal_is}
use Rattle.group_checks.proofs.Calling.{group-done, group-refused}
use Rattle.conditions.specs.Steps.{clear}
use Rattle.conditions.proofs.clear_per_partition_constants.Goals as goal

pub returns-in-Err : goal.returns-in-Err
returns-in-Err c =
    refusal_is c.refusal.result c.in-Err.why c.args.group c.refusal.ensures ∙ group-refused c.args.cells.now c.args.group (λ ns cs. clear cs) c.in-Err.why (sym c.check_group.ensures ∙ c.in-Err.is)

pub clear_in-requires : goal.clear_in-requires
clear_in-requires c =
    let sz : length c.args.group.sizes ≡ 64 = search rules in
    let fl : length c.args.group.flavours ≡ 64 = search rules in
    let vl : length c.args.group.values ≡ 64 = search rules in
    let mm : length c.args.group.members ≡ 256 = search rules in
    let h = number-held c.args.cells.now c.args.group sz fl vl mm (done-zero _ (sym c.check_group.ensures ∙ c.in_default.is)) in
    h.coded

pub returns : goal.returns
returns c =
    c.clear_in.ensures ∙ sym (group-done c.args.cells.now c.args.group (λ ns cs. clear cs) (sym c.check_group.ensures ∙ c.in_default.is))
