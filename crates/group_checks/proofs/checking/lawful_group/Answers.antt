-- `group_checks::checking::lawful_group` meets its contract.
use Rattle.std.proofs.Common.{sym, ◌∙◌, arith}
use Rattle.group_checks.proofs.Checks.{counts}
use Rattle.group_checks.proofs.checking.lawful_group.Goals as goal

pub members_fresh-requires : goal.members_fresh-requires
members_fresh-requires c =
    omega (arith, counts c.args.g (sym c.lawful_counts.ensures ∙ c.if-not-lawful_counts.false), c.requires.1)

pub classes_uniform-requires : goal.classes_uniform-requires
classes_uniform-requires c =
    let n = counts c.args.g (sym c.lawful_counts.ensures ∙ c.if-not-lawful_counts.false) in
    (c.requires.0, omega (arith, c.requires.1))

pub group_unused-requires : goal.group_unused-requires
group_unused-requires c =
    let n = counts c.args.g (sym c.lawful_counts.ensures ∙ c.if-not-lawful_counts.false) in
    omega (arith, c.requires.1)
