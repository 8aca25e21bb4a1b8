-- `group_records::group::class_count` meets its contract.
use mathlib.Core.Path.{◌∙◌}
use native.Mathlib.Omega.{arith}
use Rattle.group_records.proofs.GroupWalk.{body_long, class-number}
use Rattle.group_records.proofs.group.class_count.Goals as goal

pub field-requires : goal.field-requires
field-requires c =
    omega (arith, body_long c.args.body.now c.requires)

pub returns : goal.returns
returns c =
    c.index.ensures.0 ∙ c.field.ensures ∙ class-number c.args.body.now c.requires
