-- `group_records::group::build` meets its contract.
use mathlib.Core.Path.{ap, ◌∙◌}
use native.Mathlib.Omega.{arith}
use lib.ListN.{length}
use Rattle.group_records.specs.Inner.{given_of}
use Rattle.group_records.proofs.GroupBuild.{built-classes, built-members, built-is}
use Rattle.group_records.proofs.group.build.Goals as goal
use Rattle.group_records.proofs.group.build.Goals.{then-class_count-gt64-via-then-class_count-gt64, then-class_count-gt64-via-else-class_count-gt64+then-numbers-gt256}

pub returns-then-class_count-gt64 : goal.returns-then-class_count-gt64
returns-then-class_count-gt64 c =
    let b = c.args.body.now in
    elim c.then-class_count-gt64.branch [
      | then-class_count-gt64-via-then-class_count-gt64 w ↦ c.no_group.ensures ∙ built-classes (given_of b) (omega arith)
      | then-class_count-gt64-via-else-class_count-gt64+then-numbers-gt256 w ↦ c.no_group.ensures ∙ built-members (given_of b) (omega (arith, ap length c.requires.1.1))
    ]

pub columns-group-requires : goal.columns-group-requires
columns-group-requires c =
    (c.requires.0, (omega (arith, c.if-class_count-gt64.false, c.class_count.ensures), c.requires.1.0))

pub returns : goal.returns
returns c =
    let b = c.args.body.now in
    built-is (given_of b) c.columns-group.result c.member_table-members.result c.args.numbers.now (omega (arith, c.if-class_count-gt64.false, c.class_count.ensures)) (omega arith) c.requires.1.1 c.columns-group.ensures c.member_table-members.ensures
