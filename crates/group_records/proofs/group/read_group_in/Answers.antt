-- `group_records::group::read_group_in` meets its contract.
use mathlib.Core.Path.{sym, ap, ◌∙◌}
use native.Mathlib.Omega.{arith}
use lib.ListN.{length}
use Rattle.records.proofs.Headers.{field_below, length_body}
use Rattle.group_records.specs.GroupRecord.{body_given, group_of}
use Rattle.group_records.specs.Inner.{is_given}
use Rattle.group_records.proofs.Shape.{shaped-is}
use Rattle.group_records.proofs.GroupBuild.{not-group, group_body_lem, not-shaped, group-whole}
use Rattle.group_records.proofs.group.read_group_in.Goals as goal

pub returns-then-not-is_group_record : goal.returns-then-not-is_group_record
returns-then-not-is_group_record c =
    let x = c.args in
    c.no_group.ensures ∙ not-group x.cells.now x.bytes.now (sym c.is_group_record.ensures ∙ c.if-not-is_group_record.true)

pub body_of-body-requires : goal.body_of-body-requires
body_of-body-requires c =
    group-whole c.args.bytes.now (sym c.is_group_record.ensures ∙ c.if-not-is_group_record.false)

pub is_shaped-requires : goal.is_shaped-requires
is_shaped-requires c =
    let x = c.args.bytes.now in
    let f = field_below x 0 (omega (arith, c.shared_slice_known-1.given 0)) (omega (arith, c.shared_slice_known-1.given 1)) in
    omega (arith, f, length_body x (group-whole x (sym c.is_group_record.ensures ∙ c.if-not-is_group_record.false)), ap length c.body_of-body.ensures)

pub returns-then-not-is_shaped : goal.returns-then-not-is_shaped
returns-then-not-is_shaped c =
    let x = c.args in
    c.no_group-then-not-is_shaped.ensures ∙ not-shaped x.cells.now x.bytes.now (sym c.is_group_record.ensures ∙ c.if-not-is_group_record.false) (ap (λ b. is_given (body_given b)) (sym c.body_of-body.ensures) ∙ sym c.is_shaped.ensures ∙ c.if-not-is_shaped.true)

pub read_classes-requires : goal.read_classes-requires
read_classes-requires c =
    let x = c.args.bytes.now in
    let f = field_below x 0 (omega (arith, c.shared_slice_known-1.given 0)) (omega (arith, c.shared_slice_known-1.given 1)) in
    shaped-is _ (omega (arith, f, length_body x (group-whole x (sym c.is_group_record.ensures ∙ c.if-not-is_group_record.false)), ap length c.body_of-body.ensures)) (sym c.is_shaped.ensures ∙ c.if-not-is_shaped.false)

pub returns : goal.returns
returns c =
    let x = c.args in
    c.read_classes.ensures ∙ ap (λ b. group_of x.cells.now (body_given b)) c.body_of-body.ensures ∙ group_body_lem x.cells.now x.bytes.now (sym c.is_group_record.ensures ∙ c.if-not-is_group_record.false)
