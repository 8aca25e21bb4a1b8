-- `group_projection::project` meets its contract.
use mathlib.Core.Path.{◌≡◌, sym, ◌∙◌}
use lib.ListN.{length}
use Rattle.arena.proofs.Refusals.{done-zero}
use Rattle.group_checks.proofs.HeldLaws.{number-held}
use Rattle.mappings.specs.Layout.{decode as mapping}
use Rattle.mappings.proofs.MappingChecked.{mapping-whole, group-passes}
use Rattle.projection.proofs.CallLaws.{lent-holds, lent-checked}
use Rattle.group_projection.proofs.ProjectLaws.{call-refused, call-done}
use borrow.Author.Rules.{rules}
use Rattle.group_projection.proofs.project.Goals as goal

pub returns-in-Err : goal.returns-in-Err
returns-in-Err c =
    let n = c.project_number in
    call-refused c.args.cells.now c.args.group c.args.mapping.now c.in-Err.why (sym n.ensures ∙ c.in-Err.is) c.refusal.result c.refusal.ensures

pub read_mapping-requires : goal.read_mapping-requires
read_mapping-requires c =
    mapping-whole c.args.cells.now c.args.mapping.now c.args.group (done-zero _ (sym c.project_number.ensures ∙ c.in_default.is))

pub project_in-requires : goal.project_in-requires
project_in-requires c =
    let z = done-zero _ (sym c.project_number.ensures ∙ c.in_default.is) in
    let sz : length c.args.group.sizes ≡ 64 = search rules in
    let fl : length c.args.group.flavours ≡ 64 = search rules in
    let vl : length c.args.group.values ≡ 64 = search rules in
    let mm : length c.args.group.members ≡ 256 = search rules in
    let m = c.read_mapping in (
      (lent-holds c.args.cells.now c.args.mapping.now c.args.group z, number-held c.args.cells.now c.args.group sz fl vl mm (group-passes c.args.cells.now c.args.mapping.now c.args.group z)),
      lent-checked c.args.cells.now c.args.mapping.now c.args.group z m.result m.ensures.0 m.ensures.1,
    )

pub returns : goal.returns
returns c =
    let m = c.read_mapping in
    let o = c.project_in in
    call-done c.args.cells.now c.args.group c.args.mapping.now (sym c.project_number.ensures ∙ c.in_default.is)
    (mapping m.result) m.ensures.0 (o.result, o.new.cells) o.ensures
