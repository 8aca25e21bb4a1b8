-- `projection::project_expr` meets its contract.
use mathlib.Core.Path.{◌≡◌, sym, ◌∙◌}
use native.Mathlib.Omega.{arith}
use borrow.Author.Tests.{eq-eqb}
use lib.ListN.{length}
use Rattle.group_checks.proofs.Calling.{number-known}
use Rattle.group_checks.proofs.HeldLaws.{number-held}
use Rattle.normal.proofs.Calling.{handed-back}
use Rattle.mappings.specs.Lent.{mapping_lent}
use Rattle.mappings.specs.Calls.{project_number}
use Rattle.mappings.proofs.MappingChecked.{mapping-whole, group-passes}
use Rattle.projection.specs.Calls.{project_expr}
use Rattle.arena.proofs.Refusals.{done-zero, zero-ok, handed-on}
use Rattle.projection.proofs.CallLaws.{lent-checked, expr-unknown, expr-known}
use borrow.Author.Rules.{rules}
use Rattle.projection.proofs.project_expr.Goals as goal

pub returns-in_err-project_number : goal.returns-in_err-project_number
returns-in_err-project_number c =
    let x = c.args in
    handed-back (project_number x.cells.now x.group x.mapping.now) (project_expr x.expr (mapping_lent x.mapping.now)) x.cells.now x.group _ _ (sym c.project_number.ensures ∙ c.in_err-project_number.was) (handed-on _ _ c.from_residual.ensures.1)

pub returns-then-n-wide : goal.returns-then-n-wide
returns-then-n-wide c =
    let z = done-zero _ (sym c.project_number.ensures ∙ c.in_ok-project_number.was) in
    expr-unknown c.args.cells.now c.args.mapping.now c.args.group z c.args.expr (omega (arith, c.if-n-wide.true, c.wide.ensures, c.node_count-n.ensures))

pub read_mapping-requires : goal.read_mapping-requires
read_mapping-requires c =
    mapping-whole c.args.cells.now c.args.mapping.now c.args.group (done-zero _ (sym c.project_number.ensures ∙ c.in_ok-project_number.was))

pub project_in-requires : goal.project_in-requires
project_in-requires c =
    let z = done-zero _ (sym c.project_number.ensures ∙ c.in_ok-project_number.was) in
    let q = group-passes c.args.cells.now c.args.mapping.now c.args.group z in
    let sz : length c.args.group.sizes ≡ 64 = search rules in
    let fl : length c.args.group.flavours ≡ 64 = search rules in
    let vl : length c.args.group.values ≡ 64 = search rules in
    let mm : length c.args.group.members ≡ 256 = search rules in
    let m = c.read_mapping in (
      (number-known c.args.cells.now c.args.group c.args.expr (zero-ok _ (eq-eqb _ 0 q)) (omega (arith, c.if-n-wide.false, c.wide.ensures, c.node_count-n.ensures)), lent-checked c.args.cells.now c.args.mapping.now c.args.group z m.result m.ensures.0 m.ensures.1),
      (number-held c.args.cells.now c.args.group sz fl vl mm q).coded,
    )

pub returns : goal.returns
returns c =
    let z = done-zero _ (sym c.project_number.ensures ∙ c.in_ok-project_number.was) in
    let m = c.read_mapping in
    expr-known c.args.cells.now c.args.mapping.now c.args.group z c.args.expr (omega (arith, c.if-n-wide.false, c.wide.ensures, c.node_count-n.ensures)) m.result m.ensures.0 (c.project_in.result, c.project_in.new.cells) c.project_in.ensures
