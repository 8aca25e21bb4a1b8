-- `normal::normalize_expr` meets its contract.
use mathlib.Core.Path.{sym}
use native.Mathlib.Omega.{arith}
use borrow.Author.Rules.{rules}
use Rattle.arena.proofs.Layouts.{lawful-holds}
use Rattle.arena.proofs.Refusals.{handed-on, done-zero}
use Rattle.classes.specs.Calls.{group_number}
use Rattle.group_checks.proofs.Calling.{number-known}
use Rattle.group_checks.proofs.HeldLaws.{number-lawful, number-held}
use Rattle.normal.specs.Calls.{normalize_expr}
use Rattle.normal.proofs.Calling.{handed-back, expr-unknown, expr-known}
use Rattle.normal.proofs.normalize_expr.Goals as goal

pub returns-in_err-check_group : goal.returns-in_err-check_group
returns-in_err-check_group c =
    handed-back (group_number c.args.cells.now c.args.group) (normalize_expr c.args.expr) c.args.cells.now c.args.group _ _ (sym c.in_err-check_group.ensures) (handed-on _ _ c.from_residual.ensures.1)

pub returns-then-n-wide : goal.returns-then-n-wide
returns-then-n-wide c =
    let z = done-zero _ (sym c.in_ok-check_group.ensures) in
    expr-unknown c.args.expr c.args.cells.now c.args.group z (lawful-holds c.args.cells.now (number-lawful c.args.cells.now c.args.group z)) (omega (arith, c.if-n-wide.true, c.wide.ensures, c.node_count-n.ensures))

pub normalize_in-requires : goal.normalize_in-requires
normalize_in-requires c =
    let z = sym c.in_ok-check_group.ensures in
    (number-known c.args.cells.now c.args.group c.args.expr z (omega (arith, c.if-n-wide.false, c.wide.ensures, c.node_count-n.ensures)), number-held c.args.cells.now c.args.group (search rules) (search rules) (search rules) (search rules) (done-zero _ z))

pub returns : goal.returns
returns c =
    let z = done-zero _ (sym c.in_ok-check_group.ensures) in
    expr-known c.args.expr c.args.cells.now c.args.group z (omega (arith, c.if-n-wide.false, c.wide.ensures, c.node_count-n.ensures)) (c.normalize_in.result, c.normalize_in.new.cells) c.normalize_in.ensures
