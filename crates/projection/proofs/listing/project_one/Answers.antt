-- `projection::listing::project_one` meets its contract.
use Prim.Native.Nat.{ℕ}
use mathlib.Core.Bool.{Bool, not}
use mathlib.Core.Path.{sym, ◌∙◌, ap, subst}
use native.Mathlib.Omega.{arith}
use lib.ListN.{get_or}
use Rattle.projection.specs.Inner.{WalkedOne}
use Rattle.projection.proofs.ListLaws.{one_below, one_none, one-ready, one-walked}
use Rattle.projection.proofs.listing.project_one.Goals as goal

pub offset_bounds-table-wide : goal.offset_bounds-table-wide
offset_bounds-table-wide c = omega (arith, c.wide.ensures, one_below c.args.cells.now c.args.table.now c.args.expr c.requires)

pub bounds-table-wide : goal.bounds-table-wide
bounds-table-wide c = omega (arith, c.wide.ensures, one_below c.args.cells.now c.args.table.now c.args.expr c.requires)

pub returns-then-table-wide-eq0 : goal.returns-then-table-wide-eq0
returns-then-table-wide-eq0 c =
    one_none c.args.cells.now c.args.table.now c.args.expr c.requires (ap (λ (i : ℕ). get_or c.args.table.now i 0) (sym c.wide.ensures) ∙ c.if-table-wide-eq0.true)

pub project_node-answer-requires : goal.project_node-answer-requires
project_node-answer-requires c =
    one-ready c.args.cells.now c.args.table.now c.args.expr c.requires (λ z. c.if-table-wide-eq0.false (ap (λ (i : ℕ). get_or c.args.table.now i 0) c.wide.ensures ∙ z))

pub returns : goal.returns
returns c =
    let w = c.project_node-answer in
    subst (λ (b : Bool). WalkedOne c.args.cells.now c.args.table.now w.new.cells w.new.table c.args.expr (not b)) (sym c.refused.ensures)
    (one-walked c.args.cells.now c.args.table.now c.args.expr w.new.cells w.new.table w.result w.ensures)
