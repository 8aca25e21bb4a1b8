-- `projection::listing::project_list` meets its contract.
use mathlib.Core.Path.{ap, subst}
use Rattle.arena.specs.Refusals.{outcome, refusal}
use Rattle.projection.specs.Calls.{told_list}
use native.Mathlib.Omega.{arith}
use Rattle.classes.specs.Layout.{decode as classes}
use Rattle.mappings.specs.Layout.{decode}
use Rattle.projection.specs.Inner.{WalkedAll}
use Rattle.projection.proofs.Written.{list-ready, list_full, list-short, list_done}
use Rattle.projection.proofs.listing.project_list.Goals as goal

pub project_all-requires : goal.project_all-requires
project_all-requires c =
    let f = c.projection_table-table in
    list-ready c.args.cells.now c.args.exprs.now c.requires.0.0.0 c.requires.1 (classes c.args.g) (decode c.args.m) f.result f.ensures

pub returns-then-not-project_all : goal.returns-then-not-project_all
unfolding outcome refusal
returns-then-not-project_all c =
    let f = c.projection_table-table in
    let w = c.project_all in
    ap told_list (list_full c.args.cells.now c.args.exprs.now c.requires.0.0.0 c.requires.1 (classes c.args.g) (decode c.args.m) f.result f.ensures w.new.cells w.new.table c.args.out.now
    (subst (WalkedAll c.args.cells.now f.result w.new.cells w.new.table c.args.exprs.now) c.if-not-project_all.true w.ensures))

pub returns-then-out-exprs : goal.returns-then-out-exprs
unfolding outcome refusal
returns-then-out-exprs c =
    let f = c.projection_table-table in
    let w = c.project_all in
    ap told_list (list-short c.args.cells.now c.args.exprs.now c.requires.0.0.0 c.requires.1 (classes c.args.g) (decode c.args.m) f.result f.ensures w.new.cells w.new.table c.args.out.now
    (subst (WalkedAll c.args.cells.now f.result w.new.cells w.new.table c.args.exprs.now) c.if-not-project_all.false w.ensures) c.if-out-exprs.true)

pub write_answers-requires : goal.write_answers-requires
write_answers-requires c =
    (omega (arith, c.if-out-exprs.false), λ k l. omega (arith, c.requires.1 k l, c.requires.0.0.0.few))

pub returns : goal.returns
unfolding outcome refusal
returns c =
    let f = c.projection_table-table in
    let w = c.project_all in
    let a = c.write_answers in
    ap told_list (list_done c.args.cells.now c.args.exprs.now c.requires.0.0.0 c.requires.1 (classes c.args.g) (decode c.args.m) f.result f.ensures w.new.cells w.new.table c.args.out.now
    (subst (WalkedAll c.args.cells.now f.result w.new.cells w.new.table c.args.exprs.now) c.if-not-project_all.false w.ensures)
    (omega (arith, c.if-out-exprs.false)) a.new.out a.ensures)
