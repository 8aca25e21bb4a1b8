-- `projection::listing::project_all` meets its contract.
use mathlib.Core.Path.{subst}
use native.Mathlib.Omega.{arith}
use lib.ListN.{get_or}
use Rattle.projection.specs.Inner.{WalkedOne}
use Rattle.projection.proofs.ListLaws.{all-begin, all-ready, all-full, all_more, all_end}
use Rattle.projection.proofs.listing.project_all.Goals as goal

pub loop-k-init : goal.loop-k-init
loop-k-init c = all-begin c.args.cells.now c.args.table.now c.args.exprs.now c.requires

pub project_one-requires : goal.project_one-requires
project_one-requires c =
    let o = c.loop-k in
    all-ready c.args.cells.now c.args.table.now c.args.exprs.now c.requires o.cells o.table o.k o.invariant c.loop-k-test.true

pub returns-then-not-project_one : goal.returns-then-not-project_one
returns-then-not-project_one c =
    let o = c.loop-k in
    let w = c.project_one in
    let e = get_or c.args.exprs.now o.k 0 in
    all-full c.args.cells.now c.args.table.now c.args.exprs.now c.requires o.cells o.table o.k o.invariant c.loop-k-test.true w.new.cells w.new.table
    (subst (WalkedOne o.cells o.table w.new.cells w.new.table e) c.if-not-project_one.true w.ensures)

pub loop-k-preserved : goal.loop-k-preserved
loop-k-preserved c =
    let o = c.loop-k in
    let w = c.project_one in
    let e = get_or c.args.exprs.now o.k 0 in
    all_more c.args.cells.now c.args.table.now c.args.exprs.now c.requires o.cells o.table o.k o.invariant c.loop-k-test.true w.new.cells w.new.table
    (subst (WalkedOne o.cells o.table w.new.cells w.new.table e) c.if-not-project_one.false w.ensures)

pub returns : goal.returns
returns c =
    let o = c.loop-k in
    all_end c.args.cells.now c.args.table.now c.args.exprs.now c.requires o.cells o.table o.k o.invariant (omega (arith, c.loop-k-test.false))
