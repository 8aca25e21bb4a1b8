-- `reduction::reducing::remove_redundant_entries` meets its contract.
use borrow.Author.Rules.{rules}
use Rattle.reduction.proofs.Passes.{reached-paid, work_begins, work_ends, work_cuts, work_passes, work_next, work_less}
use Rattle.reduction.proofs.reducing.remove_redundant_entries.Goals as goal

pub loop-work-init : goal.loop-work-init
loop-work-init c = work_begins c.args.g c.requires

pub pass-turn-requires : goal.pass-turn-requires
pass-turn-requires c =
    let l = c.loop-work in
    (reached-paid c.args.g l.list l.cuts c.requires l.invariant.reached).held

pub overflow_add-cuts : goal.overflow_add-cuts
overflow_add-cuts c =
    let l = c.loop-work in
    let b = work_cuts c.args.g l.list l.cuts l.passes l.work l.invariant c.requires c.loop-work-test.true c.pass-turn.result c.pass-turn.ensures in
    search rules

pub overflow_add-passes : goal.overflow_add-passes
overflow_add-passes c =
    let l = c.loop-work in
    let b = work_passes c.args.g l.list l.cuts l.passes l.work l.invariant c.requires c.loop-work-test.true c.pass-turn.result c.pass-turn.ensures in
    search rules

pub loop-work-smaller : goal.loop-work-smaller
loop-work-smaller c =
    let l = c.loop-work in
    work_less c.args.g l.list l.cuts l.passes l.work l.invariant c.requires c.loop-work-test.true c.pass-turn.result c.pass-turn.ensures

pub loop-work-preserved : goal.loop-work-preserved
loop-work-preserved c =
    let l = c.loop-work in
    work_next c.args.g l.list l.cuts l.passes l.work l.invariant c.requires c.loop-work-test.true c.pass-turn.result c.pass-turn.ensures

pub returns : goal.returns
returns c =
    let l = c.loop-work in
    work_ends c.args.g l.list l.cuts l.passes l.work l.invariant c.loop-work-test.false
