-- `reduction::reducing::pass` meets its contract.
use Rattle.reduction.proofs.Passes.{reached-paid, pass-begins, pass-ends, pass-next, pass-less}
use Rattle.reduction.proofs.reducing.pass.Goals as goal

pub loop-i-init : goal.loop-i-init
loop-i-init c = pass-begins c.args.g c.requires

pub round-turn-requires : goal.round-turn-requires
round-turn-requires c =
    let l = c.loop-i in
    (reached-paid c.args.g l.list l.cuts c.requires l.invariant.reached, c.loop-i-test.true)

pub loop-i-smaller : goal.loop-i-smaller
loop-i-smaller c =
    let l = c.loop-i in
    pass-less c.args.g l.list l.cuts l.i l.invariant c.loop-i-test.true c.round-turn.result c.round-turn.ensures

pub loop-i-preserved : goal.loop-i-preserved
loop-i-preserved c =
    let l = c.loop-i in
    pass-next c.args.g l.list l.cuts l.i l.invariant c.loop-i-test.true c.round-turn.result c.round-turn.ensures

pub returns : goal.returns
returns c =
    let l = c.loop-i in
    pass-ends c.args.g l.list l.cuts l.i l.invariant c.loop-i-test.false
