-- `merging::bridging::bridge_classes` meets its contract.
use Rattle.merging.proofs.Bridges.{bridging-begins, bridging-next, bridging-ends}
use Rattle.merging.proofs.bridging.bridge_classes.Goals as goal

pub loop-i-init : goal.loop-i-init
loop-i-init c = bridging-begins c.args.g c.requires

pub bridge_step-step-requires : goal.bridge_step-step-requires
bridge_step-step-requires c = (c.loop-i.invariant.coded, c.loop-i-test.true)

pub loop-i-smaller : goal.loop-i-smaller
loop-i-smaller c = c.bridge_step-step.ensures.less

pub loop-i-preserved : goal.loop-i-preserved
loop-i-preserved c =
    let l = c.loop-i in
    let r = c.bridge_step-step in
    bridging-next c.args.g l.out l.i l.invariant r.result.group r.result.next r.ensures

pub returns : goal.returns
returns c = bridging-ends c.args.g c.loop-i.out c.loop-i.i c.loop-i-test.false c.loop-i.invariant
