-- `merging::bridging::drop_trivial` meets its contract.
use native.Mathlib.Omega.{arith}
use Rattle.merging.proofs.Dropping.{kept-begins, kept_next, kept-ends}
use Rattle.merging.proofs.bridging.drop_trivial.Goals as goal

pub loop-i-init : goal.loop-i-init
loop-i-init c = kept-begins c.args.g c.requires

pub drop_at-out-requires : goal.drop_at-out-requires
drop_at-out-requires c = (c.loop-i.invariant.coded, omega (arith, c.loop-i-test.true, c.loop-i.invariant.below))

pub loop-i-preserved : goal.loop-i-preserved
loop-i-preserved c =
    let l = c.loop-i in
    kept_next c.args.g l.out l.i c.loop-i-test.true l.invariant c.drop_at-out.result c.drop_at-out.ensures

pub returns : goal.returns
returns c = kept-ends c.args.g c.loop-i.out c.loop-i.i c.loop-i-test.false c.loop-i.invariant
