-- `merging::extending::missing_class` meets its contract.
use Rattle.classes.specs.Group.{class_at}
use Rattle.classes.specs.Layout.{decode}
use Rattle.merging.proofs.Missing.{missing-begins, missing-ends}
use Rattle.merging.proofs.extending.missing_class.Goals as goal

pub constant_of-requires : goal.constant_of-requires
constant_of-requires c = (c.requires.0, c.requires.1.1)

pub loop-k-init : goal.loop-k-init
loop-k-init c =
    missing-begins (class_at (decode c.args.g) c.args.i) (class_at (decode c.args.g) c.args.j) c.constant_of.result c.one_empty-out.result c.constant_of.ensures c.one_empty-out.ensures

pub add_missing-out-requires : goal.add_missing-out-requires
add_missing-out-requires c = (c.requires, (c.loop-k-test.true, c.loop-k.invariant))

pub loop-k-preserved : goal.loop-k-preserved
loop-k-preserved c = c.add_missing-out.ensures

pub returns : goal.returns
returns c =
    missing-ends c.args.g c.requires.0 c.args.i c.args.j c.loop-k.k c.loop-k.out c.loop-k-test.false c.loop-k.invariant
