-- `classes::single::single_group` meets its contract.
use Rattle.arena.specs.Layout.{decode as nodes}
use Rattle.classes.proofs.OneClass.{single-is}
use Rattle.classes.proofs.single.single_group.Goals as goal

pub returns : goal.returns
returns c =
    single-is (nodes c.args.cells.now) c.args.e c.carried.result c.one_class.result c.carried.ensures c.one_class.ensures
