-- `classes::single::one_class` meets its contract.
use Rattle.classes.proofs.OneClass.{one-built}
use Rattle.classes.proofs.single.one_class.Goals as goal

pub returns : goal.returns
returns c = one-built c.empty-g.result c.args.e _ _ _ c.empty-g.ensures c.flavour.ensures c.value.ensures
