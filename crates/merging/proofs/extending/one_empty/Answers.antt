-- `merging::extending::one_empty` meets its contract.
use Rattle.merging.proofs.Missing.{empty-built}
use Rattle.merging.proofs.extending.one_empty.Goals as goal

pub returns : goal.returns
returns c =
    empty-built c.empty-g.result c.flavour.result c.value.result c.args.constant c.empty-g.ensures c.flavour.ensures c.value.ensures
