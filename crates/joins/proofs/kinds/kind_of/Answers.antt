-- `joins::kinds::kind_of` meets its contract: the table's rule is tested once over the whole table.
use Rattle.joins.proofs.KindTable.{kind-is}
use Rattle.joins.proofs.kinds.kind_of.Goals as goal

pub returns : goal.returns
returns c = kind-is c.args.kind c.requires
