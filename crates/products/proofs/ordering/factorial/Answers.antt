-- `products::ordering::factorial` meets its contract: the table's rule is tested once over the whole table.
use Rattle.products.proofs.Chains.{factorial-is}
use Rattle.products.proofs.ordering.factorial.Goals as goal

pub returns : goal.returns
returns c = factorial-is c.args.n c.requires
