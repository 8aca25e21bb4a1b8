-- `merging::bridging::made` meets its contract.
use Rattle.merging.proofs.MadeLaws.{made-is}
use Rattle.merging.proofs.bridging.made.Goals as goal

pub returns : goal.returns
returns c = made-is c.args.g c.requires
