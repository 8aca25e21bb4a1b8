-- `classes::refusing::no_group` meets its contract.
use Rattle.classes.proofs.Judging.{no_group-is}
use Rattle.classes.proofs.refusing.no_group.Goals as goal

pub returns : goal.returns
returns c =
    no_group-is c.args.why c.refusal.result c.empty.result c.empty.ensures c.refusal.ensures
