-- `classes::building::class_size` meets its contract.
use Rattle.classes.proofs.Codec.{size_is}
use Rattle.classes.proofs.building.class_size.Goals as goal

pub returns : goal.returns
returns c =
    size_is c.args.g c.requires.0 c.args.i
