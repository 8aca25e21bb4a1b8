-- `classes::building::set_constant` meets its contract.
use Rattle.classes.proofs.Rebuilding.{constant-made}
use Rattle.classes.proofs.building.set_constant.Goals as goal

pub returns : goal.returns
returns c =
    constant-made c.args.g c.args.i _ _ _ _ _ c.requires.0 c.requires.1 c.constant_of.ensures c.taken_over-constant.ensures c.flavour.ensures c.value.ensures
