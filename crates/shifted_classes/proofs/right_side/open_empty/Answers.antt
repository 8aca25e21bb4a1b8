-- `shifted_classes::right_side::open_empty` meets its contract.
use Rattle.shifted_classes.proofs.ShiftedParts.{opened-empty}
use Rattle.shifted_classes.proofs.right_side.open_empty.Goals as goal

pub returns : goal.returns
returns c = opened-empty c.args.out c.requires.0 c.requires.1
