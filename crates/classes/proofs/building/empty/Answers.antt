-- `classes::building::empty` meets its contract.
use Rattle.classes.specs.Group.{total}
use Rattle.classes.specs.Good.{flat}
use Rattle.classes.specs.Layout.{encode, padded}
use borrow.Author.Rules.{rules}
use Rattle.classes.proofs.building.empty.Goals as goal

pub returns : goal.returns
unfolding encode padded flat total
returns c = search rules
