-- `questions::questions::has_pair` meets its contract.
use mathlib.Core.Path.{refl}
use Rattle.questions.specs.Inner.{told_pair}
use Rattle.questions.proofs.questions.has_pair.Goals as goal

pub returns : goal.returns
unfolding told_pair
returns c = refl
