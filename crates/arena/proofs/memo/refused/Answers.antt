-- `arena::memo::refused` meets its contract.
use Rattle.std.proofs.Common.{◌≡◌, ◌∙◌, refl}
use Rattle.std.specs.Prelude.{Ok, Err, is_err}
use Rattle.arena.specs.Refusals.{Added}
use Rattle.arena.specs.Inner.{is_refused}
use Rattle.arena.proofs.memo.refused.Goals as goal

is-err : (answer : Added) → is_err answer ≡ is_refused answer
unfolding is_refused
is-err (Ok i) = refl
is-err (Err e) = refl

pub returns : goal.returns
returns c = c.is_err.ensures.value ∙ is-err c.args.answer
