-- `questions::questions::class_places` meets its contract.
use mathlib.Core.Path.{◌≡◌}
use lib.ListN.{length}
use Rattle.classes.specs.Layout.{decode}
use Rattle.questions.specs.Inner.{Placed}
use Rattle.questions.proofs.questions.class_places.Given as goal

abbrev pub invariant-loop-e : goal.invariant-loop-e
invariant-loop-e l = (length l.places ≡ 1024) × Placed (decode l.g) l.e l.places
