-- `questions::questions::class_marks` meets its contract.
use mathlib.Core.Path.{◌≡◌}
use lib.ListN.{length}
use Rattle.classes.specs.Layout.{decode}
use Rattle.questions.specs.Inner.{Marked}
use Rattle.questions.proofs.questions.class_marks.Given as goal

abbrev pub invariant-loop-e : goal.invariant-loop-e
invariant-loop-e l = (length l.marks ≡ 1024) × Marked (decode l.g) l.e l.marks
