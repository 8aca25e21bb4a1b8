-- `projection_table::table::class_entry` meets its contract.
use Rattle.questions.specs.Inner.{same_place}
use Rattle.projection_table.proofs.Sources.{Searching}
use Rattle.projection_table.proofs.table.class_entry.Given as goal

abbrev pub invariant-loop-i : goal.invariant-loop-i
invariant-loop-i l = Searching (λ s. same_place l.places s l.e) l.m l.i
