-- `projection_table::table::source_entry` meets its contract.
use lib.Dec.{eqb}
use Rattle.projection_table.proofs.Sources.{Searching}
use Rattle.projection_table.proofs.table.source_entry.Given as goal

abbrev pub invariant-loop-i : goal.invariant-loop-i
invariant-loop-i l = Searching (λ s. eqb s l.e) l.m l.i
