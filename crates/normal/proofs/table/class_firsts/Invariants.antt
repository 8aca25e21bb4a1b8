-- `normal::table::class_firsts` meets its contract.
use mathlib.Core.Path.{◌≡◌}
use lib.ListN.{length}
use Rattle.classes.specs.Layout.{decode}
use Rattle.normal.specs.Inner.{Firsts}
use Rattle.normal.proofs.table.class_firsts.Given as goal

abbrev pub invariant-loop-e : goal.invariant-loop-e
invariant-loop-e l = (length l.firsts ≡ 1024) × Firsts (decode l.g) l.e l.firsts
