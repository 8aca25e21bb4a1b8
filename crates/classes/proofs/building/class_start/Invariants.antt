-- `classes::building::class_start` meets its contract.
use Rattle.std.proofs.Common.{◌≡◌}
use Rattle.classes.specs.Layout.{sum_to}
use Rattle.classes.proofs.building.class_start.Given as goal

abbrev pub invariant-loop-i : goal.invariant-loop-i
invariant-loop-i l = l.sum ≡ sum_to l.sizes l.i
