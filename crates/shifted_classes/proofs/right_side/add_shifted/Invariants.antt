-- `shifted_classes::right_side::add_shifted` meets its contract.
use mathlib.Core.Path.{◌≡◌}
use lib.ListN.{take}
use Rattle.arena.specs.Layout.{decode as nodes}
use Rattle.classes.specs.Group.{total}
use Rattle.classes.specs.Layout.{decode}
use Rattle.shifted_classes.proofs.ShiftedParts.{AddedTo}
use Rattle.shifted_classes.proofs.right_side.add_shifted.Given as goal

abbrev pub invariant-loop-j : goal.invariant-loop-j
invariant-loop-j l = (l.start ≡ total (take l.j (decode l.right))) × AddedTo (nodes l.cells) l.initial.out l.right l.members l.j l.out
