-- `shifted_classes::right_side::add_class_from` meets its contract.
use lib.ListN.{take, drop}
use Rattle.arena.specs.Layout.{decode as nodes}
use Rattle.shifted_classes.proofs.ShiftedParts.{PushedTo}
use Rattle.shifted_classes.proofs.right_side.add_class_from.Given as goal

abbrev pub invariant-loop-k : goal.invariant-loop-k
invariant-loop-k l = PushedTo (nodes l.cells) l.initial.next (take l.n (drop l.start l.members)) l.k l.next
