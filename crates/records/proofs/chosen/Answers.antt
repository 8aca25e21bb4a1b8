-- `records::chosen` meets its contract.
use Rattle.std.specs.Prelude.{None}
use mathlib.Core.Path.{◌≡◌}
use Rattle.records.specs.Chosen.{side_of, chosen_part, part_of}
use Rattle.records.proofs.Choices.{side-low, side_left, side_right, side-high}
use native.Mathlib.Omega.{arith}
use Rattle.records.proofs.chosen.Goals.{in_default-via-then-kind-lt4, in_default-via-else-kind-lt4+else-kind-lt7+else-kind-lt10}
use Rattle.records.proofs.chosen.Goals as goal

pub returns-in-4-to-6 : goal.returns-in-4-to-6
unfolding chosen_part part_of
returns-in-4-to-6 c =
    rw (side_left c.args.kind c.args.left.now c.args.right.now (omega arith) (omega arith)) c.group_part.ensures

pub returns-in-7-to-9 : goal.returns-in-7-to-9
unfolding chosen_part part_of
returns-in-7-to-9 c =
    rw (side_right c.args.kind c.args.left.now c.args.right.now (omega arith) (omega arith)) c.group_part-in-7-to-9.ensures

pub returns-in_default : goal.returns-in_default
unfolding chosen_part part_of
returns-in_default c =
    let l = c.args.left.now in
    let r = c.args.right.now in
    let e : side_of c.args.kind l r ≡ None = elim c.in_default.branch [
      | in_default-via-then-kind-lt4 w ↦ side-low c.args.kind l r (omega arith)
      | in_default-via-else-kind-lt4+else-kind-lt7+else-kind-lt10 w ↦ side-high c.args.kind l r (omega arith)
    ] in
    rw e
