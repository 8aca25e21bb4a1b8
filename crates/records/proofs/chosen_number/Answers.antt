-- `records::chosen_number` meets its contract.
use Rattle.arena.specs.Refusals.{outcome, refusal}
use Rattle.records.specs.Chosen.{chosen_number, number_of}
use Rattle.records.proofs.Choices.{side-low, side_left, side_right, side-high}
use native.Mathlib.Omega.{arith}
use Rattle.records.proofs.chosen_number.Goals as goal

pub returns-in-4-to-6 : goal.returns-in-4-to-6
unfolding chosen_number
returns-in-4-to-6 c =
    rw (side_left c.args.kind c.args.left.now c.args.right.now (omega arith) (omega arith)) c.group_number.ensures

pub returns-in-7-to-9 : goal.returns-in-7-to-9
unfolding chosen_number
returns-in-7-to-9 c =
    rw (side_right c.args.kind c.args.left.now c.args.right.now (omega arith) (omega arith)) c.group_number-in-7-to-9.ensures

pub returns-in_default : goal.returns-in_default
unfolding chosen_number number_of outcome refusal
returns-in_default c =
    rw (side-low c.args.kind c.args.left.now c.args.right.now (omega arith))

pub returns-in_default-2 : goal.returns-in_default-2
unfolding chosen_number number_of outcome refusal
returns-in_default-2 c =
    rw (side-high c.args.kind c.args.left.now c.args.right.now (omega arith))
