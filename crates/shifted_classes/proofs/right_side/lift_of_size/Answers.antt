-- `shifted_classes::right_side::lift_of_size` meets its contract.
use native.Mathlib.Omega.{arith}
use Rattle.shifted_classes.proofs.Placings.{size-over, size-moves}
use borrow.Author.Rules.{rules}
use Rattle.shifted_classes.proofs.right_side.lift_of_size.Goals as goal

pub returns-then-size-gt65535 : goal.returns-then-size-gt65535
returns-then-size-gt65535 c = (search rules, size-over c.args.size c.if-size-gt65535.true)

pub returns : goal.returns
returns c = (omega (arith, c.if-size-gt65535.false), size-moves c.args.size)
