-- `answers::put_one` meets its contract.
use mathlib.Core.Path.{sym, ◌∙◌}
use native.Mathlib.Omega.{arith}
use lib.Seq.{take_all}
use Rattle.states.specs.Orders.{ordering_cells}
use Rattle.answers.proofs.put_one.Goals as goal

pub returns : goal.returns
unfolding ordering_cells
returns c = sym (take_all 17 c.put_ordering.new.cells (omega (arith, c.put_ordering.auto.cells, c.told-answer))) ∙ c.put_ordering.ensures
