-- `arena::checking::same_row` meets its contract.
use Rattle.std.proofs.Common.{rules, tests, eqb, get_or}
use Rattle.laws.proofs.Runs.{each-all}
use Rattle.arena.specs.Layout.{same_row, cell_of}
use Rattle.arena.proofs.checking.same_row.Goals as goal

pub returns : goal.returns
unfolding same_row
returns c =
    each-all (λ j. eqb (cell_of c.args.cells.now c.args.i j) (get_or c.args.row.now j 0)) 11 _ _ _ c.all.ensures.ran (λ x b q k. search (rules, tests))
