-- `arena::checking::row_below` meets its contract.
use Rattle.std.proofs.Common.{rules, tests}
use Rattle.laws.proofs.Runs.{first-find}
use Rattle.arena.specs.Layout.{same_row, row_below}
use Rattle.arena.proofs.checking.row_below.Goals as goal

pub returns : goal.returns
unfolding row_below
returns c =
    first-find (λ i. same_row c.args.cells.now i c.args.row.now) c.args.n _ _ _ c.find.ensures.ran (λ x b q k. search (rules, tests))
