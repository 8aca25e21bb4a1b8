-- `reduction::add_orderings` meets its contract.
use Rattle.std.proofs.Common.{sym, ◌∙◌}
use Rattle.reduction.proofs.Calling.{add-refused-by, add-passed}
use Rattle.reduction.proofs.LentLaws.{lent-list, lent-fit}
use Rattle.orderings.proofs.Asking.{done-zero}
use Rattle.orderings.proofs.ListChecks.{sized}
use Rattle.orderings.proofs.ListHeld.{number-held}
use Rattle.reduction.proofs.add_orderings.Goals as goal

pub add_in-requires : goal.add_in-requires
add_in-requires c =
    let cells = c.args.cells.now in
    let ns = c.args.numbers.now in
    let z = done-zero _ (sym c.in-Ok.ensures) in
    ((number-held cells c.args.list (sized c.args.list _ c.well_formed.1.0) (lent-list cells c.args.list ns z)).held, lent-fit cells c.args.list ns z)

pub returns-in-Ok : goal.returns-in-Ok
returns-in-Ok c =
    c.add_in.ensures ∙ sym (add-passed c.args.cells.now c.args.list c.args.numbers.now (sym c.in-Ok.ensures))

pub returns-in-Err : goal.returns-in-Err
returns-in-Err c =
    c.refusal.ensures ∙ add-refused-by c.args.cells.now c.args.list c.args.numbers.now c.in-Err.why (sym c.in-Err.ensures)
