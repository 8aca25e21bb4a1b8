-- `ordering_joins::join_suffix` meets its contract.
use mathlib.Core.Path.{sym, ◌∙◌}
use Rattle.ordering_joins.proofs.Calling.{join-refused-by, join-passed}
use Rattle.orderings.proofs.Asking.{done-zero}
use Rattle.orderings.proofs.ListChecks.{sized}
use Rattle.orderings.proofs.ListHeld.{two-held}
use Rattle.ordering_joins.proofs.join_suffix.Goals as goal

pub join_in-requires : goal.join_in-requires
join_in-requires c =
    let w = two-held c.args.cells.now c.args.list c.args.other (sized c.args.list _ c.well_formed.1.0) (sized c.args.other _ c.well_formed.1.1.0) (done-zero _ (sym c.in-Ok.ensures)) in
    (w.0.held, w.1.held)

pub returns-in-Ok : goal.returns-in-Ok
returns-in-Ok c =
    c.join_in.ensures ∙ sym (join-passed c.args.cells.now c.args.list c.args.other (sym c.in-Ok.ensures))

pub returns-in-Err : goal.returns-in-Err
returns-in-Err c =
    c.refusal.ensures ∙ join-refused-by c.args.cells.now c.args.list c.args.other c.in-Err.why (sym c.in-Err.ensures)
