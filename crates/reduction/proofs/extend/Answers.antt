-- `reduction::extend` meets its contract.
use Prim.Native.Nat.{ℕ}
use mathlib.Core.List.{List, ◌++◌}
use mathlib.Core.Path.{sym, ap, ◌∙◌}
use Rattle.orderings.specs.Layout.{decode}
use Rattle.reduction.specs.Calls.{reduced_list}
use Rattle.reduction.proofs.Adding.{built-lent}
use Rattle.reduction.proofs.Calling.{extend-refused-by, extend-passed}
use Rattle.reduction.proofs.LentLaws.{extend-lent, extend-orderings, lent-options, lent-list, lent-fit}
use Rattle.orderings.proofs.Asking.{done-zero}
use Rattle.orderings.proofs.ListChecks.{sized}
use Rattle.orderings.proofs.ListHeld.{number-held}
use Rattle.reduction.proofs.extend.Goals as goal

pub add_in-requires : goal.add_in-requires
add_in-requires c =
    let cells = c.args.cells.now in
    let ns = c.args.numbers.now in
    let z = extend-lent cells c.args.list ns (done-zero _ (sym c.in-Ok.ensures)) in
    ((number-held cells c.args.list (sized c.args.list _ c.well_formed.1.0) (lent-list cells c.args.list ns z)).held, lent-fit cells c.args.list ns z)

pub returns-in-Ok : goal.returns-in-Ok
returns-in-Ok c =
    let z = done-zero _ (sym c.in-Ok.ensures) in
    let cells = c.args.cells.now in
    let g = c.args.list in
    let ns = c.args.numbers.now in
    c.add_in.ensures
    ∙ ap (λ (t : List (List ℕ)). reduced_list g (decode g ++ t)) (built-lent ns (lent-options cells g ns (extend-lent cells g ns z)) (extend-orderings cells g ns z))
    ∙ sym (extend-passed cells g ns (sym c.in-Ok.ensures))

pub returns-in-Err : goal.returns-in-Err
returns-in-Err c =
    c.refusal.ensures ∙ extend-refused-by c.args.cells.now c.args.list c.args.numbers.now c.in-Err.why (sym c.in-Err.ensures)
