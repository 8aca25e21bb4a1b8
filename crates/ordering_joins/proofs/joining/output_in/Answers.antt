-- `ordering_joins::joining::output_in` meets its contract.
use mathlib.Core.Path.{sym, ◌∙◌, subst}
use borrow.Author.Rules.{rules}
use Rattle.arena.proofs.Refusals.{handed-on}
use Rattle.ordering_joins.specs.Inner.{Collecting}
use Rattle.orderings.specs.declared.Ordering.{Ordering}
use Rattle.orderings.proofs.Codec.{count-few, place-held}
use Rattle.orderings.proofs.Extending.{held-short}
use Rattle.ordering_joins.proofs.Collecting.{collecting_begins, collecting_on, collecting_stops, collecting_ends}
use Rattle.ordering_joins.proofs.joining.output_in.Goals as goal

pub loop-i-init : goal.loop-i-init
loop-i-init c = subst (λ (y : Ordering). Collecting c.args.g 0 y) (sym c.nothing-out.ensures) (collecting_begins c.args.g c.requires)

pub offset_bounds-g-i : goal.offset_bounds-g-i
offset_bounds-g-i c = let b = count-few c.args.g c.requires in search rules

pub bounds-g-i : goal.bounds-g-i
bounds-g-i c = let b = count-few c.args.g c.requires in search rules

pub extend-requires : goal.extend-requires
extend-requires c =
    let l = c.loop-i in
    (l.invariant.short, held-short _ (place-held c.args.g c.requires l.i c.loop-i-test.true))

pub returns-in_err-out : goal.returns-in_err-out
returns-in_err-out c =
    let l = c.loop-i in
    handed-on _ _ c.from_residual.ensures.1
    ∙ collecting_stops c.args.g c.requires l.i l.out l.invariant c.loop-i-test.true _ (sym c.in_err-out.was ∙ c.extend.ensures)

pub loop-i-preserved : goal.loop-i-preserved
loop-i-preserved c =
    let l = c.loop-i in
    collecting_on c.args.g c.requires l.i l.out l.invariant c.loop-i-test.true c.in_ok-out.out (sym c.in_ok-out.was ∙ c.extend.ensures)

pub returns : goal.returns
returns c =
    let l = c.loop-i in
    collecting_ends c.args.g c.requires l.i l.out l.invariant c.loop-i-test.false
