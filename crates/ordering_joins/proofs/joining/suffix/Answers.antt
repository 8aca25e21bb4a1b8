-- `ordering_joins::joining::suffix` meets its contract.
use mathlib.Core.Path.{sym, ◌∙◌}
use borrow.Author.Rules.{rules}
use Rattle.arena.proofs.Refusals.{handed-on}
use Rattle.orderings.proofs.Codec.{count-few, place_in, place-held}
use Rattle.orderings.proofs.Extending.{held-short}
use Rattle.ordering_joins.proofs.JoinLoops.{suffixing_begins, suffixing_room, suffixing_on, suffixing_stops, suffixing_ends}
use Rattle.ordering_joins.proofs.joining.suffix.Goals as goal

pub loop-i-init : goal.loop-i-init
loop-i-init c = suffixing_begins c.args.out c.args.g c.args.p c.requires.0.0 c.requires.0.1

pub offset_bounds-g-i : goal.offset_bounds-g-i
offset_bounds-g-i c = let b = count-few c.args.g c.requires.0.1 in search rules

pub bounds-g-i : goal.bounds-g-i
bounds-g-i c = let b = count-few c.args.g c.requires.0.1 in search rules

pub extend-requires : goal.extend-requires
extend-requires c =
    let l = c.loop-i in
    let a = held-short (place_in c.args.g l.i) (place-held c.args.g c.requires.0.1 l.i c.loop-i-test.true) in
    let b = held-short c.args.p c.requires.1.0 in
    (search rules, search rules)

pub returns-in_err-one : goal.returns-in_err-one
returns-in_err-one c =
    let l = c.loop-i in
    handed-on _ _ c.from_residual.ensures.1
    ∙ suffixing_stops c.args.out c.args.g c.args.p c.requires.0.0 c.requires.0.1 l.i l.list l.invariant c.loop-i-test.true _ (sym c.in_err-one.was ∙ c.extend.ensures)

pub append-list-requires : goal.append-list-requires
append-list-requires c =
    let l = c.loop-i in
    (l.invariant.short, suffixing_room c.args.out c.args.g c.args.p c.requires.0.0 c.requires.0.1 l.i l.list l.invariant c.loop-i-test.true c.requires.1.1)

pub loop-i-preserved : goal.loop-i-preserved
loop-i-preserved c =
    let l = c.loop-i in
    suffixing_on c.args.out c.args.g c.args.p c.requires.0.0 c.requires.0.1 l.i l.list l.invariant c.loop-i-test.true c.requires.1.1 c.in_ok-one.one (sym c.in_ok-one.was ∙ c.extend.ensures) c.append-list.result c.append-list.ensures

pub returns : goal.returns
returns c =
    let l = c.loop-i in
    suffixing_ends c.args.out c.args.g c.args.p c.requires.0.0 c.requires.0.1 l.i l.list l.invariant c.loop-i-test.false
