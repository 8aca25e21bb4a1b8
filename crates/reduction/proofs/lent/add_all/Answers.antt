-- `reduction::lent::add_all` meets its contract.
use borrow.Author.Rules.{rules}
use Rattle.std.proofs.Common.{sym, ◌∙◌}
use Rattle.arena.proofs.Refusals.{handed-on}
use Rattle.orderings.specs.Ordering.{built}
use Rattle.reduction.specs.Lent.{keys_lent}
use Rattle.reduction.proofs.Adding.{added, adding-begins, adding-keys, adding-on, adding-stops, adding-long, adding-ends}
use Rattle.reduction.proofs.lent.add_all.Goals as goal

pub loop-at-init : goal.loop-at-init
loop-at-init c =
    (search rules, adding-begins c.args.g c.args.numbers.now c.requires.0 c.requires.1)

pub build-requires : goal.build-requires
build-requires c =
    let l = c.loop-at in
    adding-keys c.args.g c.args.numbers.now l.at l.list l.invariant.1 (search rules)

pub returns-in_err-one : goal.returns-in_err-one
returns-in_err-one c =
    let l = c.loop-at in
    handed-on _ _ c.from_residual.ensures.1
    ∙ adding-long c.args.g c.args.numbers.now l.at l.list l.invariant.1 (search rules) _ (sym c.in_err-one.was ∙ c.build.ensures)

pub add_one-requires : goal.add_one-requires
add_one-requires c = c.loop-at.invariant.1.short

pub returns-in_err-list : goal.returns-in_err-list
returns-in_err-list c =
    let l = c.loop-at in
    let w = added l.list (built (keys_lent c.args.numbers.now l.at)) l.invariant.1.short c.in_ok-one.one (sym c.in_ok-one.was ∙ c.build.ensures) _ (sym c.in_err-list.was ∙ c.add_one.ensures) in
    handed-on _ _ c.from_residual-in_err-list.ensures.1
    ∙ adding-stops c.args.g c.args.numbers.now l.at l.list l.invariant.1 (search rules) _ w

pub loop-at-preserved : goal.loop-at-preserved
loop-at-preserved c =
    let l = c.loop-at in
    let w = added l.list (built (keys_lent c.args.numbers.now l.at)) l.invariant.1.short c.in_ok-one.one (sym c.in_ok-one.was ∙ c.build.ensures) _ (sym c.in_ok-list.was ∙ c.add_one.ensures) in
    (l.invariant.0, adding-on c.args.g c.args.numbers.now l.at l.list l.invariant.1 (search rules) c.number_at.result c.number_at.ensures.0 c.in_ok-list.list w)

pub returns : goal.returns
returns c =
    let l = c.loop-at in
    adding-ends c.args.g c.args.numbers.now l.at l.list l.invariant.1 (search rules)
