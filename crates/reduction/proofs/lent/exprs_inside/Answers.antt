-- `reduction::lent::exprs_inside` meets its contract.
use mathlib.Core.Path.{sym, ◌∙◌}
use borrow.Author.Rules.{rules}
use Rattle.reduction.specs.Lent.{exprs_inside}
use Rattle.reduction.proofs.LentLaws.{ExprsAt, going-begins, going_on, going-stops, going-ends}
use Rattle.reduction.proofs.lent.exprs_inside.Goals as goal

pub loop-at-init : goal.loop-at-init
loop-at-init c = (search rules, going-begins (ExprsAt c.args.n c.args.numbers.now) c.args.numbers.now)

pub returns-then-not-exprs_at : goal.returns-then-not-exprs_at
unfolding exprs_inside
returns-then-not-exprs_at c =
    let x = c.args in
    let ns = x.numbers.now in
    let l = c.loop-at in
    going-stops (ExprsAt x.n ns) ns l.at (search rules) l.invariant.1 (sym c.exprs_at.ensures ∙ c.if-not-exprs_at.true)

pub loop-at-preserved : goal.loop-at-preserved
loop-at-preserved c =
    let x = c.args in
    let ns = x.numbers.now in
    let l = c.loop-at in
    (search rules, going_on (ExprsAt x.n ns) ns l.at c.number_at.result (search rules) c.number_at.ensures.0 l.invariant.1 (sym c.exprs_at.ensures ∙ c.if-not-exprs_at.false))

pub returns : goal.returns
unfolding exprs_inside
returns c =
    let x = c.args in
    let ns = x.numbers.now in
    let l = c.loop-at in
    going-ends (ExprsAt x.n ns) ns l.at (search rules) l.invariant.1
