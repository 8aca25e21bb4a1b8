-- `reduction::lent::orderings_lent` meets its contract.
use mathlib.Core.Path.{sym, ◌∙◌}
use borrow.Author.Rules.{rules}
use Rattle.reduction.specs.Lent.{orderings_lent}
use Rattle.reduction.proofs.LentLaws.{OrderingAt, going-begins, going_on, going-stops, going-ends}
use Rattle.reduction.proofs.lent.orderings_lent.Goals as goal

pub loop-at-init : goal.loop-at-init
loop-at-init c = (search rules, going-begins (OrderingAt c.args.numbers.now) c.args.numbers.now)

pub returns-then-not-ordering_at : goal.returns-then-not-ordering_at
unfolding orderings_lent
returns-then-not-ordering_at c =
    let ns = c.args.numbers.now in
    let l = c.loop-at in
    going-stops (OrderingAt ns) ns l.at (search rules) l.invariant.1 (sym c.ordering_at.ensures ∙ c.if-not-ordering_at.true)

pub loop-at-preserved : goal.loop-at-preserved
loop-at-preserved c =
    let ns = c.args.numbers.now in
    let l = c.loop-at in
    (search rules, going_on (OrderingAt ns) ns l.at c.number_at.result (search rules) c.number_at.ensures.0 l.invariant.1 (sym c.ordering_at.ensures ∙ c.if-not-ordering_at.false))

pub returns : goal.returns
unfolding orderings_lent
returns c =
    let ns = c.args.numbers.now in
    let l = c.loop-at in
    going-ends (OrderingAt ns) ns l.at (search rules) l.invariant.1
