-- `reduction::lent::options_known` meets its contract.
use mathlib.Core.Path.{sym, ◌∙◌}
use borrow.Author.Rules.{rules}
use Rattle.reduction.specs.Lent.{options_known}
use Rattle.reduction.proofs.LentLaws.{OptionsAt, going-begins, going_on, going-stops, going-ends}
use Rattle.reduction.proofs.lent.options_known.Goals as goal

pub loop-at-init : goal.loop-at-init
loop-at-init c = (search rules, going-begins (OptionsAt c.args.numbers.now) c.args.numbers.now)

pub returns-then-not-options_at : goal.returns-then-not-options_at
unfolding options_known
returns-then-not-options_at c =
    let ns = c.args.numbers.now in
    let l = c.loop-at in
    going-stops (OptionsAt ns) ns l.at (search rules) l.invariant.1 (sym c.options_at.ensures ∙ c.if-not-options_at.true)

pub loop-at-preserved : goal.loop-at-preserved
loop-at-preserved c =
    let ns = c.args.numbers.now in
    let l = c.loop-at in
    (search rules, going_on (OptionsAt ns) ns l.at c.number_at.result (search rules) c.number_at.ensures.0 l.invariant.1 (sym c.options_at.ensures ∙ c.if-not-options_at.false))

pub returns : goal.returns
unfolding options_known
returns c =
    let ns = c.args.numbers.now in
    let l = c.loop-at in
    going-ends (OptionsAt ns) ns l.at (search rules) l.invariant.1
