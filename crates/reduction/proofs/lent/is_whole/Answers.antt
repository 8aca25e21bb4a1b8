-- `reduction::lent::is_whole` meets its contract.
use native.Mathlib.Omega.{arith}
use borrow.Author.Rules.{rules}
use borrow.Author.Tests.{le-leb, lt-leb}
use lib.ListN.{length}
use Rattle.reduction.specs.Lent.{next_list, whole}
use Rattle.reduction.proofs.LentLaws.{WholeAt, going-begins, going_on, going-stops, going-ends}
use Rattle.reduction.proofs.lent.is_whole.Goals as goal

pub loop-at-init : goal.loop-at-init
loop-at-init c = (search rules, going-begins (WholeAt c.args.numbers.now) c.args.numbers.now)

pub returns-then-n-at : goal.returns-then-n-at
unfolding whole next_list
returns-then-n-at c =
    let ns = c.args.numbers.now in
    let l = c.loop-at in
    going-stops (WholeAt ns) ns l.at (search rules) l.invariant.1 (lt-leb (next_list ns l.at) (length ns) (omega (arith, c.number_at.ensures.0, c.if-n-at.true, l.invariant.0)))

pub loop-at-preserved : goal.loop-at-preserved
unfolding next_list
loop-at-preserved c =
    let ns = c.args.numbers.now in
    let l = c.loop-at in (
      search rules,
      going_on (WholeAt ns) ns l.at c.number_at.result (search rules) c.number_at.ensures.0 l.invariant.1
          (le-leb (next_list ns l.at) (length ns) (omega (arith, c.number_at.ensures.0, c.if-n-at.false, l.invariant.0))),
    )

pub returns : goal.returns
unfolding whole
returns c =
    let ns = c.args.numbers.now in
    let l = c.loop-at in
    going-ends (WholeAt ns) ns l.at (search rules) l.invariant.1
