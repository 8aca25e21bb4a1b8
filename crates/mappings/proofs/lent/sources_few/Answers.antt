-- `mappings::lent::sources_few` meets its contract.
use Prim.Native.Nat.{◌+◌}
use native.Mathlib.Omega.{arith}
use Rattle.mappings.proofs.LentSources.{next_place, counted-begins, counted-on, counted-many, counted-ends}
use borrow.Author.Rules.{rules}
use Rattle.mappings.proofs.lent.sources_few.Goals as goal

pub loop-at-init : goal.loop-at-init
loop-at-init c =
    (search rules, (search rules, counted-begins c.args.numbers.now))

pub returns-then-count-ge64 : goal.returns-then-count-ge64
returns-then-count-ge64 c =
    let l = c.loop-at in
    counted-many c.args.numbers.now l.count l.at l.invariant.1.1 (search rules) (omega (arith, c.if-count-ge64.true))

pub loop-at-preserved : goal.loop-at-preserved
loop-at-preserved c =
    let ns = c.args.numbers.now in
    let l = c.loop-at in (
      l.invariant.0,
      (
        search rules,
        counted-on ns l.count l.at l.invariant.1.1 (l.at + (2 + c.count_at.result)) (search rules) (next_place ns l.at c.count_at.result c.count_at.ensures.0),
      ),
    )

pub returns : goal.returns
returns c =
    let l = c.loop-at in
    counted-ends c.args.numbers.now l.count l.at l.invariant.1.1 (search rules) l.invariant.1.0
