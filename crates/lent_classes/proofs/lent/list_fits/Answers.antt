-- `lent_classes::lent::list_fits` meets its contract.
use Prim.Native.Nat.{◌+◌}
use mathlib.Core.Path.{◌≡◌}
use native.Mathlib.Omega.{arith}
use Rattle.lent_classes.specs.Lent.{size_lent}
use Rattle.lent_classes.proofs.ListCounts.{counted-begins, counted-on, counted-many, counted-full, counted-ends}
use borrow.Author.Rules.{rules}
use Rattle.lent_classes.proofs.lent.list_fits.Goals as goal
use Rattle.lent_classes.proofs.lent.list_fits.Goals.{then-count-ge64-via-then-count-ge64, then-count-ge64-via-else-count-ge64+then-used-size-gt256}

pub loop-at-init : goal.loop-at-init
loop-at-init c = (search rules, (search rules, (search rules, counted-begins c.args.numbers.now)))

pub returns-then-count-ge64 : goal.returns-then-count-ge64
returns-then-count-ge64 c =
    let l = c.loop-at in
    elim c.then-count-ge64.branch [
      | then-count-ge64-via-then-count-ge64 w ↦ counted-many c.args.numbers.now l.count l.used l.at l.invariant.1.1.1 (omega arith) (omega arith)
      | then-count-ge64-via-else-count-ge64+then-used-size-gt256 w ↦ counted-full c.args.numbers.now l.count l.used l.at l.invariant.1.1.1 (omega arith) (omega arith)
    ]

pub loop-at-preserved : goal.loop-at-preserved
loop-at-preserved c =
    let ns = c.args.numbers.now in
    let l = c.loop-at in
    let size = c.size_at-size.result in
    let e : size ≡ size_lent ns l.at = c.size_at-size.ensures.0 in
    let next : l.at + (3 + size) ≡ l.at + 3 + size_lent ns l.at = omega arith in (
      l.invariant.0,
      (
        omega arith,
        (search rules, counted-on ns l.count l.used l.at l.invariant.1.1.1 size (l.at + (3 + size)) (search rules) e next),
      ),
    )

pub returns : goal.returns
returns c =
    let l = c.loop-at in
    counted-ends c.args.numbers.now l.count l.used l.at l.invariant.1.1.1 (search rules) l.invariant.1.0 l.invariant.1.1.0
