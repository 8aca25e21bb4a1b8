-- `lent_classes::lent::is_whole` meets its contract.
use Prim.Native.Nat.{◌+◌}
use mathlib.Core.Path.{◌≡◌, refl}
use native.Mathlib.Omega.{arith}
use borrow.Author.Tests.{le-leb, lt-leb}
use lib.ListN.{length}
use Rattle.lent_classes.specs.Lent.{size_lent, next_class, whole}
use Rattle.lent_classes.proofs.LentParts.{WholeAt, going_on, going-stops, going-ends}
use borrow.Author.Rules.{rules}
use Rattle.lent_classes.proofs.lent.is_whole.Goals as goal

pub loop-at-init : goal.loop-at-init
loop-at-init c = (search rules, refl)

pub returns-then-n-at : goal.returns-then-n-at
unfolding whole next_class
returns-then-n-at c =
    let ns = c.args.numbers.now in
    let l = c.loop-at in
    let e : l.at + (3 + c.size_at.result) ≡ l.at + 3 + size_lent ns l.at = omega (arith, c.size_at.ensures.0) in
    going-stops (WholeAt ns) ns l.at (search rules) l.invariant.1
    (lt-leb (l.at + 3 + size_lent ns l.at) (length ns) (omega (arith, e, c.if-n-at.true, l.invariant.0)))

pub loop-at-preserved : goal.loop-at-preserved
unfolding next_class
loop-at-preserved c =
    let ns = c.args.numbers.now in
    let l = c.loop-at in
    let e : l.at + (3 + c.size_at.result) ≡ l.at + 3 + size_lent ns l.at = omega (arith, c.size_at.ensures.0) in (
      search rules,
      going_on (WholeAt ns) ns l.at (l.at + (3 + c.size_at.result)) (search rules) e l.invariant.1
          (le-leb (l.at + 3 + size_lent ns l.at) (length ns) (omega (arith, e, c.if-n-at.false, l.invariant.0))),
    )

pub returns : goal.returns
unfolding whole
returns c =
    let l = c.loop-at in
    let ns = c.args.numbers.now in
    going-ends (WholeAt ns) ns l.at (search rules) l.invariant.1
