-- `lent_classes::lent::members_below` meets its contract.
use Prim.Native.Nat.{◌+◌, ◌<◌}
use mathlib.Core.Path.{◌≡◌, refl, sym, ◌∙◌}
use native.Mathlib.Omega.{arith}
use lib.ListN.{length}
use Rattle.lent_classes.specs.Lent.{size_lent, whole, below_at, members_below}
use Rattle.lent_classes.proofs.LentParts.{WholeAt, going_on, going-stops, going-ends, passes_on, whole-at}
use borrow.Author.Rules.{rules}
use Rattle.lent_classes.proofs.lent.members_below.Goals as goal

pub loop-at-init : goal.loop-at-init
unfolding whole
loop-at-init c = (search rules, (c.requires, refl))

pub below_at-requires : goal.below_at-requires
below_at-requires c =
    let l = c.loop-at in
    whole-at c.args.numbers.now l.at (search rules) l.invariant.1.0

pub returns-then-not-below_at : goal.returns-then-not-below_at
unfolding members_below
returns-then-not-below_at c =
    let x = c.args in
    let ns = x.numbers.now in
    let l = c.loop-at in
    going-stops (below_at x.m ns) ns l.at (search rules) l.invariant.1.1 (sym c.below_at.ensures ∙ c.if-not-below_at.true)

pub loop-at-preserved : goal.loop-at-preserved
loop-at-preserved c =
    let x = c.args in
    let ns = x.numbers.now in
    let l = c.loop-at in
    let e : l.at + (3 + c.size_at.result) ≡ l.at + 3 + size_lent ns l.at = omega (arith, c.size_at.ensures.0) in
    let t : l.at < length ns = search rules in (
      search rules,
      (
        passes_on (WholeAt ns) ns l.at (l.at + (3 + c.size_at.result)) t e l.invariant.1.0,
        going_on (below_at x.m ns) ns l.at (l.at + (3 + c.size_at.result)) t e l.invariant.1.1 (sym c.below_at.ensures ∙ c.if-not-below_at.false),
      ),
    )

pub returns : goal.returns
unfolding members_below
returns c =
    let x = c.args in
    let ns = x.numbers.now in
    let l = c.loop-at in
    going-ends (below_at x.m ns) ns l.at (search rules) l.invariant.1.1
