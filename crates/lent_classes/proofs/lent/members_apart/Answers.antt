-- `lent_classes::lent::members_apart` meets its contract.
use Prim.Native.Nat.{◌+◌, ◌<◌}
use mathlib.Core.Path.{◌≡◌, refl, sym, ◌∙◌}
use native.Mathlib.Omega.{arith}
use lib.ListN.{length}
use Rattle.lent_classes.specs.Lent.{size_lent, whole, apart_at, members_apart}
use Rattle.lent_classes.proofs.LentParts.{WholeAt, going_on, going-stops, going-ends, passes_on, whole-at}
use borrow.Author.Rules.{rules}
use Rattle.lent_classes.proofs.lent.members_apart.Goals as goal

pub loop-at-init : goal.loop-at-init
unfolding whole
loop-at-init c = (search rules, (c.requires, refl))

pub apart_at-requires : goal.apart_at-requires
apart_at-requires c =
    let l = c.loop-at in
    whole-at c.args.numbers.now l.at (search rules) l.invariant.1.0

pub returns-then-not-apart_at : goal.returns-then-not-apart_at
unfolding members_apart
returns-then-not-apart_at c =
    let x = c.args in
    let ns = x.numbers.now in
    let l = c.loop-at in
    going-stops (apart_at ns) ns l.at (search rules) l.invariant.1.1 (sym c.apart_at.ensures ∙ c.if-not-apart_at.true)

pub loop-at-preserved : goal.loop-at-preserved
loop-at-preserved c =
    let x = c.args in
    let ns = x.numbers.now in
    let l = c.loop-at in
    let e : l.at + (3 + c.size_at.result) ≡ l.at + 3 + size_lent ns l.at = omega (arith, c.size_at.ensures.0) in
    let t : l.at < length ns = search rules in (
      search rules,
      (
        passes_on (WholeAt ns) ns l.at (l.at + (3 + c.size_at.result)) t e l.invariant.1.0,
        going_on (apart_at ns) ns l.at (l.at + (3 + c.size_at.result)) t e l.invariant.1.1 (sym c.apart_at.ensures ∙ c.if-not-apart_at.false),
      ),
    )

pub returns : goal.returns
unfolding members_apart
returns c =
    let x = c.args in
    let ns = x.numbers.now in
    let l = c.loop-at in
    going-ends (apart_at ns) ns l.at (search rules) l.invariant.1.1
