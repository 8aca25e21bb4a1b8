-- `mappings::lent::is_whole` meets its contract.
use Prim.Native.Nat.{◌+◌}
use mathlib.Core.Path.{refl, sym, ◌∙◌}
use lib.ListN.{length}
use Rattle.mappings.specs.Lent.{next_source, next-after, whole_at, whole}
use Rattle.mappings.proofs.Walks.{going_on, going-stops, going-ends}
use Rattle.mappings.proofs.LentSources.{next_place}
use borrow.Author.Rules.{rules}
use Rattle.mappings.proofs.lent.is_whole.Goals as goal

pub loop-at-init : goal.loop-at-init
loop-at-init c =
    (search rules, refl)

pub returns-then-not-whole_at : goal.returns-then-not-whole_at
unfolding whole
returns-then-not-whole_at c =
    let ns = c.args.numbers.now in
    let l = c.loop-at in
    going-stops (whole_at ns) (next_source ns) (length ns) (next-after ns) l.at (search rules) l.invariant.1 (sym c.whole_at.ensures ∙ c.if-not-whole_at.true)

pub loop-at-preserved : goal.loop-at-preserved
loop-at-preserved c =
    let ns = c.args.numbers.now in
    let l = c.loop-at in (
      search rules,
      going_on (whole_at ns) (next_source ns) (length ns) (next-after ns) l.at (l.at + (2 + c.count_at.result)) (search rules)
          (next_place ns l.at c.count_at.result c.count_at.ensures.0) l.invariant.1 (sym c.whole_at.ensures ∙ c.if-not-whole_at.false),
    )

pub returns : goal.returns
unfolding whole
returns c =
    let ns = c.args.numbers.now in
    let l = c.loop-at in
    going-ends (whole_at ns) (next_source ns) (length ns) (next-after ns) l.at (search rules) l.invariant.1
