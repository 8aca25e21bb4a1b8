-- `mappings::lent::targets_given` meets its contract.
use Prim.Native.Nat.{◌+◌}
use mathlib.Core.Bool.{not}
use mathlib.Core.Path.{refl, sym, ap, ◌∙◌}
use lib.ListN.{length}
use Rattle.mappings.specs.Lent.{next_source, next-after, empty_at, targets_given}
use Rattle.mappings.proofs.Walks.{going_on, going-stops, going-ends}
use Rattle.mappings.proofs.LentSources.{next_place}
use borrow.Author.Rules.{rules}
use Rattle.mappings.proofs.lent.targets_given.Goals as goal

pub loop-at-init : goal.loop-at-init
loop-at-init c =
    (search rules, refl)

pub returns-then-empty_at : goal.returns-then-empty_at
unfolding targets_given
returns-then-empty_at c =
    let ns = c.args.numbers.now in
    let l = c.loop-at in
    going-stops (λ at. not (empty_at ns at)) (next_source ns) (length ns) (next-after ns) l.at (search rules) l.invariant.1 (ap not (sym c.empty_at.ensures ∙ c.if-empty_at.true))

pub loop-at-preserved : goal.loop-at-preserved
loop-at-preserved c =
    let ns = c.args.numbers.now in
    let l = c.loop-at in (
      search rules,
      going_on (λ at. not (empty_at ns at)) (next_source ns) (length ns) (next-after ns) l.at (l.at + (2 + c.count_at.result)) (search rules)
          (next_place ns l.at c.count_at.result c.count_at.ensures.0) l.invariant.1 (ap not (sym c.empty_at.ensures ∙ c.if-empty_at.false)),
    )

pub returns : goal.returns
unfolding targets_given
returns c =
    let ns = c.args.numbers.now in
    let l = c.loop-at in
    going-ends (λ at. not (empty_at ns at)) (next_source ns) (length ns) (next-after ns) l.at (search rules) l.invariant.1
