-- `lent_classes::lent::literals_uniform` meets its contract.
use Prim.Native.Nat.{◌+◌, ◌<◌}
use mathlib.Core.Path.{◌≡◌, refl, sym, ◌∙◌}
use native.Mathlib.Omega.{arith}
use lib.ListN.{length}
use Rattle.arena.specs.Layout.{decode as nodes}
use Rattle.lent_classes.specs.Lent.{size_lent, whole, uniform_lent, literals_uniform}
use Rattle.lent_classes.proofs.LentParts.{WholeAt, going_on, going-stops, going-ends, passes_on, whole-at}
use borrow.Author.Rules.{rules}
use Rattle.lent_classes.proofs.lent.literals_uniform.Goals as goal

pub loop-at-init : goal.loop-at-init
unfolding whole
loop-at-init c = (search rules, (c.requires.1, refl))

pub uniform_at-requires : goal.uniform_at-requires
uniform_at-requires c =
    let l = c.loop-at in
    (c.requires.0, whole-at c.args.numbers.now l.at (search rules) l.invariant.1.0)

pub returns-then-not-uniform_at : goal.returns-then-not-uniform_at
unfolding literals_uniform
returns-then-not-uniform_at c =
    let x = c.args in
    let ns = x.numbers.now in
    let l = c.loop-at in
    going-stops (uniform_lent (nodes x.cells.now) ns) ns l.at (search rules) l.invariant.1.1 (sym c.uniform_at.ensures ∙ c.if-not-uniform_at.true)

pub loop-at-preserved : goal.loop-at-preserved
loop-at-preserved c =
    let x = c.args in
    let ns = x.numbers.now in
    let l = c.loop-at in
    let e : l.at + (3 + c.size_at.result) ≡ l.at + 3 + size_lent ns l.at = omega (arith, c.size_at.ensures.0) in
    let t : l.at < length ns = search rules in (
      search rules,
      (
        passes_on (WholeAt ns) ns l.at (l.at + (3 + c.size_at.result)) t e l.invariant.1.0,
        going_on (uniform_lent (nodes x.cells.now) ns) ns l.at (l.at + (3 + c.size_at.result)) t e l.invariant.1.1 (sym c.uniform_at.ensures ∙ c.if-not-uniform_at.false),
      ),
    )

pub returns : goal.returns
unfolding literals_uniform
returns c =
    let x = c.args in
    let ns = x.numbers.now in
    let l = c.loop-at in
    going-ends (uniform_lent (nodes x.cells.now) ns) ns l.at (search rules) l.invariant.1.1
