-- `lent_classes::lent::flavours_known` meets its contract.
use Prim.Native.Nat.{◌+◌}
use mathlib.Core.Bool.{true, false}
use mathlib.Core.Path.{◌≡◌, refl, sym, ◌∙◌}
use native.Mathlib.Omega.{arith}
use Rattle.lent_classes.specs.Lent.{known_at, flavours_known}
use Rattle.lent_classes.proofs.LentParts.{going_on, going-stops, going-ends}
use borrow.Author.Rules.{rules}
use Rattle.lent_classes.proofs.lent.flavours_known.Goals as goal

pub loop-at-init : goal.loop-at-init
loop-at-init c = (search rules, refl)

pub returns-then-not-known_flavour : goal.returns-then-not-known_flavour
unfolding flavours_known known_at
returns-then-not-known_flavour c =
    let ns = c.args.numbers.now in
    let l = c.loop-at in
    let k : known_at ns l.at ≡ false = rw (← c.number_at.ensures, ← c.number_at-in-loop-at.ensures) (sym c.known_flavour.ensures ∙ c.if-not-known_flavour.true) in
    going-stops (known_at ns) ns l.at (search rules) l.invariant.1 k

pub loop-at-preserved : goal.loop-at-preserved
unfolding known_at
loop-at-preserved c =
    let ns = c.args.numbers.now in
    let l = c.loop-at in
    let k : known_at ns l.at ≡ true = rw (← c.number_at.ensures, ← c.number_at-in-loop-at.ensures) (sym c.known_flavour.ensures ∙ c.if-not-known_flavour.false) in
    (search rules, going_on (known_at ns) ns l.at (l.at + (3 + c.size_at.result)) (search rules) (omega (arith, c.size_at.ensures.0)) l.invariant.1 k)

pub returns : goal.returns
unfolding flavours_known
returns c =
    let ns = c.args.numbers.now in
    let l = c.loop-at in
    going-ends (known_at ns) ns l.at (search rules) l.invariant.1
