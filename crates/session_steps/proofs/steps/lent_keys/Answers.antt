-- `session_steps::steps::lent_keys` meets its contract.
use Prim.Native.Nat.{ℕ, ◌<◌}
use mathlib.Core.Path.{refl}
use native.Mathlib.Omega.{arith}
use lib.ListN.{replicate}
use Rattle.session_steps.proofs.Bodies.{copied_none, copied_more, copied_all}
use borrow.Author.Rules.{rules}
use Rattle.session_steps.proofs.steps.lent_keys.Goals as goal

pub loop-k-init : goal.loop-k-init
loop-k-init c =
    copied_none c.args.body.now c.args.n (replicate {A = ℕ} 33 0) refl

pub bounds-numbers-k : goal.bounds-numbers-k
bounds-numbers-k c = omega (arith, c.loop-k.invariant.sized, c.requires.1, c.loop-k-test)

pub bounds-numbers-k-in-loop-k : goal.bounds-numbers-k-in-loop-k
bounds-numbers-k-in-loop-k c = omega (arith, c.loop-k.invariant.sized, c.requires.1, c.loop-k-test)

pub loop-k-preserved : goal.loop-k-preserved
loop-k-preserved c =
    let l = c.loop-k in
    let k : l.k < c.args.n = search rules in
    copied_more c.args.body.now c.args.n l.numbers l.k c.field.result c.field-in-loop-k.result (omega (arith, k, c.requires.1)) l.invariant c.field.ensures c.field-in-loop-k.ensures

pub returns : goal.returns
returns c =
    let l = c.loop-k in
    (l.invariant.sized, copied_all c.args.body.now c.args.n l.numbers c.requires.0 c.requires.1 l.k (search rules) (search rules) l.invariant)
