-- `session_steps::steps::children_of` meets its contract.
use Prim.Native.Nat.{ℕ, ◌<◌}
use mathlib.Core.Path.{◌≡◌, refl, ◌∙◌, subst}
use native.Mathlib.Omega.{arith}
use lib.ListN.{take, replicate, length-set}
use Rattle.records.specs.Fields.{fields}
use Rattle.session_steps.proofs.Bodies.{fields-none, fields-more}
use borrow.Author.Rules.{rules}
use Rattle.session_steps.proofs.steps.children_of.Goals as goal

pub loop-k-init : goal.loop-k-init
loop-k-init c =
    (refl, fields-none c.args.body.now (replicate {A = ℕ} 8 0))

pub loop-k-preserved : goal.loop-k-preserved
loop-k-preserved c =
    let l = c.loop-k in
    let k : l.k < c.args.n = search rules in
    (length-set l.children l.k c.from.result ∙ l.invariant.0, fields-more c.args.body.now l.children l.k c.from.result (omega (arith, k, l.invariant.0, c.requires.1)) l.invariant.1 (c.from.ensures ∙ c.field.ensures))

pub returns : goal.returns
returns c =
    let l = c.loop-k in
    let e : l.k ≡ c.args.n = search rules in
    (l.invariant.0, subst (λ (k : ℕ). take k l.children ≡ fields c.args.body.now 4 k) e l.invariant.1)
