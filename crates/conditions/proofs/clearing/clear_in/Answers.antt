-- `conditions::clearing::clear_in` meets its contract.
use mathlib.Core.Path.{refl, ◌∙◌}
use native.Mathlib.Omega.{arith}
use Rattle.conditions.proofs.ClearLaws.{clear-begins, clear-ends}
use Rattle.conditions.proofs.clearing.clear_in.Goals as goal

pub loop-i-init : goal.loop-i-init
loop-i-init c = (((c.requires, refl), omega arith), clear-begins c.args.given)

pub clear_step-step-requires : goal.clear_step-step-requires
clear_step-step-requires c = (c.loop-i.invariant.0.0.0, c.loop-i-test.true)

pub loop-i-smaller : goal.loop-i-smaller
loop-i-smaller c = c.clear_step-step.ensures.0.1.1

pub loop-i-preserved : goal.loop-i-preserved
loop-i-preserved c =
    let e = c.clear_step-step.ensures in
    let v = c.loop-i.invariant in
    (((e.0.0.0, e.0.0.1 ∙ v.0.0.1), e.0.1.0), v.1 ∙ e.1)

pub returns : goal.returns
returns c =
    let v = c.loop-i.invariant in
    clear-ends c.args.given c.loop-i.g c.loop-i.i c.loop-i.any v.0.0.0 v.0.0.1 c.loop-i-test.false v.1
