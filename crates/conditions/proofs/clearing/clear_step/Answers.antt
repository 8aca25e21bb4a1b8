-- `conditions::clearing::clear_step` meets its contract.
use native.Mathlib.Omega.{arith}
use Rattle.conditions.proofs.ClearLaws.{step_kept, step_gone, step-dropped}
use Rattle.conditions.proofs.clearing.clear_step.Goals as goal

pub returns-then-g-i-ne1 : goal.returns-then-g-i-ne1
returns-then-g-i-ne1 c =
    step_kept c.args.g c.requires.0 c.args.i c.requires.1 c.args.changed c.if-g-i-ne1.true

pub remove_class_at_idx-requires : goal.remove_class_at_idx-requires
remove_class_at_idx-requires c = c.requires

pub returns-then-g-i-eq1 : goal.returns-then-g-i-eq1
returns-then-g-i-eq1 c =
    step_gone c.args.g c.requires.0 c.args.i c.requires.1 c.args.changed c.if-g-i-ne1.false (omega (arith, c.if-g-i-eq1.true)) c.remove_class_at_idx.result c.remove_class_at_idx.ensures

pub returns : goal.returns
returns c =
    step-dropped c.args.g c.requires.0 c.args.i c.requires.1 c.args.changed c.if-g-i-ne1.false c.if-g-i-eq1.false
