-- `questions::questions::class_marks` meets its contract.
use Prim.Native.Nat.{ℕ, ◌<◌}
use mathlib.Core.Path.{ap, ◌∙◌}
use native.Mathlib.Omega.{arith}
use lib.ListN.{length, length-set, length-replicate}
use Rattle.classes.specs.Layout.{flavour_of, decode}
use Rattle.questions.proofs.Constancy.{marked_more}
use Rattle.questions.proofs.questions.class_marks.Goals as goal

pub loop-e-init : goal.loop-e-init
loop-e-init c =
    (length-replicate {A = ℕ} 1024 0, λ j l. absurd (omega arith))

pub loop-e-preserved : goal.loop-e-preserved
loop-e-preserved c =
    let r : c.loop-e.e < length c.loop-e.marks = omega (arith, c.loop-e.invariant.0, c.requires.1) in
    (length-set c.loop-e.marks c.loop-e.e c.flavour.result ∙ c.loop-e.invariant.0, marked_more (decode c.args.g) c.loop-e.marks c.loop-e.e c.flavour.result r c.loop-e.invariant.1 (c.flavour.ensures ∙ ap flavour_of (rw c.narrow.ensures at c.class_mark.ensures)))

pub returns : goal.returns
returns c =
    λ j l. c.loop-e.invariant.1 j (omega arith)
