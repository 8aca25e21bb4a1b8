-- `questions::questions::class_places` meets its contract.
use Prim.Native.Nat.{ℕ, ◌<◌}
use mathlib.Core.Path.{◌∙◌}
use native.Mathlib.Omega.{arith}
use lib.ListN.{length, length-set, length-replicate}
use Rattle.classes.specs.Layout.{decode}
use Rattle.questions.proofs.PlaceNumbers.{placed-more}
use Rattle.questions.proofs.questions.class_places.Goals as goal

pub loop-e-init : goal.loop-e-init
loop-e-init c =
    (length-replicate {A = ℕ} 1024 0, λ j l. absurd (omega arith))

pub loop-e-preserved : goal.loop-e-preserved
loop-e-preserved c =
    let r : c.loop-e.e < length c.loop-e.places = omega (arith, c.loop-e.invariant.0, c.requires.1) in
    (length-set c.loop-e.places c.loop-e.e c.place_number.result ∙ c.loop-e.invariant.0, placed-more (decode c.args.g) c.loop-e.places c.loop-e.e c.place_number.result r c.loop-e.invariant.1 (rw c.narrow.ensures at c.place_number.ensures))

pub returns : goal.returns
returns c =
    λ j l. c.loop-e.invariant.1 j (omega arith)
