-- What the search for a class answered.
use Prim.Native.Nat.{ℕ, ◌<◌}
use Rattle.std.specs.Prelude.{Some}
use mathlib.Core.Path.{◌≡◌}
use native.Mathlib.Omega.{arith}
use Rattle.classes.specs.Group.{class_of}
use Rattle.classes.specs.Layout.{decode}
use Rattle.classes.specs.Inner.{Coded}
use Rattle.classes.specs.declared.Group.{Group}
use Rattle.classes.proofs.Places.{class_of-some}
use Rattle.classes.proofs.Codec.{length-decode}

-- the place is that of a class, and so one of 64
pub class-below : (g : Group) (e i : ℕ) → class_of (decode g) e ≡ Some i → i < g.count
class-below g e i q = omega (arith, (class_of-some (decode g) e i q).0, length-decode g)

pub place-small : (g : Group) (e i : ℕ) → Coded g → class_of (decode g) e ≡ Some i → i < 64
place-small g e i c q = omega (arith, class-below g e i q, c.few)
