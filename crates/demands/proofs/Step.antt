-- What one accepted equal condition does to who is with whom.
use Prim.Native.Nat.{ℕ}
use mathlib.Core.Bool.{true}
use mathlib.Core.List.{List}
use mathlib.Core.Logic.{◌⊎◌}
use mathlib.Core.Path.{◌≡◌}
use Rattle.classes.specs.Class.{Class}
use Rattle.classes.specs.Group.{same_class}

-- the same expression, or one of its class
abbrev pub With : List Class → ℕ → ℕ → Type 0
With cs x y = (x ≡ y) ⊎ (same_class cs x y ≡ true)

-- from cs to ds the pair a, b was put together: who was together stays so, a and b are together, and whoever else is together now is so through a and b
pub record Step (cs : List Class) (a b : ℕ) (ds : List Class) : Type 0 where
  pub stays : (x y : ℕ) → same_class cs x y ≡ true → same_class ds x y ≡ true
  pub joins : (a ≡ b → ⊥) → same_class ds a b ≡ true
  pub only : (x y : ℕ) → same_class ds x y ≡ true → With cs x y ⊎ ((With cs x a × With cs b y) ⊎ (With cs x b × With cs a y))
