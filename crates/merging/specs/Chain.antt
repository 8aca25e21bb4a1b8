-- A chain of overlapping classes of a list.
use Rattle.std.specs.Prelude.{ℕ, List}
use Rattle.classes.specs.Class.{Class}
use Rattle.classes.specs.Group.{Together}

-- a chain of classes of a list, each with an expression in common with the next, leads from one expression to another
pub data Linked (cs : List Class) : ℕ → ℕ → Type 0 where
  one : {x y : ℕ} → Together cs x y → Linked cs x y
  on : {x y z : ℕ} → Together cs x y → Linked cs y z → Linked cs x z
