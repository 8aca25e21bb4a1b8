-- What the inner functions ask and promise each other. The public contract cites nothing of this file.
use Rattle.std.specs.Prelude.{ℕ, ◌+◌, ◌<◌, ◌≤◌, List, length}
use Rattle.lent_classes.specs.Lent.{size_lent}

-- the class at a place of a lent list is whole
pub record At (numbers : List ℕ) (at : ℕ) : Type 0 where
  pub begins : at < length numbers
  pub ends : at + 3 + size_lent numbers at ≤ length numbers
