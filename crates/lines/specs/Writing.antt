-- Text that is written into a list of bytes at a place.
use Rattle.std.specs.Prelude.{ℕ, ◌+◌, ◌≤◌, List, ◌++◌, ◌≡◌, length, take, drop}

-- text was put into a list at a place: what stands there now, and the place after it
pub record Put (old : List ℕ) (at : ℕ) (text new : List ℕ) (next : ℕ) : Type 0 where
  pub is : new ≡ take at old ++ (text ++ drop (at + length text) old)
  pub past : next ≡ at + length text

-- there is room for it
abbrev pub RoomFor : List ℕ → ℕ → List ℕ → Type 0
RoomFor old at text = at + length text ≤ length old
