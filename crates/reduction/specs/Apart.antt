-- What reduction achieves.
use Rattle.std.specs.Prelude.{ℕ, ◌<◌, Bool, List, ◌≡◌, length, None}
use Rattle.orderings.specs.Lists.{ordering_at}
use Rattle.reduction.specs.Reduction.{overlap}

-- no nonempty suffix of one is a prefix of another
abbrev pub Apart : (ℕ → ℕ → Bool) → List (List ℕ) → Type 0
Apart m os = (i j : ℕ) → i < length os → j < length os → (i ≡ j → ⊥) → overlap m (ordering_at os i) (ordering_at os j) ≡ None
