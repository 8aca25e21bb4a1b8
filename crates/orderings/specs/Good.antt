-- Which lists of orderings are a state.
use Rattle.std.specs.Prelude.{ℕ, ◌<◌, ◌≤◌, List, ◌≡◌, length, get_or}
use Rattle.orderings.specs.Ordering.{expr_of}
use Rattle.orderings.specs.Lists.{ordering_at}

-- an ordering: at least one key, at most 16, no expression twice
pub record GoodOrdering (o : List ℕ) : Type 0 where
  pub filled : 0 < length o
  pub few : length o ≤ 16
  pub distinct : (i j : ℕ) → i < j → j < length o → expr_of (get_or o i 0) ≡ expr_of (get_or o j 0) → ⊥

-- a list of orderings: at most 32
pub record Good (os : List (List ℕ)) : Type 0 where
  pub few : length os ≤ 32
  pub each : (i : ℕ) → i < length os → GoodOrdering (ordering_at os i)
