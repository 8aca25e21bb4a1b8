-- How orderings lie in the output: 16-bit places, for each ordering its key count, then expression and options of each key.
use Rattle.std.specs.Prelude.{ℕ, List, [], ◌∷◌, ◌++◌, length}
use Rattle.orderings.specs.Ordering.{expr_of, options_of}

-- expression and options of each key
unfoldable pub numbers_of : List ℕ → List ℕ
numbers_of [] = []
numbers_of (k ∷ ks) = expr_of k ∷ options_of k ∷ numbers_of ks

-- an ordering: its key count, then its keys
unfoldable pub written : List ℕ → List ℕ
written o = length o ∷ numbers_of o

-- orderings, each directly after the one before it
unfoldable pub written_all : List (List ℕ) → List ℕ
written_all [] = []
written_all (o ∷ os) = written o ++ written_all os
