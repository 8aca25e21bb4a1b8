-- Pairs lent as numbers: left and right of each, one after the other.
use Rattle.std.specs.Prelude.{ℕ, ◌+◌, ◌*◌, ◌/◌, ◌%◌, Bool, List, eqb, ltb, length, get_or}
use Rattle.laws.specs.Tests.{each}
use Rattle.laws.specs.Lists.{table}

-- each left side has its right side (else 11)
unfoldable pub paired : List ℕ → Bool
paired numbers = eqb (length numbers % 2) 0

-- every side is among the first n (else 1)
unfoldable pub sides_below : ℕ → List ℕ → Bool
sides_below n numbers = each (λ k. ltb (get_or numbers k 0) n) (length numbers)

-- the pairs that are lent
unfoldable pub pairs_lent : List ℕ → List (ℕ × ℕ)
pairs_lent numbers = table (λ k. (get_or numbers (2 * k) 0, get_or numbers (2 * k + 1) 0)) (length numbers / 2)
