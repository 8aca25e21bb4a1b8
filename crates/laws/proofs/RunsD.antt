-- A list by its first places, as a slice of them gives it.
use Rattle.std.proofs.Common.{◌≡◌, ℕ, ◌≤◌, List, take, length, get_or}
use Rattle.std.proofs.lemmas.List.{length-take-le, get_or-take}
use Rattle.laws.specs.Lists.{table}
use Rattle.laws.proofs.Table.{table_is}

-- the first n elements
pub take-table : (xs : List ℕ) (n : ℕ) → n ≤ length xs → take n xs ≡ table (λ k. get_or xs k 0) n
take-table xs n l = table_is (λ k. get_or xs k 0) n (take n xs) 0 (length-take-le n xs l) (λ i b. get_or-take n xs i 0 b)
