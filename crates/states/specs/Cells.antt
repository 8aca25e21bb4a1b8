-- Parts of a list of cells, and an answer as numbers.
use Rattle.std.specs.Prelude.{ℕ, zero, suc, ◌+◌, List, [], ◌++◌, get_or, Result, Ok, Err}
use Rattle.arena.specs.declared.Refusal.{Refusal}
use Rattle.arena.specs.Refusals.{refusal_number}
use Rattle.laws.specs.Lists.{table}

-- n cells from one on
unfoldable pub part : List ℕ → ℕ → ℕ → List ℕ
part cells at n = table (λ k. get_or cells (at + k) 0) n

-- f 0, f 1, .., n in number, one directly after the other
unfoldable pub in_row : (ℕ → List ℕ) → ℕ → List ℕ
in_row f zero = []
in_row f (suc n) = in_row f n ++ f n

-- an answer as a caller in numbers has it: 0 and the numbers that it says, or the number of the refusal and the places as they were
unfoldable pub told : {A : Type 0} → (A → List ℕ) → List ℕ → Result A Refusal → ℕ × List ℕ
told numbers old (Ok a) = (0, numbers a)
told numbers old (Err e) = (refusal_number e, old)
