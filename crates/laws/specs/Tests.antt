-- Tests as Booleans: a choice, "for all numbers below n", "the first number below n that".
use Rattle.std.specs.Prelude.{ℕ, zero, suc, ◌+◌, Bool, true, ◌&&◌, if◌then◌else◌, Option, None, Some}

-- p holds for each number below n
unfoldable pub each : (ℕ → Bool) → ℕ → Bool
each p zero = true
each p (suc n) = each p n && p n

-- the first of the k numbers from i on for which p holds
unfoldable pub first_from : (ℕ → Bool) → ℕ → ℕ → Option ℕ
first_from p zero i = None
first_from p (suc k) i = if p i then Some i else first_from p k (i + 1)

-- the first number below n for which p holds
unfoldable pub first : (ℕ → Bool) → ℕ → Option ℕ
first p n = first_from p n 0
