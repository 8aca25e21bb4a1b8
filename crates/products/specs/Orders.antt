-- The orders of n places, in lexicographic order, and products of lists whose last part varies fastest.
use Rattle.std.specs.Prelude.{ℕ, zero, suc, ◌+◌, List, [], ◌∷◌, ◌++◌, map, ltb, if◌then◌else◌}

-- a place of n as a place of one more, where place i is passed over
unfoldable pub passing : ℕ → ℕ → ℕ
passing i j = if ltb j i then j else j + 1

-- the orders of one place more that begin with place i, for each i below k
unfoldable pub beginning : List (List ℕ) → ℕ → List (List ℕ)
beginning os zero = []
beginning os (suc i) = beginning os i ++ map (λ (o : List ℕ). i ∷ map (passing i) o) os

-- all orders of the places 0 to n - 1
unfoldable pub orders : ℕ → List (List ℕ)
orders zero = [] ∷ []
orders (suc n) = beginning (orders n) (suc n)

-- each x of the first list before each of the others
unfoldable pub before_each : {A : Type 0} → List A → List (List A) → List (List A)
before_each [] yss = []
before_each (x ∷ xs) yss = map (λ ys. x ∷ ys) yss ++ before_each xs yss

-- one of each list, in all ways; the last varies fastest
unfoldable pub product : {A : Type 0} → List (List A) → List (List A)
product [] = [] ∷ []
product (xs ∷ xss) = before_each xs (product xss)
