-- Comparing two orderings, as `remove_redundant_entries` does it, over any match m of two keys: a suffix of one that is a prefix of the other is cut off; an ordering cut to nothing is replaced by the last. Cuts are counted.
use Rattle.std.specs.Prelude.{ℕ, ◌+◌, ◌-◌, min, Bool, List, [], ◌∷◌, eqb, length, get_or, take, set, if◌then◌else◌, Option, None, Some}
use Rattle.laws.specs.Tests.{each, first}
use Rattle.orderings.specs.Lists.{ordering_at}

-- the last n keys of a are the first n keys of b
unfoldable pub meets : (ℕ → ℕ → Bool) → List ℕ → List ℕ → ℕ → Bool
meets m a b n = each (λ k. m (get_or a (length a - n + k) 0) (get_or b k 0)) n

-- the least number of keys, less one, that end a and begin b; no ordering ends with nothing here
unfoldable pub overlap : (ℕ → ℕ → Bool) → List ℕ → List ℕ → Option ℕ
overlap m a b = first (λ n. meets m a b (n + 1)) (min (length a) (length b))

-- where an ordering goes, the last moves into its gap
unfoldable pub removed : List (List ℕ) → ℕ → List (List ℕ)
removed os i = set (take (length os - 1) os) i (ordering_at os (length os - 1))

-- what became of an ordering that was held against another (`resolve_overlap`): nothing, it lost its end, or it would lose all
pub data Resolved : Type 0 where
  apart : Resolved
  trimmed : List (List ℕ) → Resolved
  emptied : Resolved

-- by the overlap that was found
unfoldable pub resolved_by : List (List ℕ) → ℕ → Option ℕ → Resolved
resolved_by os i None = apart
resolved_by os i (Some n) =
    if eqb (n + 1) (length (ordering_at os i)) then emptied
    else trimmed (set os i (take (length (ordering_at os i) - (n + 1)) (ordering_at os i)))

-- ordering i is held against ordering j
unfoldable pub resolve : (ℕ → ℕ → Bool) → List (List ℕ) → ℕ → ℕ → Resolved
resolve m os i j = resolved_by os i (overlap m (ordering_at os i) (ordering_at os j))

-- how the comparing goes on after orderings i and j: with the next j, with the same j since it was replaced, or from i anew since i was
pub data Way : Type 0 where
  onward : Way
  again : Way
  anew : Way

-- what comparing two came to
pub record Compared : Type 0 where
  pub way : Way
  pub cuts : ℕ
  pub orderings : List (List ℕ)

-- j against i, after c cuts
unfoldable pub second : List (List ℕ) → ℕ → ℕ → Resolved → Compared
second os j c apart = record { way = onward; cuts = c; orderings = os }
second os j c (trimmed ps) = record { way = onward; cuts = c + 1; orderings = ps }
second os j c emptied = record { way = again; cuts = c + 1; orderings = removed os j }

-- i against j, and then j against i
unfoldable pub compared : (ℕ → ℕ → Bool) → List (List ℕ) → ℕ → ℕ → Compared
compared m os i j =
    elim (resolve m os i j) [
      | apart ↦ second os j 0 (resolve m os j i)
      | trimmed ps ↦ second ps j 1 (resolve m ps j i)
      | emptied ↦ record { way = anew; cuts = 1; orderings = removed os i }
    ]

-- how many keys all orderings have
unfoldable pub keys_in : List (List ℕ) → ℕ
keys_in [] = 0
keys_in (o ∷ os) = length o + keys_in os
