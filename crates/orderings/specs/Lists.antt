-- What document 01 says of a list of orderings: building it, adding to it, the ordering of all, and joining with the orderings of another.
use Rattle.std.specs.Prelude.{ℕ, List, [], ◌∷◌, ◌++◌, map, get_or}
use Rattle.orderings.specs.Ordering.{extended, built}

-- the ordering at a place; past the end, which no call asks for, an empty one
abbrev pub ordering_at : List (List ℕ) → ℕ → List ℕ
ordering_at os i = get_or os i []

-- empty orderings vanish
unfoldable pub nonempty : List (List ℕ) → List (List ℕ)
nonempty [] = []
nonempty ([] ∷ os) = nonempty os
nonempty ((k ∷ ks) ∷ os) = (k ∷ ks) ∷ nonempty os

-- orderings built from lists of keys
unfoldable pub built_all : List (List ℕ) → List (List ℕ)
built_all kss = nonempty (map built kss)

-- an ordering extended by each of a list, one after the other
unfoldable pub extended_all : List ℕ → List (List ℕ) → List ℕ
extended_all o [] = o
extended_all o (p ∷ ps) = extended_all (extended o p) ps

-- the joined ordering of all; none of an empty list is the empty ordering
unfoldable pub output_ordering : List (List ℕ) → List ℕ
output_ordering os = extended_all [] os

-- each of the orderings, extended by one of the other side
unfoldable pub suffixed : List (List ℕ) → List ℕ → List (List ℕ)
suffixed os p = map (λ (o : List ℕ). extended o p) os

-- all of the orderings extended by the first of the other side, then all by the next
unfoldable pub suffixed_all : List (List ℕ) → List (List ℕ) → List (List ℕ)
suffixed_all os [] = []
suffixed_all os (p ∷ ps) = suffixed os p ++ suffixed_all os ps

-- joining: an empty other side keeps all
unfoldable pub join_suffix : List (List ℕ) → List (List ℕ) → List (List ℕ)
join_suffix os [] = os
join_suffix os (p ∷ ps) = suffixed_all os (p ∷ ps)
