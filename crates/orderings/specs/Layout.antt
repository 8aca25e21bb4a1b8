-- How a list of orderings lies in its struct, and which structs are one. The one file that speaks of the struct.
-- A place for each of 32 orderings: the number of its keys and 16 places for them. Every unused place is 0.
use Rattle.std.specs.Prelude.{ℕ, ◌+◌, ◌-◌, Bool, not, ◌&&◌, List, [], ◌++◌, map, eqb, ltb, leb, length, get_or, replicate}
use Rattle.laws.specs.Lists.{table}
use Rattle.laws.specs.Tests.{each}
use Rattle.orderings.specs.Ordering.{expr_of}
use Rattle.orderings.specs.declared.Ordering.{Ordering}
use Rattle.orderings.specs.declared.Orderings.{Orderings}

-- an ordering as its struct
unfoldable pub row : List ℕ → Ordering
row o = record { size = length o; keys = o ++ replicate (16 - length o) 0 }

-- the keys in such a struct
unfoldable pub keys_of : Ordering → List ℕ
keys_of r = table (λ k. get_or r.keys k 0) r.size

-- a list of orderings as its struct
unfoldable pub encode : List (List ℕ) → Orderings
encode os = record { count = length os; list = map row os ++ replicate (32 - length os) (row []) }

-- the orderings in such a struct
unfoldable pub decode : Orderings → List (List ℕ)
decode g = table (λ i. keys_of (get_or g.list i (row []))) g.count

-- ordering i of a struct
abbrev pub place_in : Orderings → ℕ → Ordering
place_in g i = get_or g.list i (row [])

-- the expression of the key at a place does not stand before it
unfoldable pub fresh_key : List ℕ → ℕ → Bool
fresh_key ks k = each (λ i. not (eqb (expr_of (get_or ks i 0)) (expr_of (get_or ks k 0)))) k

-- the places for keys after those that are used are 0
unfoldable pub rest_unused : Ordering → Bool
rest_unused r = each (λ k. eqb (get_or r.keys (r.size + k) 0) 0) (16 - r.size)

-- an ordering: 1 to 16 keys, no expression twice, unused places 0
unfoldable pub lawful_ordering : Ordering → Bool
lawful_ordering r = ltb 0 r.size && leb r.size 16 && each (λ k. fresh_key r.keys k) r.size && rest_unused r

-- an unused place: no keys, and every place for one 0
unfoldable pub unused_ordering : Ordering → Bool
unused_ordering r = eqb r.size 0 && rest_unused r

-- document 01's rule 11 for a lent list (else 11): at most 32 orderings, each lawful, the other places unused
unfoldable pub lawful_list : Orderings → Bool
lawful_list g =
    leb g.count 32
    && each (λ i. lawful_ordering (place_in g i)) g.count
    && each (λ i. unused_ordering (place_in g (g.count + i))) (32 - g.count)

-- every key's expression is one of the first n (else 1), after 11
unfoldable pub keys_inside : ℕ → Orderings → Bool
keys_inside n g = each (λ i. each (λ k. ltb (expr_of (get_or (place_in g i).keys k 0)) n) (place_in g i).size) g.count
