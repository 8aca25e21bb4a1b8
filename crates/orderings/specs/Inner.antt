-- What the inner functions ask and promise each other. The public contracts cite nothing of this file.
use Rattle.std.specs.Prelude.{ℕ, ◌+◌, ◌<◌, ◌≤◌, Bool, true, List, [], ◌≡◌, leb, length, drop, set, if◌then◌else◌, Result, Ok, Err}
use Rattle.laws.specs.Tests.{each}
use Rattle.orderings.specs.Ordering.{extended}
use Rattle.orderings.specs.Lists.{ordering_at}
use Rattle.orderings.specs.Good.{Good, GoodOrdering}
use Rattle.orderings.specs.Layout.{row, keys_of, encode, decode, lawful_list}
use Rattle.orderings.specs.declared.Ordering.{Ordering}
use Rattle.orderings.specs.declared.Orderings.{Orderings}
use Rattle.orderings.specs.Calls.{fits}
use Rattle.arena.specs.declared.Refusal.{Refusal}
use Rattle.arena.specs.declared.Refusal.TheVariants.{TooLarge}

-- the struct is the layout of an ordering that is good
pub record HeldOrdering (r : Ordering) : Type 0 where
  pub coded : row (keys_of r) ≡ r
  pub good : GoodOrdering (keys_of r)

-- the struct is the layout of a list that is good
pub record Held (g : Orderings) : Type 0 where
  pub coded : encode (decode g) ≡ g
  pub good : Good (decode g)

-- the struct is the layout of an ordering of at most 16 keys
pub record ShortOrdering (r : Ordering) : Type 0 where
  pub coded : row (keys_of r) ≡ r
  pub short : r.size ≤ 16

-- the struct is the layout of at most 32 orderings of at most 16 keys
pub record Short (g : Orderings) : Type 0 where
  pub coded : encode (decode g) ≡ g
  pub few : g.count ≤ 32
  pub short : (i : ℕ) → i < g.count → length (ordering_at (decode g) i) ≤ 16

-- an ordering that was extended, as its struct: none where it has more than 16 keys
unfoldable pub extended_of : List ℕ → Result Ordering Refusal
extended_of ks = if leb (length ks) 16 then Ok (row ks) else Err TooLarge

-- extending an ordering by keys: the first k of them are pushed, and the others are to be
pub record Extending (o ks : List ℕ) (k : ℕ) (out : Ordering) : Type 0 where
  pub below : k ≤ length ks
  pub short : ShortOrdering out
  pub goes : extended o ks ≡ extended (keys_of out) (drop k ks)

-- no orderings
abbrev pub empties : Orderings
empties = encode []

-- a struct with one more ordering
unfoldable pub appended : Orderings → Ordering → Orderings
appended g o = record { count = g.count + 1; list = set g.list g.count o }

-- each ordering has at most 16 keys
unfoldable pub all_short : List (List ℕ) → Bool
all_short os = each (λ i. leb (length (ordering_at os i)) 16) (length os)

-- the struct passes rule 11
abbrev pub Lawful : Orderings → Type 0
Lawful g = lawful_list g ≡ true

-- a list that was made, if it fits
unfoldable pub made : List (List ℕ) → Result Orderings Refusal
made os = if fits os then Ok (encode os) else Err TooLarge
