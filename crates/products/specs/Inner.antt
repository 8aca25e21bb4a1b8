-- What the inner functions ask and promise each other, here and in the crates above. The public contracts cite nothing of this file.
use Rattle.std.specs.Prelude.{ℕ, zero, suc, ◌+◌, ◌-◌, ◌*◌, ◌<◌, ◌≤◌, List, [], ◌∷◌, ◌++◌, map, ◌≡◌, leb, length, get_or, replicate, if◌then◌else◌, Result, Ok, Err}
use Rattle.laws.specs.Lists.{table}
use Rattle.orderings.specs.Layout.{row, keys_of}
use Rattle.orderings.specs.Inner.{ShortOrdering}
use Rattle.products.specs.declared.Shape.{Shape}
use Rattle.products.specs.declared.Lists.{Lists}
use Rattle.products.specs.declared.Choice.{Choice}
use Rattle.products.specs.declared.Order.{Order}
use Rattle.arena.specs.declared.Refusal.{Refusal}
use Rattle.arena.specs.declared.Refusal.TheVariants.{TooLarge}

-- all orderings of some lists, list after list
unfoldable pub joined : List (List (List ℕ)) → List (List ℕ)
joined [] = []
joined (l ∷ ls) = l ++ joined ls

-- How lists, a choice and an order lie in their structs

-- where list j begins
unfoldable pub start_of : Shape → ℕ → ℕ
start_of s zero = 0
start_of s (suc j) = get_or s.ends j 0

-- how many orderings list j has
unfoldable pub length_of : Shape → ℕ → ℕ
length_of s j = get_or s.ends j 0 - start_of s j

-- how many orderings each list has
unfoldable pub lengths_of : Shape → List ℕ
lengths_of s = table (length_of s) s.size

-- the orderings of list j in a struct
unfoldable pub list_of : Lists → ℕ → List (List ℕ)
list_of l j = table (λ i. keys_of (get_or l.found.rows (start_of l.shape j + i) (row []))) (length_of l.shape j)

-- the lists in a struct
unfoldable pub lists_of : Lists → List (List (List ℕ))
lists_of l = table (list_of l) l.shape.size

-- at most 6 lists of at least one ordering, at most 1,024 orderings
pub record Shaped (s : Shape) : Type 0 where
  pub few : s.size ≤ 6
  pub rise : (j : ℕ) → j < s.size → start_of s j < get_or s.ends j 0
  pub within : (j : ℕ) → j < s.size → get_or s.ends j 0 ≤ 1024

-- such lists, and their orderings have at most 16 keys
pub record Laid (l : Lists) : Type 0 where
  pub shaped : Shaped l.shape
  pub short : (i : ℕ) → i < start_of l.shape l.shape.size → ShortOrdering (get_or l.found.rows i (row []))

-- a choice as its struct
unfoldable pub choice_row : List (List ℕ) → Choice
choice_row os = record { size = length os; rows = map row os ++ replicate (6 - length os) (row []) }

-- the orderings in such a struct
unfoldable pub choice_of : Choice → List (List ℕ)
choice_of c = table (λ i. keys_of (get_or c.rows i (row []))) c.size

-- the struct is the layout of 1 to 6 orderings of at most 16 keys
pub record Chosen (c : Choice) : Type 0 where
  pub coded : choice_row (choice_of c) ≡ c
  pub some : 0 < c.size
  pub few : c.size ≤ 6
  pub short : (i : ℕ) → i < c.size → ShortOrdering (get_or c.rows i (row []))

-- an order as its struct
unfoldable pub order_row : List ℕ → Order
order_row o = record { size = length o; places = o ++ replicate {A = ℕ} (6 - length o) 0 }

-- the order in such a struct
unfoldable pub places_of : Order → List ℕ
places_of o = table (λ i. get_or o.places i 0) o.size

-- the struct is the layout of an order of at most 6 places
pub record Placed (o : Order) : Type 0 where
  pub coded : order_row (places_of o) ≡ o
  pub few : o.size ≤ 6

-- Numbers

-- the product of the numbers from 1 to n
unfoldable pub factorial : ℕ → ℕ
factorial zero = 1
factorial (suc n) = suc n * factorial n

-- the product of some numbers
unfoldable pub times_all : List ℕ → ℕ
times_all [] = 1
times_all (n ∷ ns) = n * times_all ns

-- how many choices there are: the product of the lists' lengths
abbrev pub choices : {A : Type 0} → List (List A) → ℕ
choices ls = times_all (map length ls)

-- how many choices lists of some lengths give: none where their orders are more than 1,024
unfoldable pub counted : List ℕ → Result ℕ Refusal
counted ns =
    if leb (factorial (length ns) * times_all ns) 1024 then Ok (times_all ns)
    else Err TooLarge
