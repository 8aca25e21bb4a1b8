-- The lists in a struct.
use Prim.Native.Nat.{ℕ, zero, suc, ◌+◌, ◌<◌}
use mathlib.Core.List.{[], ◌∷◌, map, map-append}
use mathlib.Core.Path.{◌≡◌, refl, ◌∙◌}
use lib.ListN.{length, get_or}
use Rattle.laws.specs.Lists.{table}
use Rattle.laws.proofs.Table.{length-table, get_or-table, table_cong}
use Rattle.orderings.specs.Layout.{row, keys_of}
use Rattle.products.specs.Inner.{start_of, length_of, lengths_of, list_of, lists_of}
use Rattle.products.specs.declared.Lists.{Lists}

-- there are as many as the struct says
pub lists_length : (l : Lists) → length (lists_of l) ≡ l.shape.size
unfolding lists_of
lists_length l = length-table (list_of l) l.shape.size

-- each stands at its place
pub lists_at : (l : Lists) (j : ℕ) → j < l.shape.size → get_or (lists_of l) j [] ≡ list_of l j
unfolding lists_of
lists_at l j in_it = get_or-table (list_of l) l.shape.size j [] in_it

-- a table with a function over each place
pub map-table : {A B : Type 0} (f : A → B) (g : ℕ → A) (n : ℕ) → map f (table g n) ≡ table (λ i. f (g i)) n
unfolding table
map-table f g zero = refl
map-table f g (suc n) = map-append f (table g n) (g n ∷ []) ∙ rw (map-table f g n)

-- a list has the length that the struct says
pub list_length : (l : Lists) (j : ℕ) → length (list_of l j) ≡ length_of l.shape j
unfolding list_of
list_length l j = length-table (λ i. keys_of (get_or l.found.rows (start_of l.shape j + i) (row []))) (length_of l.shape j)

-- they have the lengths that the struct says
pub lists_lengths : (l : Lists) → map length (lists_of l) ≡ lengths_of l.shape
unfolding lists_of lengths_of
lists_lengths l =
    map-table length (list_of l) l.shape.size
    ∙ table_cong (λ j. length (list_of l j)) (length_of l.shape) l.shape.size (λ j b. list_length l j)
