-- An ordering in 17 cells, its size and 16 places for keys, and a list in 545: its count and 32 orderings.
use Rattle.std.specs.Prelude.{ℕ, ◌+◌, ◌*◌, List, ◌∷◌, get_or}
use Rattle.laws.specs.Lists.{table}
use Rattle.orderings.specs.Layout.{place_in}
use Rattle.orderings.specs.declared.Ordering.{Ordering}
use Rattle.orderings.specs.declared.Orderings.{Orderings}
use Rattle.orderings.specs.declared.Listed.{Listed}
use Rattle.states.specs.Cells.{part, in_row, told}

-- the ordering in the cells from one on
unfoldable pub ordering_from : List ℕ → ℕ → Ordering
ordering_from cells at = record { size = get_or cells at 0; keys = part cells (at + 1) 16 }

-- the cells of an ordering
unfoldable pub ordering_cells : Ordering → List ℕ
ordering_cells o = o.size ∷ o.keys

-- the list in its cells
unfoldable pub orderings_from : List ℕ → Orderings
orderings_from cells = record { count = get_or cells 0 0; list = table (λ i. ordering_from cells (1 + 17 * i)) 32 }

-- the cells of a list
unfoldable pub orderings_cells : Orderings → List ℕ
orderings_cells g = g.count ∷ in_row (λ i. ordering_cells (place_in g i)) 32

-- what a call that hands back a list returns, and the cells afterwards: a refusal leaves them as they were
unfoldable pub stored_list : List ℕ → Listed → ℕ × List ℕ
stored_list cells l = told (λ _. orderings_cells l.list) cells l.done
