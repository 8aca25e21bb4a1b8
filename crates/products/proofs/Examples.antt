-- The definitions of specs/, tried on small maps by computing them.
use Prim.Native.Nat.{ℕ}
use mathlib.Core.List.{List, [], ◌∷◌}
use Rattle.std.specs.Prelude.{Some}
use mathlib.Core.Path.{◌≡◌, refl}
use lib.ListN.{length}
use Rattle.laws.specs.Tests.{first, first_from}
use Rattle.orderings.specs.Ordering.{expr_of, has_expr, pushed, extended}
use Rattle.dependencies.specs.Map.{Dependent, place_of}
use Rattle.enumeration.specs.Walk.{go_on, is_seen, over_dependencies, at_target, at_entry, at_place, constructed, pairs, construct_orderings, over_start, prefix_orderings}
use Rattle.products.specs.Orders.{passing, beginning, orders, before_each, product}
use Rattle.products.specs.Generate.{lists, with_list, contributing, chained, in_all_orders, all_orders, generated}

-- the text's example: a depends on c, b on d; of a and b
abbrev text : List Dependent
text = record { key = 0; target = Some 0; dependencies = 8 ∷ [] } ∷ record { key = 4; target = Some 4; dependencies = 13 ∷ [] } ∷ record { key = 8; target = Some 8; dependencies = [] } ∷ record { key = 13; target = Some 13; dependencies = [] } ∷ []

text-lists : contributing text (0 ∷ 4 ∷ []) ≡ lists (((8 ∷ []) ∷ []) ∷ ((13 ∷ []) ∷ []) ∷ [])
unfolding contributing with_list prefix_orderings over_start construct_orderings constructed pairs at_place place_of first first_from at_entry at_target over_dependencies is_seen go_on
text-lists = refl

text-orders : generated (((8 ∷ []) ∷ []) ∷ ((13 ∷ []) ∷ []) ∷ []) ≡ (8 ∷ 13 ∷ []) ∷ (13 ∷ 8 ∷ []) ∷ []
unfolding generated all_orders in_all_orders product before_each orders beginning passing chained extended pushed has_expr expr_of
text-orders = refl

-- three places in lexicographic order
three : orders 3 ≡ (0 ∷ 1 ∷ 2 ∷ []) ∷ (0 ∷ 2 ∷ 1 ∷ []) ∷ (1 ∷ 0 ∷ 2 ∷ []) ∷ (1 ∷ 2 ∷ 0 ∷ []) ∷ (2 ∷ 0 ∷ 1 ∷ []) ∷ (2 ∷ 1 ∷ 0 ∷ []) ∷ []
unfolding orders beginning passing
three = refl

-- six places have 720
six : length (orders 6) ≡ 720
unfolding orders beginning passing
six = refl

-- a product varies its last part fastest
fastest : product {A = ℕ} ((1 ∷ 2 ∷ []) ∷ (3 ∷ 4 ∷ []) ∷ []) ≡ (1 ∷ 3 ∷ []) ∷ (1 ∷ 4 ∷ []) ∷ (2 ∷ 3 ∷ []) ∷ (2 ∷ 4 ∷ []) ∷ []
unfolding product before_each
fastest = refl
