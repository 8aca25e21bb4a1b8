-- The orderings of several dependencies: the prefix orderings of each that has some, one of each in all ways, and each such choice in all orders.
use Rattle.std.specs.Prelude.{ℕ, List, [], ◌∷◌, ◌++◌, map, length, get_or, Some}
use Rattle.orderings.specs.Ordering.{extended}
use Rattle.dependencies.specs.Map.{Dependent, with_dependency}
use Rattle.enumeration.specs.Walk.{Walk, found, stopped, prefix_orderings}
use Rattle.products.specs.Orders.{orders, product}

-- the keys that are given, each once
unfoldable pub once_each : List ℕ → List ℕ → List ℕ
once_each ks [] = ks
once_each ks (d ∷ ds) = once_each (with_dependency ks (Some d)) ds

-- lists of prefix orderings, or where a walk stopped
pub data Lists : Type 0 where
  lists : List (List (List ℕ)) → Lists
  stops : ℕ → Lists

-- one more list at the front; an empty one contributes nothing
unfoldable pub with_list : Walk → Lists → Lists
with_list (stopped k) ls = stops k
with_list (found [] seen) ls = ls
with_list (found (o ∷ os) seen) (lists ls) = lists ((o ∷ os) ∷ ls)
with_list (found (o ∷ os) seen) (stops k) = stops k

-- the prefix orderings of each dependency that has some, each by a walk of its own
unfoldable pub contributing : List Dependent → List ℕ → Lists
contributing m [] = lists []
contributing m (d ∷ ds) = with_list (prefix_orderings m d) (contributing m ds)

-- orderings one behind the other
unfoldable pub chained : List (List ℕ) → List ℕ
chained [] = []
chained (o ∷ os) = behind o os
  where
    behind : List ℕ → List (List ℕ) → List ℕ
    behind p [] = p
    behind p (q ∷ qs) = behind (extended p q) qs

-- a choice in all orders
unfoldable pub in_all_orders : List (List ℕ) → List (List ℕ)
in_all_orders os = map (λ (o : List ℕ). chained (map (λ (i : ℕ). get_or os i []) o)) (orders (length os))

-- each choice in all orders
unfoldable pub all_orders : List (List (List ℕ)) → List (List ℕ)
all_orders [] = []
all_orders (c ∷ cs) = in_all_orders c ++ all_orders cs

-- the orderings of some lists: none where nothing contributes
unfoldable pub generated : List (List (List ℕ)) → List (List ℕ)
generated [] = []
generated (l ∷ ls) = all_orders (product (l ∷ ls))
