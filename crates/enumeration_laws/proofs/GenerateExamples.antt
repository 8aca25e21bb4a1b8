-- The definitions of generated orderings, tried on small lists by computing them. Key 4 is expression 1 with options 0.
use Prim.Native.Nat.{ℕ}
use mathlib.Core.Bool.{false}
use mathlib.Core.List.{List, [], ◌∷◌}
use mathlib.Core.Path.{◌≡◌, refl}
use native.Mathlib.Omega.{arith}
use borrow.Author.Tests.{lt-leb}
use lib.Dec.{leb}
use lib.ListN.{length}
use Rattle.laws.specs.Tests.{each}
use Rattle.laws.proofs.Booleans.{and_fails_left}
use Rattle.orderings.specs.Ordering.{expr_of, has_expr, pushed, extended}
use Rattle.orderings.specs.Lists.{ordering_at}
use Rattle.classes.specs.Group.{among}
use Rattle.dependencies.specs.Map.{with_dependency}
use Rattle.enumeration.specs.Bounds.{fitting}
use Rattle.products.specs.Orders.{passing, beginning, orders, before_each, product}
use Rattle.products.specs.Generate.{once_each, chained, in_all_orders, all_orders, generated}
use Rattle.products.specs.Inner.{factorial, times_all}
use Rattle.enumeration_laws.proofs.Generated.{number_of-orderings}

-- a list of one ordering of one key
abbrev one : ℕ → List (List ℕ)
one k = (k ∷ []) ∷ []

-- six lists of one ordering each
abbrev six : List (List (List ℕ))
six = one 0 ∷ one 4 ∷ one 8 ∷ one 12 ∷ one 16 ∷ one 20 ∷ []

-- a seventh
abbrev seven : List (List (List ℕ))
seven = one 24 ∷ six

-- six lists of one ordering give 720, within the bound of 1,024
six_give : length (generated six) ≡ 720
unfolding generated all_orders in_all_orders product before_each orders beginning passing chained extended pushed has_expr expr_of
six_give = refl

-- seven give 5,040
seven_give : length (generated seven) ≡ 5040
unfolding factorial times_all
seven_give = number_of-orderings seven (omega arith)

-- which is over the bound
seven-over : fitting (generated seven) ≡ false
unfolding fitting
seven-over =
    let os : List (List ℕ) = generated seven in
    and_fails_left (leb (length os) 1024) (each (λ i. leb (length (ordering_at os i)) 16) (length os)) (lt-leb (length os) 1024 (omega (arith, seven_give)))

-- what is the same stays twice: two equal lists give their ordering in both orders
doubles_stay : generated (one 4 ∷ one 4 ∷ []) ≡ (4 ∷ []) ∷ (4 ∷ []) ∷ []
unfolding generated all_orders in_all_orders product before_each orders beginning passing chained extended pushed has_expr expr_of
doubles_stay = refl

-- the orders of one choice come in lexicographic order of its places
lexicographic : generated (one 4 ∷ one 8 ∷ one 12 ∷ [])
    ≡ (4 ∷ 8 ∷ 12 ∷ []) ∷ (4 ∷ 12 ∷ 8 ∷ []) ∷ (8 ∷ 4 ∷ 12 ∷ []) ∷ (8 ∷ 12 ∷ 4 ∷ []) ∷ (12 ∷ 4 ∷ 8 ∷ []) ∷ (12 ∷ 8 ∷ 4 ∷ []) ∷ []
unfolding generated all_orders in_all_orders product before_each orders beginning passing chained extended pushed has_expr expr_of
lexicographic = refl

-- of the choices the last part varies fastest, not the first; each choice comes in all its orders before the next
first-fastest-not : generated (((4 ∷ []) ∷ (8 ∷ []) ∷ []) ∷ ((12 ∷ []) ∷ (16 ∷ []) ∷ []) ∷ [])
    ≡ (4 ∷ 12 ∷ []) ∷ (12 ∷ 4 ∷ []) ∷ (4 ∷ 16 ∷ []) ∷ (16 ∷ 4 ∷ []) ∷ (8 ∷ 12 ∷ []) ∷ (12 ∷ 8 ∷ []) ∷ (8 ∷ 16 ∷ []) ∷ (16 ∷ 8 ∷ []) ∷ []
unfolding generated all_orders in_all_orders product before_each orders beginning passing chained extended pushed has_expr expr_of
first-fastest-not = refl

-- an expression that an earlier part has is dropped, with whichever options it comes later
expression-dropped : generated (((4 ∷ 8 ∷ []) ∷ []) ∷ ((9 ∷ 12 ∷ []) ∷ []) ∷ []) ≡ (4 ∷ 8 ∷ 12 ∷ []) ∷ (9 ∷ 12 ∷ 4 ∷ []) ∷ []
unfolding generated all_orders in_all_orders product before_each orders beginning passing chained extended pushed has_expr expr_of
expression-dropped = refl

-- keys that are given stand once each, in order of first arrival
arrivals : once_each [] (8 ∷ 4 ∷ 8 ∷ 5 ∷ 4 ∷ []) ≡ 8 ∷ 4 ∷ 5 ∷ []
unfolding once_each with_dependency among
arrivals = refl
