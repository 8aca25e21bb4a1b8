-- The definitions of an insert, tried on small maps by computing them. Key 4 is expression 1 with options 0.
use Prim.Native.Nat.{ℕ}
use mathlib.Core.List.{List, [], ◌∷◌}
use Rattle.std.specs.Prelude.{Option, None, Some}
use mathlib.Core.Path.{◌≡◌, refl}
use Rattle.laws.specs.Tests.{first, first_from}
use Rattle.classes.specs.Group.{among}
use Rattle.dependencies.specs.Map.{Dependent, place_of, with_dependency, inserted_at, inserted}

-- an entry
abbrev entry : ℕ → Option ℕ → List ℕ → Dependent
entry k t ks = record { key = k; target = t; dependencies = ks }

-- a map of two keys
abbrev two : List Dependent
two = entry 4 (Some 8) (12 ∷ []) ∷ entry 12 None [] ∷ []

-- into the empty map
into_empty : inserted [] 4 (Some 8) (Some 12) ≡ entry 4 (Some 8) (12 ∷ []) ∷ []
unfolding inserted inserted_at place_of first first_from with_dependency among
into_empty = refl

-- a key without a target and without a dependency comes to the end
bare-key : inserted (entry 4 (Some 8) (12 ∷ []) ∷ []) 12 None None ≡ two
unfolding inserted inserted_at place_of first first_from with_dependency
bare-key = refl

-- the same key again with another target: the first is kept, and the dependency stands once
repeated : inserted two 4 (Some 16) (Some 12) ≡ two
unfolding inserted inserted_at place_of first first_from with_dependency among
repeated = refl

-- a key that came without a target stays without one
none_kept : inserted two 12 (Some 16) None ≡ two
unfolding inserted inserted_at place_of first first_from with_dependency
none_kept = refl

-- a second dependency comes after the first, whichever number is lower
in_order_lem : inserted two 4 None (Some 2) ≡ entry 4 (Some 8) (12 ∷ 2 ∷ []) ∷ entry 12 None [] ∷ []
unfolding inserted inserted_at place_of first first_from with_dependency among
in_order_lem = refl

-- the same expression with other options is another key
other-options : inserted (entry 4 (Some 8) [] ∷ []) 5 (Some 9) None ≡ entry 4 (Some 8) [] ∷ entry 5 (Some 9) [] ∷ []
unfolding inserted inserted_at place_of first first_from with_dependency
other-options = refl
