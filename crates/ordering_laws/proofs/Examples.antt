-- The definitions of specs/, tried on small lists by computing them. Document 01's own examples stand in the crate promises. a, b and c ascending are the keys 0, 4 and 8.
use mathlib.Core.List.{[], ◌∷◌}
use mathlib.Core.Path.{◌≡◌, refl}
use Rattle.laws.specs.Tests.{each, first, first_from}
use Rattle.orderings.specs.Ordering.{same_key, expr_of, has_expr, pushed, extended, built}
use Rattle.orderings.specs.Lists.{join_suffix}
use Rattle.reduction.specs.Reduction.{meets, overlap, removed, resolved_by, resolve, second, compared, round_from, round_rest, round, pass_from, pass_rest, pass, keys_in, passes_from, passes_rest, reduced}

-- an ordering cut to nothing is replaced by the last: [a],[c],[a,b] reduce to [a,b],[c]
gap : (reduced same_key ((0 ∷ []) ∷ (8 ∷ []) ∷ (0 ∷ 4 ∷ []) ∷ [])).orderings ≡ (0 ∷ 4 ∷ []) ∷ (8 ∷ []) ∷ []
unfolding reduced passes_rest passes_from pass pass_rest pass_from round round_rest round_from compared second resolve resolved_by removed overlap meets keys_in same_key each first first_from
gap = refl

-- a key whose expression is there is dropped, with any options
repeats : built (4 ∷ 0 ∷ 5 ∷ 8 ∷ []) ≡ 4 ∷ 0 ∷ 8 ∷ []
unfolding built extended pushed has_expr expr_of
repeats = refl

-- an empty other side keeps all
keeps : join_suffix ((0 ∷ []) ∷ (4 ∷ []) ∷ []) [] ≡ (0 ∷ []) ∷ (4 ∷ []) ∷ []
unfolding join_suffix
keeps = refl
