-- Pairs with other right sides by their places, and pairs as equal conditions from a place on.
use Rattle.std.specs.Prelude.{None, Some}
use Prim.Native.Nat.{ℕ, zero, suc, ◌+◌, ◌<◌, ◌≤◌}
use mathlib.Core.Bool.{true, false}
use mathlib.Core.List.{List, [], ◌∷◌}
use mathlib.Core.Path.{◌≡◌, refl, ap, ◌∙◌}
use native.Mathlib.Numerals.{add-one}
use native.Mathlib.Omega.{arith}
use lib.ListN.{length, get_or, drop, drop_of_length-le}
use lib.Seq.{drop-cons}
use Rattle.arena.specs.Node.{Node}
use Rattle.classes.specs.Class.{Class}
use Rattle.classes.specs.Group.{equal_condition}
use Rattle.classes.specs.Steps.{fits}
use Rattle.joins.specs.Joining.{with_rights, equated_all}
use Rattle.shifted_classes.proofs.PairPlaces.{nowhere}

-- pairs with other right sides, as many
pub length-with : (ps : List (ℕ × ℕ)) (ks : List ℕ) → length ks ≡ length ps → length (with_rights ps ks) ≡ length ps
unfolding with_rights
length-with [] ks e = refl
length-with (p ∷ ps) [] e = absurd (omega arith)
length-with (p ∷ ps) (k ∷ ks) e = ap suc (length-with ps ks (omega arith))

-- each has its own left side
pub with_at : (ps : List (ℕ × ℕ)) (ks : List ℕ) (i : ℕ) → length ks ≡ length ps → i < length ps → get_or (with_rights ps ks) i nowhere ≡ ((get_or ps i nowhere).0, get_or ks i 0)
unfolding with_rights
with_at [] ks i e l = absurd (omega arith)
with_at (p ∷ ps) [] i e l = absurd (omega arith)
with_at (p ∷ ps) (k ∷ ks) zero e l = refl
with_at (p ∷ ps) (k ∷ ks) (suc i) e l = with_at ps ks i (omega arith) (omega arith)

-- pairs as equal conditions, from a place on
module _ (ns : List Node) (qs : List (ℕ × ℕ)) (cs : List Class) (k : ℕ) where
  -- what comes of the pair at the place
  abbrev pub after : ℕ → ℕ → List Class
  after a b = (equal_condition ns cs a b).1

  module _ (a b : ℕ) (l : k < length qs) (e : get_or qs k nowhere ≡ (a, b)) where
    -- the pairs from the place on
    rest : drop k qs ≡ (a, b) ∷ drop (k + 1) qs
    rest = drop-cons qs k nowhere l ∙ rw (add-one k, e)

    -- it fits
    pub equated-next : fits 256 (after a b) ≡ true → equated_all ns (drop k qs) cs ≡ equated_all ns (drop (k + 1) qs) (after a b)
    unfolding equated_all
    equated-next f = ap (λ (l : List (ℕ × ℕ)). equated_all ns l cs) rest ∙ rw f

    -- it doesn't
    pub equated-over : fits 256 (after a b) ≡ false → equated_all ns (drop k qs) cs ≡ None
    unfolding equated_all
    equated-over f = ap (λ (l : List (ℕ × ℕ)). equated_all ns l cs) rest ∙ rw f

  -- none is left
  pub equated_end : length qs ≤ k → equated_all ns (drop k qs) cs ≡ Some cs
  unfolding equated_all
  equated_end l = ap (λ (l : List (ℕ × ℕ)). equated_all ns l cs) (drop_of_length-le qs l)
