-- An ordering goes from the struct of a list: the last moves into its gap, and its own place is emptied.
use Prim.Native.Nat.{ℕ, zero, suc, ◌-◌, ◌<◌, ◌≤◌}
use mathlib.Core.List.{List, [], ◌∷◌, ◌++◌, map}
use mathlib.Core.Path.{◌≡◌, refl, sym, ap, ◌∙◌}
use native.Mathlib.Decide.{ℕ_discrete}
use native.Mathlib.Omega.{arith}
use lib.ListN.{length, take, set, replicate, length-set, length-map}
use lib.Seq.{length-take-le, set_out, take-set-lt, take-set-le}
use Rattle.orderings.specs.Lists.{ordering_at}
use Rattle.reduction.specs.Reduction.{removed}
use Rattle.orderings.specs.Layout.{row, encode, decode}
use Rattle.orderings.specs.Inner.{Held}
use Rattle.orderings.specs.declared.Ordering.{Ordering}
use Rattle.orderings.specs.declared.Orderings.{Orderings}
use Rattle.reduction.specs.Fewer.{length_removed}
use Rattle.orderings.proofs.Codec.{place_in, length-decode, place_is, set-encode}

module _ {A : Type 0} (d : A) where
  -- the last place is given back
  fill_last : (xs : List A) (k n : ℕ) → length xs ≡ suc k → set (xs ++ replicate n d) k d ≡ take k xs ++ replicate (suc n) d
  fill_last [] k n e = absurd (omega arith)
  fill_last (x ∷ []) zero n e = refl
  fill_last (x ∷ y ∷ xs) zero n e = absurd (omega arith)
  fill_last (x ∷ xs) (suc k) n e = ap (λ (t : List A). x ∷ t) (fill_last xs k n (omega arith))

module _ {A B : Type 0} (f : A → B) where
  map-take : (n : ℕ) (xs : List A) → map f (take n xs) ≡ take n (map f xs)
  map-take zero [] = refl
  map-take zero (x ∷ xs) = refl
  map-take (suc n) [] = refl
  map-take (suc n) (x ∷ xs) = ap (λ (t : List B). f x ∷ t) (map-take n xs)

-- the last ordering moves to a place, and its own place is emptied
remove-encode : (os : List (List ℕ)) (i k : ℕ) → length os ≡ suc k → length os ≤ 32 → i < length os → set (set (encode os).list i (row (ordering_at os k))) k (row []) ≡ (encode (removed os i)).list
unfolding encode removed
remove-encode os i k e few l =
    ap (λ (t : List Ordering). set t k (row [])) (set-encode os i (ordering_at os k) l)
    ∙ fill_last (row []) (map row qs) k (32 - length qs) (omega (arith, length-map qs row, length-set os i (ordering_at os k)))
    ∙ ap (λ (t : List Ordering). t ++ replicate (suc (32 - length qs)) (row [])) (sym (map-take row k qs) ∙ ap (map row) taken)
    ∙ ap (λ (n : ℕ). map row (removed os i) ++ replicate n (row [])) left
  where
    qs : List (List ℕ)
    qs = set os i (ordering_at os k)

    n : k ≡ length os - 1
    n = omega arith

    left : suc (32 - length qs) ≡ 32 - length (removed os i)
    left = omega (arith, length_removed os i, length-set os i (ordering_at os k))

    at : Dec (i ≡ k) → take k (set os i (ordering_at os k)) ≡ set (take k os) i (ordering_at os k)
    at (yes p) = take-set-le k os i (ordering_at os k) (omega arith) ∙ sym (set_out (take k os) i (ordering_at os k) (omega (arith, length-take-le k os (omega arith))))
    at (no p) = take-set-lt k os i (ordering_at os k) (omega arith)

    taken : take k qs ≡ removed os i
    taken = at (ℕ_discrete i k) ∙ ap (λ (x : ℕ). set (take x os) i (ordering_at os x)) n

pub place-removed : (g : Orderings) → Held g → (i k : ℕ) → g.count ≡ suc k → i < g.count → {f : ℕ} → f ≡ k → ◌≡◌ {A = Orderings} (record { count = k; list = set (set g.list i (place_in g f)) k (row []) }) (encode (removed (decode g) i))
unfolding encode
place-removed g h i k e l {f} q = λ t. record { count = same t; list = moved t }
  where
    same : k ≡ length (removed (decode g) i)
    same = omega (arith, length-decode g, length_removed (decode g) i)

    moved : set (set g.list i (place_in g f)) k (row []) ≡ (encode (removed (decode g) i)).list
    moved =
        rw (q, place_is g h k (omega arith)) (ap (λ (x : Orderings). set (set x.list i (row (ordering_at (decode g) k))) k (row [])) (sym h.coded)
        ∙ remove-encode (decode g) i k (length-decode g ∙ e) h.good.few (omega (arith, length-decode g)))
