-- Orderings extended by others: how many there are, which stands where, and in what steps they are made.
use Prim.Native.Nat.{ℕ, zero, suc, ◌+◌, ◌*◌, ◌<◌}
use mathlib.Core.List.{List, [], ◌∷◌, ◌++◌, map, map-append, append-nil, append_assoc}
use mathlib.Core.Path.{◌≡◌, refl, sym, ap, ◌∙◌, subst}
use native.Mathlib.Nat.{suc-mul}
use native.Mathlib.Numerals.{add-one}
use native.Mathlib.Omega.{arith}
use lib.ListN.{length, take, drop, length-append, length-map, take-append-drop}
use lib.Seq.{take-suc}
use Rattle.orderings.specs.Ordering.{extended}
use Rattle.orderings.specs.Lists.{ordering_at, suffixed, suffixed_all, join_suffix}
use Rattle.orderings.proofs.Appending.{append-all}

-- all of a list extended by one
pub length-suffixed : (os : List (List ℕ)) (p : List ℕ) → length (suffixed os p) ≡ length os
unfolding suffixed
length-suffixed os p = length-map os (λ (o : List ℕ). extended o p)

pub suffixed-at : (os : List (List ℕ)) (p : List ℕ) (i : ℕ) → i < length os → ordering_at (suffixed os p) i ≡ extended (ordering_at os i) p
unfolding suffixed
suffixed-at [] p i l = absurd (omega arith)
suffixed-at (o ∷ os) p zero l = refl
suffixed-at (o ∷ os) p (suc i) l = suffixed-at os p i (omega arith)

-- one ordering more
pub suffixed-next : (os : List (List ℕ)) (p : List ℕ) (i : ℕ) → i < length os → suffixed (take (i + 1) os) p ≡ suffixed (take i os) p ++ (extended (ordering_at os i) p ∷ [])
unfolding suffixed
suffixed-next os p i l =
    ap (map (λ (o : List ℕ). extended o p)) (ap (λ (k : ℕ). take k os) (add-one i) ∙ take-suc os i [] l)
    ∙ map-append (λ (o : List ℕ). extended o p) (take i os) (ordering_at os i ∷ [])

-- all of a list extended by each of another
module _ (os : List (List ℕ)) where
  pub length-suffixed_all : (ps : List (List ℕ)) → length (suffixed_all os ps) ≡ length ps * length os
  unfolding suffixed_all
  length-suffixed_all [] = omega arith
  length-suffixed_all (p ∷ ps) =
      length-append (suffixed os p) (suffixed_all os ps)
      ∙ omega (arith, length-suffixed os p, length-suffixed_all ps, suc-mul (length ps) (length os))

  pub suffixed_all-append : (ps qs : List (List ℕ)) → suffixed_all os (ps ++ qs) ≡ suffixed_all os ps ++ suffixed_all os qs
  unfolding suffixed_all
  suffixed_all-append [] qs = refl
  suffixed_all-append (p ∷ ps) qs =
      ap (λ (t : List (List ℕ)). suffixed os p ++ t) (suffixed_all-append ps qs)
      ∙ sym (append_assoc (suffixed os p) (suffixed_all os ps) (suffixed_all os qs))

  -- one of the other list more
  pub suffixed_all-next : (ps : List (List ℕ)) (j : ℕ) → j < length ps → suffixed_all os (take (j + 1) ps) ≡ suffixed_all os (take j ps) ++ suffixed os (ordering_at ps j)
  unfolding suffixed_all
  suffixed_all-next ps j l =
      ap (suffixed_all os) (ap (λ (k : ℕ). take k ps) (add-one j) ∙ take-suc ps j [] l)
      ∙ suffixed_all-append (take j ps) (ordering_at ps j ∷ [])
      ∙ ap (λ (t : List (List ℕ)). suffixed_all os (take j ps) ++ t) (append-nil (suffixed os (ordering_at ps j)))

  -- the first of the other list, and then the rest
  pub suffixed_all-split : (ps : List (List ℕ)) (j : ℕ) → suffixed_all os ps ≡ suffixed_all os (take j ps) ++ suffixed_all os (drop j ps)
  suffixed_all-split ps j = ap (suffixed_all os) (sym (take-append-drop j ps)) ∙ suffixed_all-append (take j ps) (drop j ps)

  -- joining with none, and with some
  pub join_suffix-none : (ps : List (List ℕ)) → length ps ≡ 0 → join_suffix os ps ≡ os
  unfolding join_suffix
  join_suffix-none [] e = refl
  join_suffix-none (p ∷ ps) e = absurd (omega arith)

  pub join_suffix-some : (ps : List (List ℕ)) → 0 < length ps → join_suffix os ps ≡ suffixed_all os ps
  unfolding join_suffix
  join_suffix-some [] l = absurd (omega arith)
  join_suffix-some (p ∷ ps) l = refl

-- what holds of each ordering that is extended by each of the others holds of all that joining makes
module _ (P : List ℕ → Type 0) (os : List (List ℕ)) where
  suffixed_all-all : (ps : List (List ℕ)) → ((i j : ℕ) → i < length os → j < length ps → P (extended (ordering_at os i) (ordering_at ps j)))
      → (k : ℕ) → k < length (suffixed_all os ps) → P (ordering_at (suffixed_all os ps) k)
  unfolding suffixed_all
  suffixed_all-all [] h = λ k l. absurd (omega arith)
  suffixed_all-all (p ∷ ps) h =
      append-all P (suffixed os p) (suffixed_all os ps)
      (λ i l. let b : i < length os = omega (arith, length-suffixed os p) in subst P (sym (suffixed-at os p i b)) (h i 0 b (omega arith)))
      (suffixed_all-all ps (λ i j a b. h i (suc j) a (omega arith)))

  pub join_suffix-all : (ps : List (List ℕ)) → ((i : ℕ) → i < length os → P (ordering_at os i)) → ((i j : ℕ) → i < length os → j < length ps → P (extended (ordering_at os i) (ordering_at ps j)))
      → (k : ℕ) → k < length (join_suffix os ps) → P (ordering_at (join_suffix os ps) k)
  unfolding join_suffix
  join_suffix-all [] v h = v
  join_suffix-all (p ∷ ps) v h = suffixed_all-all (p ∷ ps) h
