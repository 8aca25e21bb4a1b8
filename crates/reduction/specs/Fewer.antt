-- What comparing leaves, in numbers: so many orderings fewer, and for each cut at least one key fewer. Laws only, on which the equations of Reduction rest; a reader may pass over them.
use Rattle.std.specs.Prelude.{ℕ, zero, suc, ◌+◌, ◌-◌, ◌<◌, ◌≤◌, min, Bool, true, false, List, [], ◌∷◌, ◌≡◌, refl, eqb, length, take, set, if◌then◌else◌, Option, None, Some}
use Rattle.std.proofs.Common.{ap, ◌∙◌, eqb-true, length-take-le, get_or-take}
use Rattle.std.proofs.Math.Decide.{ℕ_discrete}
use native.Mathlib.Omega.{arith}
use Rattle.std.proofs.lemmas.Bool.{eqb-false}
use Rattle.std.proofs.Math.ListN.{length-set}
use Rattle.std.proofs.Math.Seq.{set_out}
use Rattle.laws.proofs.First.{first_some}
use Rattle.orderings.specs.Lists.{ordering_at}
use Rattle.reduction.specs.Comparing.{meets, overlap, removed, Resolved, apart, trimmed, emptied, resolved_by, resolve, Way, onward, again, anew, Compared, second, compared, keys_in}

-- an ordering without its last n + 1 keys
abbrev pub shortened : List (List ℕ) → ℕ → ℕ → List (List ℕ)
shortened os i n = set os i (take (length (ordering_at os i) - (n + 1)) (ordering_at os i))

-- one ordering becomes another
pub keys-set : (os : List (List ℕ)) (i : ℕ) (o : List ℕ) → i < length os → keys_in (set os i o) + length (ordering_at os i) ≡ keys_in os + length o
unfolding keys_in
keys-set [] i o l = absurd (omega arith)
keys-set (p ∷ os) zero o l = omega arith
keys-set (p ∷ os) (suc i) o l = omega (arith, keys-set os i o (omega arith))

-- the last ordering goes
keys-front : (os : List (List ℕ)) (n : ℕ) → length os ≡ suc n → keys_in (take n os) + length (ordering_at os n) ≡ keys_in os
unfolding keys_in
keys-front [] n e = absurd (omega arith)
keys-front (p ∷ []) zero e = omega arith
keys-front (p ∷ q ∷ os) zero e = absurd (omega arith)
keys-front (p ∷ os) (suc n) e = omega (arith, keys-front os n (omega arith))

module _ (os : List (List ℕ)) (i : ℕ) where
  pub length-shortened : (n : ℕ) → length (shortened os i n) ≡ length os
  length-shortened n = length-set os i (take (length (ordering_at os i) - (n + 1)) (ordering_at os i))

  length_front : length (take (length os - 1) os) ≡ length os - 1
  length_front = length-take-le (length os - 1) os (omega arith)

  pub length_removed : length (removed os i) ≡ length os - 1
  unfolding removed
  length_removed = length-set (take (length os - 1) os) i (ordering_at os (length os - 1)) ∙ length_front

-- an ordering goes
pub keys-removed : (os : List (List ℕ)) (i : ℕ) → i < length os → keys_in (removed os i) + length (ordering_at os i) ≡ keys_in os
unfolding removed
keys-removed os i l = at (ℕ_discrete i (length os - 1))
  where
    n : ℕ
    n = length os - 1

    front : keys_in (take n os) + length (ordering_at os n) ≡ keys_in os
    front = keys-front os n (omega arith)

    at : Dec (i ≡ length os - 1) → keys_in (set (take (length os - 1) os) i (ordering_at os (length os - 1))) + length (ordering_at os i) ≡ keys_in os
    at (yes e) = rw (e, set_out (take (length os - 1) os) (length os - 1) (ordering_at os (length os - 1)) (omega (arith, length_front os i))) front
    at (no e) =
        let b : i < length os - 1 = omega arith in
        let a = keys-set (take (length os - 1) os) i (ordering_at os (length os - 1)) (omega (arith, length_front os i)) in
        let d : length (ordering_at (take (length os - 1) os) i) ≡ length (ordering_at os i) = ap length (get_or-take (length os - 1) os i [] b) in
        omega (arith, front)

-- what became of ordering i, held against ordering j
pub data Outcome (m : ℕ → ℕ → Bool) (os : List (List ℕ)) (i j : ℕ) : Resolved → Type 0 where
  free : overlap m (ordering_at os i) (ordering_at os j) ≡ None → Outcome m os i j apart
  part : (n : ℕ) → overlap m (ordering_at os i) (ordering_at os j) ≡ Some n → n + 1 < length (ordering_at os i) → Outcome m os i j (trimmed (shortened os i n))
  whole : (n : ℕ) → overlap m (ordering_at os i) (ordering_at os j) ≡ Some n → n + 1 ≡ length (ordering_at os i) → Outcome m os i j emptied

-- an overlap is no longer than the two orderings
pub overlap-below : (m : ℕ → ℕ → Bool) (a b : List ℕ) (n : ℕ) → overlap m a b ≡ Some n → n < min (length a) (length b)
unfolding overlap
overlap-below m a b n e = (first_some (λ k. meets m a b (k + 1)) (min (length a) (length b)) n e).below

-- it is one of the three
pub outcome : (m : ℕ → ℕ → Bool) (os : List (List ℕ)) (i j : ℕ) → Outcome m os i j (resolve m os i j)
unfolding resolve resolved_by
outcome m os i j = go (overlap m (ordering_at os i) (ordering_at os j)) refl
  where
    at : (n : ℕ) → overlap m (ordering_at os i) (ordering_at os j) ≡ Some n → (b : Bool) → eqb (n + 1) (length (ordering_at os i)) ≡ b → Outcome m os i j (if b then emptied else trimmed (shortened os i n))
    at n e true t = whole n e (eqb-true (n + 1) (length (ordering_at os i)) t)
    at n e false t =
        let l = overlap-below m (ordering_at os i) (ordering_at os j) n e in
        let d = eqb-false (n + 1) (length (ordering_at os i)) t in
        part n e (omega arith)

    go : (o : Option ℕ) → overlap m (ordering_at os i) (ordering_at os j) ≡ o → Outcome m os i j (resolved_by os i o)
    go None e = free e
    go (Some n) e = at n e (eqb (n + 1) (length (ordering_at os i))) refl

-- i against j and then j against i, where it is known what became of i
unfoldable pub compared_by : (ℕ → ℕ → Bool) → List (List ℕ) → ℕ → ℕ → Resolved → Compared
compared_by m os i j r =
    elim r [
      | apart ↦ second os j 0 (resolve m os j i)
      | trimmed ps ↦ second ps j 1 (resolve m ps j i)
      | emptied ↦ record { way = anew; cuts = 1; orderings = removed os i }
    ]

-- comparing is that
pub compared-by : (m : ℕ → ℕ → Bool) (os : List (List ℕ)) (i j : ℕ) → compared m os i j ≡ compared_by m os i j (resolve m os i j)
unfolding compared compared_by
compared-by m os i j = refl

-- how many orderings go
unfoldable pub goes : Way → ℕ
goes onward = 0
goes again = 1
goes anew = 1

-- what comparing leaves, after c cuts
pub record Left (os : List (List ℕ)) (c : ℕ) (r : Compared) : Type 0 where
  pub fewer : length r.orderings + goes r.way ≡ length os
  pub keys : keys_in r.orderings + r.cuts ≤ keys_in os + c

-- an ordering that loses its end loses a key
keys-shortened : (os : List (List ℕ)) (i n : ℕ) → i < length os → n < length (ordering_at os i) → keys_in (shortened os i n) + 1 ≤ keys_in os
keys-shortened os i n l b =
    let a = keys-set os i (take (length (ordering_at os i) - (n + 1)) (ordering_at os i)) l in
    let s = length-take-le (length (ordering_at os i) - (n + 1)) (ordering_at os i) (omega arith) in
    omega arith

module _ (m : ℕ → ℕ → Bool) where
  second-left : (os : List (List ℕ)) (i j c : ℕ) (r : Resolved) → j < length os → Outcome m os j i r → Left os c (second os j c r)
  unfolding second goes
  second-left os i j c apart b (free e) = record { fewer = omega arith; keys = omega arith }
  second-left os i j c (trimmed ps) b (part k e l) = record { fewer = omega (arith, length-shortened os j k); keys = omega (arith, keys-shortened os j k b (omega arith)) }
  second-left os i j c emptied b (whole k e l) = record { fewer = omega (arith, length_removed os j); keys = omega (arith, keys-removed os j b) }

  pub compared-left : (os : List (List ℕ)) (i j : ℕ) → i < length os → j < length os → Left os 0 (compared m os i j)
  unfolding compared_by goes
  compared-left os i j a b = rw (compared-by m os i j) (go (resolve m os i j) (outcome m os i j))
    where
      go : (r : Resolved) → Outcome m os i j r → Left os 0 (compared_by m os i j r)
      go apart (free e) = second-left os i j 0 (resolve m os j i) b (outcome m os j i)
      go (trimmed ps) (part k e l) =
          let s = length-shortened os i k in
          let r = second-left ps i j 1 (resolve m ps j i) (omega arith) (outcome m ps j i) in
          record { fewer = r.fewer ∙ s; keys = omega (arith, r.keys, keys-shortened os i k a (omega arith)) }
      go emptied (whole k e l) = record { fewer = omega (arith, length_removed os i); keys = omega (arith, keys-removed os i a) }
