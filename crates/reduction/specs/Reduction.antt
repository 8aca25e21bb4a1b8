-- Reduction, as `remove_redundant_entries` does it, over any match m of two keys. Cuts and passes are counted.
-- The text's three loops are counted down to end. Under each stands, proved, what it comes to; what counts down is exact or more than enough, and nothing after looks at it.
use Prim.Native.Nat.{ℕ, zero, suc, ◌+◌, ◌-◌, ◌<◌, ◌≤◌}
use Rattle.std.specs.Prelude.{Bool, true, false, List, ◌≡◌, eqb, ltb, if◌then◌else◌}
use Rattle.std.proofs.Math.Path.{refl, ap}
use Rattle.std.proofs.Common.{◌∙◌, add-one, lt-ltb, le-ltb, ltb-true, ne_eqb}
use Rattle.std.proofs.Math.Decide.{dec_lt}
use native.Mathlib.Omega.{arith}
use Rattle.std.proofs.lemmas.Bool.{eqb-false}
use Rattle.std.proofs.Math.ListN.{length}
use Rattle.reduction.specs.Fewer.{goes, Left, compared-left}
pub use Rattle.reduction.specs.Comparing.{Resolved, apart, trimmed, emptied, Way, onward, again, anew, Compared}
unfoldable pub use Rattle.reduction.specs.Comparing.{meets, overlap, removed, resolved_by, resolve, second, compared, keys_in}

-- what a loop came to: where the next one goes on, the cuts so far, and the orderings
pub record Turn : Type 0 where
  pub next : ℕ
  pub cuts : ℕ
  pub orderings : List (List ℕ)

-- ordering i against those from j on, n of them, after c cuts
unfoldable pub round_from : (ℕ → ℕ → Bool) → ℕ → List (List ℕ) → ℕ → ℕ → ℕ → Turn
round_from m zero os i j c = record { next = i + 1; cuts = c; orderings = os }
round_from m (suc n) os i j c =
    elim (compared m os i j).way [
      | onward ↦ round_from m n (compared m os i j).orderings i (j + 1) (c + (compared m os i j).cuts)
      | again ↦ round_from m n (compared m os i j).orderings i j (c + (compared m os i j).cuts)
      | anew ↦ record { next = i; cuts = c + (compared m os i j).cuts; orderings = (compared m os i j).orderings }
    ]

-- ordering i against those from j to the end: each comparing passes one or drops one, so there are as many as orderings from there on
unfoldable pub round_rest : (ℕ → ℕ → Bool) → List (List ℕ) → ℕ → ℕ → ℕ → Turn
round_rest m os i j c = round_from m (length os - j) os i j c

-- what it comes to: past the end, and by the way that one comparing went
module _ (m : ℕ → ℕ → Bool) (os : List (List ℕ)) (i j c : ℕ) where
  pub round_end : length os ≤ j → round_rest m os i j c ≡ record { next = i + 1; cuts = c; orderings = os }
  unfolding round_rest round_from
  round_end l = let e : length os - j ≡ 0 = omega arith in ap (λ (n : ℕ). round_from m n os i j c) e

  pub round-onward : i < j → j < length os → (compared m os i j).way ≡ onward
      → round_rest m os i j c ≡ round_rest m (compared m os i j).orderings i (j + 1) (c + (compared m os i j).cuts)
  unfolding round_rest round_from goes
  round-onward a l q =
      let s : length (compared m os i j).orderings + goes onward ≡ length os = rw q at (compared-left m os i j (omega arith) l).fewer in
      let e : length os - j ≡ suc (length (compared m os i j).orderings - (j + 1)) = omega arith in
      ap (λ (n : ℕ). round_from m n os i j c) e ∙ rw (q, round_from)

  pub round-again : i < j → j < length os → (compared m os i j).way ≡ again
      → round_rest m os i j c ≡ round_rest m (compared m os i j).orderings i j (c + (compared m os i j).cuts)
  unfolding round_rest round_from goes
  round-again a l q =
      let s : length (compared m os i j).orderings + goes again ≡ length os = rw q at (compared-left m os i j (omega arith) l).fewer in
      let e : length os - j ≡ suc (length (compared m os i j).orderings - j) = omega arith in
      ap (λ (n : ℕ). round_from m n os i j c) e ∙ rw (q, round_from)

  pub round-anew : j < length os → (compared m os i j).way ≡ anew
      → round_rest m os i j c ≡ record { next = i; cuts = c + (compared m os i j).cuts; orderings = (compared m os i j).orderings }
  unfolding round_rest round_from
  round-anew l q =
      let e : length os - j ≡ suc (length os - (j + 1)) = omega arith in
      ap (λ (n : ℕ). round_from m n os i j c) e ∙ rw (q, round_from)

-- ordering i against all after it
unfoldable pub round : (ℕ → ℕ → Bool) → List (List ℕ) → ℕ → ℕ → Turn
round m os i c = round_rest m os i (i + 1) c

-- what a round of ordering i leaves: fewer orderings are ahead, and for each cut there is at least one key fewer
pub record Rounded (os : List (List ℕ)) (i c : ℕ) (t : Turn) : Type 0 where
  pub ahead : length t.orderings + (i + 1) ≤ length os + t.next
  pub keys : keys_in t.orderings + t.cuts ≤ keys_in os + c

module _ (m : ℕ → ℕ → Bool) (i : ℕ) where
  rest-leaves : (n : ℕ) (os : List (List ℕ)) (j c : ℕ) → length os - j ≡ n → i < j → j ≤ length os → Rounded os i c (round_rest m os i j c)
  unfolding goes
  rest-leaves zero os j c e a l = rw (round_end m os i j c (omega arith)) (record { ahead = omega arith; keys = omega arith })
  rest-leaves (suc n) os j c e a l = go (compared m os i j).way refl (compared-left m os i j (omega arith) (omega arith)) (rest-leaves n)
    where
      d : Compared
      d = compared m os i j

      go : (w : Way) → (compared m os i j).way ≡ w → Left os 0 (compared m os i j)
          → ((ps : List (List ℕ)) (k c : ℕ) → length ps - k ≡ n → i < k → k ≤ length ps → Rounded ps i c (round_rest m ps i k c))
          → Rounded os i c (round_rest m os i j c)
      go onward q s f =
          let b : length d.orderings + goes onward ≡ length os = rw q at s.fewer in
          let r = f d.orderings (j + 1) (c + d.cuts) (omega arith) (omega arith) (omega arith) in
          rw (round-onward m os i j c a (omega arith) q) (record { ahead = omega (arith, r.ahead); keys = omega (arith, r.keys, s.keys) })
      go again q s f =
          let b : length d.orderings + goes again ≡ length os = rw q at s.fewer in
          let r = f d.orderings j (c + d.cuts) (omega arith) (omega arith) (omega arith) in
          rw (round-again m os i j c a (omega arith) q) (record { ahead = omega (arith, r.ahead); keys = omega (arith, r.keys, s.keys) })
      go anew q s f =
          let b : length d.orderings + goes anew ≡ length os = rw q at s.fewer in
          rw (round-anew m os i j c (omega arith) q) (record { ahead = omega arith; keys = omega (arith, s.keys) })

  pub round-leaves : (os : List (List ℕ)) (c : ℕ) → i < length os → Rounded os i c (round m os i c)
  unfolding round
  round-leaves os c l = rest-leaves (length os - (i + 1)) os (i + 1) c refl (omega arith) (omega arith)

-- one pass from ordering i on, for at most n rounds, after c cuts
unfoldable pub pass_from : (ℕ → ℕ → Bool) → ℕ → List (List ℕ) → ℕ → ℕ → Turn
pass_from m zero os i c = record { next = i; cuts = c; orderings = os }
pass_from m (suc n) os i c =
    if ltb i (length os) then pass_from m n (round m os i c).orderings (round m os i c).next (round m os i c).cuts
    else record { next = i; cuts = c; orderings = os }

-- one pass from ordering i to the end: each round passes one ordering or drops one, so there are at most as many as orderings
unfoldable pub pass_rest : (ℕ → ℕ → Bool) → List (List ℕ) → ℕ → ℕ → Turn
pass_rest m os i c = pass_from m (length os) os i c

-- what it comes to: past the end, and by one round
module _ (m : ℕ → ℕ → Bool) where
  -- all counts that are not below the orderings ahead come to the same
  pass-enough : (n k : ℕ) (os : List (List ℕ)) (i c : ℕ) → length os ≤ n + i → length os ≤ k + i → pass_from m n os i c ≡ pass_from m k os i c
  unfolding pass_from
  pass-enough zero zero os i c a b = refl
  pass-enough zero (suc k) os i c a b = rw (le-ltb i (length os) (omega arith))
  pass-enough (suc n) zero os i c a b = rw (le-ltb i (length os) (omega arith))
  pass-enough (suc n) (suc k) os i c a b = go (ltb i (length os)) refl (pass-enough n k (round m os i c).orderings (round m os i c).next (round m os i c).cuts)
    where
      r : Turn
      r = round m os i c

      next : Bool → ℕ → Turn
      next b x = if b then pass_from m x r.orderings r.next r.cuts else record { next = i; cuts = c; orderings = os }

      go : (b : Bool) → ltb i (length os) ≡ b
          → (length r.orderings ≤ n + r.next → length r.orderings ≤ k + r.next → pass_from m n r.orderings r.next r.cuts ≡ pass_from m k r.orderings r.next r.cuts)
          → next b n ≡ next b k
      go true e f =
          let s = round-leaves m i os c (ltb-true i (length os) e) in
          f (omega (arith, s.ahead)) (omega (arith, s.ahead))
      go false e f = refl

  pub pass_end : (os : List (List ℕ)) (i c : ℕ) → length os ≤ i → pass_rest m os i c ≡ record { next = i; cuts = c; orderings = os }
  unfolding pass_rest pass_from
  pass_end os i c l = pass-enough (length os) 0 os i c (omega arith) (omega arith)

  pub pass-round : (os : List (List ℕ)) (i c : ℕ) → i < length os
      → pass_rest m os i c ≡ pass_rest m (round m os i c).orderings (round m os i c).next (round m os i c).cuts
  unfolding pass_rest pass_from
  pass-round os i c l =
      let e : length os ≡ suc (length os - 1) = omega arith in
      let s = round-leaves m i os c l in
      ap (λ (n : ℕ). pass_from m n os i c) e ∙ rw (lt-ltb i (length os) l, pass_from)
      (pass-enough (length os - 1) (length (round m os i c).orderings) (round m os i c).orderings (round m os i c).next (round m os i c).cuts (omega (arith, s.ahead)) (omega arith))

-- one pass over all orderings
unfoldable pub pass : (ℕ → ℕ → Bool) → List (List ℕ) → Turn
pass m os = pass_rest m os 0 0

-- what a pass leaves: for each cut there is at least one key fewer
module _ (m : ℕ → ℕ → Bool) where
  rest_keys : (n : ℕ) (os : List (List ℕ)) (i c : ℕ) → length os ≤ n + i → keys_in (pass_rest m os i c).orderings + (pass_rest m os i c).cuts ≤ keys_in os + c
  rest_keys zero os i c l = rw (pass_end m os i c (omega arith)) (omega arith)
  rest_keys (suc n) os i c l = go (dec_lt i (length os)) (rest_keys n (round m os i c).orderings (round m os i c).next (round m os i c).cuts)
    where
      r : Turn
      r = round m os i c

      go : Dec (i < length os)
          → (length r.orderings ≤ n + r.next → keys_in (pass_rest m r.orderings r.next r.cuts).orderings + (pass_rest m r.orderings r.next r.cuts).cuts ≤ keys_in r.orderings + r.cuts)
          → keys_in (pass_rest m os i c).orderings + (pass_rest m os i c).cuts ≤ keys_in os + c
      go (yes a) f =
          let s = round-leaves m i os c a in
          rw (pass-round m os i c a) (omega (arith, f (omega (arith, s.ahead)), s.keys))
      go (no a) f = rw (pass_end m os i c (omega arith)) (omega arith)

  pub pass-keys : (os : List (List ℕ)) → keys_in (pass m os).orderings + (pass m os).cuts ≤ keys_in os
  unfolding pass
  pass-keys os = omega (arith, rest_keys (length os) os 0 0 (omega arith))

-- what reduction came to
pub record Reduced : Type 0 where
  pub orderings : List (List ℕ)
  pub cuts : ℕ
  pub passes : ℕ

-- passes until one cuts nothing, at most n, after c cuts and p passes
unfoldable pub passes_from : (ℕ → ℕ → Bool) → ℕ → List (List ℕ) → ℕ → ℕ → Reduced
passes_from m zero os c p = record { orderings = os; cuts = c; passes = p }
passes_from m (suc n) os c p =
    if eqb (pass m os).cuts 0 then record { orderings = (pass m os).orderings; cuts = c; passes = p + 1 }
    else passes_from m n (pass m os).orderings (c + (pass m os).cuts) (p + 1)

-- passes until one cuts nothing, after c cuts and p passes: a pass that cuts takes a key away, so there are at most as many passes as keys and one more
unfoldable pub passes_rest : (ℕ → ℕ → Bool) → List (List ℕ) → ℕ → ℕ → Reduced
passes_rest m os c p = passes_from m (keys_in os + 1) os c p

-- what it comes to: a pass that cuts nothing is the end; else it goes on with what the pass made
module _ (m : ℕ → ℕ → Bool) where
  -- all counts above the keys come to the same
  passes-enough : (n k : ℕ) (os : List (List ℕ)) (c p : ℕ) → keys_in os < n → keys_in os < k → passes_from m n os c p ≡ passes_from m k os c p
  unfolding passes_from
  passes-enough zero k os c p a b = absurd (omega arith)
  passes-enough (suc n) zero os c p a b = absurd (omega arith)
  passes-enough (suc n) (suc k) os c p a b = go (eqb (pass m os).cuts 0) refl (passes-enough n k (pass m os).orderings (c + (pass m os).cuts) (p + 1))
    where
      r : Turn
      r = pass m os

      next : Bool → ℕ → Reduced
      next b x = if b then record { orderings = r.orderings; cuts = c; passes = p + 1 } else passes_from m x r.orderings (c + r.cuts) (p + 1)

      go : (b : Bool) → eqb r.cuts 0 ≡ b
          → (keys_in r.orderings < n → keys_in r.orderings < k → passes_from m n r.orderings (c + r.cuts) (p + 1) ≡ passes_from m k r.orderings (c + r.cuts) (p + 1))
          → next b n ≡ next b k
      go true e f = refl
      go false e f =
          let q = eqb-false r.cuts 0 e in
          let s = pass-keys m os in
          f (omega arith) (omega arith)

  pub passes_end : (os : List (List ℕ)) (c p : ℕ) → (pass m os).cuts ≡ 0 → passes_rest m os c p ≡ record { orderings = (pass m os).orderings; cuts = c; passes = p + 1 }
  unfolding passes_rest passes_from
  passes_end os c p e = ap (λ (n : ℕ). passes_from m n os c p) (add-one (keys_in os)) ∙ rw (e, passes_from)

  pub passes_on : (os : List (List ℕ)) (c p : ℕ) → ((pass m os).cuts ≡ 0 → ⊥)
      → passes_rest m os c p ≡ passes_rest m (pass m os).orderings (c + (pass m os).cuts) (p + 1)
  unfolding passes_rest passes_from
  passes_on os c p e =
      let s = pass-keys m os in
      ap (λ (n : ℕ). passes_from m n os c p) (add-one (keys_in os)) ∙ rw (ne_eqb (pass m os).cuts 0 e, passes_from)
      (passes-enough (keys_in os) (keys_in (pass m os).orderings + 1) (pass m os).orderings (c + (pass m os).cuts) (p + 1) (omega arith) (omega arith))

-- reduction of a list
unfoldable pub reduced : (ℕ → ℕ → Bool) → List (List ℕ) → Reduced
reduced m os = passes_rest m os 0 0
