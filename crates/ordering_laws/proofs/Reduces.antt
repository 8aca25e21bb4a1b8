-- What reduction achieves, for any match m of two keys: it ends, no ordering then ends as another begins, each is a beginning of a given one, and a list that is reduced stays as it is. That a good list stays good stands in Kept.
use Prim.Native.Nat.{ℕ, zero, suc, ◌+◌, ◌-◌, ◌<◌, ◌≤◌}
use mathlib.Core.Bool.{Bool}
use mathlib.Core.List.{List, []}
use Rattle.std.specs.Prelude.{None}
use mathlib.Core.Path.{◌≡◌, refl, sym, ap, ◌∙◌, subst}
use native.Mathlib.Decide.{ℕ_discrete, dec_lt}
use native.Mathlib.Nat.{add-zero}
use native.Mathlib.Omega.{arith}
use lib.ListN.{length, take, drop, set, length-take}
use lib.Seq.{get_or-set_same, get_or-set_other, get_or-take, length-take-le, take-take, take-length}
use Rattle.orderings.specs.Ordering.{same_key}
use Rattle.orderings.specs.Lists.{ordering_at}
use Rattle.reduction.specs.Reduction.{overlap, removed, Resolved, apart, trimmed, emptied, resolved_by, resolve, Way, onward, again, anew, Compared, second, compared, Turn, round_rest, round_end, round-onward, round-again, round-anew, round, round-leaves, pass_rest, pass_end, pass-round, pass, pass-keys, keys_in, Reduced, passes_rest, passes_end, passes_on, reduced}
use Rattle.reduction.specs.Fewer.{shortened, length-shortened, length_removed, Outcome, free, part, whole, outcome, compared_by, compared-by, goes, Left, compared-left}
use Rattle.reduction.specs.Apart.{Apart}
use Rattle.ordering_laws.proofs.Overlaps.{apart-suffix}
use Rattle.reduction.proofs.Kept.{Cuts, begun, cut, gone, reduced-cuts, reduced-keys}

-- where ordering i went, each one left is one of the others
pub removed-from : (os : List (List ℕ)) (i k : ℕ) → i < length os → k < length os - 1
    → (j : ℕ) × (j < length os) × (j ≡ i → ⊥) × (ordering_at (removed os i) k ≡ ordering_at os j)
unfolding removed
removed-from os i k a b = at (ℕ_discrete k i)
  where
    short : length (take (length os - 1) os) ≡ length os - 1
    short = length-take-le (length os - 1) os (omega arith)

    at : Dec (k ≡ i) → (j : ℕ) × (j < length os) × (j ≡ i → ⊥) × (ordering_at (set (take (length os - 1) os) i (ordering_at os (length os - 1))) k ≡ ordering_at os j)
    at (yes q) =
        (length os - 1, omega arith, λ e. omega arith, rw q (get_or-set_same (take (length os - 1) os) i (ordering_at os (length os - 1)) [] (omega (arith, short))))
    at (no q) =
        (k, omega arith, q, get_or-set_other (take (length os - 1) os) i k (ordering_at os (length os - 1)) [] q ∙ get_or-take (length os - 1) os k [] b)

-- and each of the others is left
pub removed-to : (os : List (List ℕ)) (i j : ℕ) → i < length os → j < length os → (j ≡ i → ⊥)
    → (k : ℕ) × (k < length os - 1) × (ordering_at (removed os i) k ≡ ordering_at os j)
unfolding removed
removed-to os i j a b d = at (ℕ_discrete j (length os - 1))
  where
    short : length (take (length os - 1) os) ≡ length os - 1
    short = length-take-le (length os - 1) os (omega arith)

    at : Dec (j ≡ length os - 1) → (k : ℕ) × (k < length os - 1) × (ordering_at (set (take (length os - 1) os) i (ordering_at os (length os - 1))) k ≡ ordering_at os j)
    at (yes q) =
        (i, omega arith, get_or-set_same (take (length os - 1) os) i (ordering_at os (length os - 1)) [] (omega (arith, short)) ∙ ap (λ (x : ℕ). ordering_at os x) (sym q))
    at (no q) =
        (j, omega arith, get_or-set_other (take (length os - 1) os) i j (ordering_at os (length os - 1)) [] d ∙ get_or-take (length os - 1) os j [] (omega arith))

-- what comparing comes to that changes nothing, a round, and reduction
abbrev quiet : List (List ℕ) → Compared
quiet os = record { way = onward; cuts = 0; orderings = os }

abbrev turn : ℕ → ℕ → List (List ℕ) → Turn
turn i c os = record { next = i + 1; cuts = c; orderings = os }

abbrev once : List (List ℕ) → Reduced
once os = record { orderings = os; cuts = 0; passes = 1 }

module _ (m : ℕ → ℕ → Bool) where
  -- what holds of each given ordering, and of an ordering's beginnings with it, holds of each that is left
  pub cuts-each : (P : List ℕ → Type 0) → ((o : List ℕ) (n : ℕ) → P o → 0 < n → n ≤ length o → P (take n o)) → {os ps : List (List ℕ)} {c : ℕ} → Cuts m os ps c
      → ((k : ℕ) → k < length os → P (ordering_at os k)) → (k : ℕ) → k < length ps → P (ordering_at ps k)
  cuts-each P s begun h k a = h k a
  cuts-each P s (cut {ps = ps} t i j n f l) h k a = at (ℕ_discrete k i) (λ k b. cuts-each P s t h k b)
    where
      o : List ℕ
      o = ordering_at ps i

      at : Dec (k ≡ i) → ((k : ℕ) → k < length ps → P (ordering_at ps k)) → P (ordering_at (shortened ps i n) k)
      at (yes q) r = rw (q, get_or-set_same ps i (take (length o - (n + 1)) o) [] f.left) (s o (length o - (n + 1)) (r i f.left) (omega arith) (omega arith))
      at (no q) r = rw (get_or-set_other ps i k (take (length o - (n + 1)) o) [] q) (r k (omega (arith, length-shortened ps i n)))
  cuts-each P s (gone {ps = ps} t i j n f l) h k a =
      let w = removed-from ps i k f.left (omega (arith, length_removed ps i)) in
      subst P (sym w.3) (cuts-each P s t h w.0 w.1)

  -- each ordering that is left is a beginning of a given one
  pub cuts-prefix : {os ps : List (List ℕ)} {c : ℕ} → Cuts m os ps c
      → (i : ℕ) → i < length ps → (j : ℕ) × (n : ℕ) × (j < length os) × (ordering_at ps i ≡ take n (ordering_at os j))
  cuts-prefix {os} t =
      cuts-each (λ (o : List ℕ). (j : ℕ) × (n : ℕ) × (j < length os) × (o ≡ take n (ordering_at os j))) shorter t
      (λ k a. (k, length (ordering_at os k), a, sym (take-length (ordering_at os k))))
    where
      shorter : (o : List ℕ) (k : ℕ) (w : (j : ℕ) × (n : ℕ) × (j < length os) × (o ≡ take n (ordering_at os j))) → 0 < k → k ≤ length o
          → (j : ℕ) × (n : ℕ) × (j < length os) × (take k o ≡ take n (ordering_at os j))
      shorter o k w a b =
          let l = ap (λ (x : List ℕ). length x) w.3 ∙ length-take w.1 (ordering_at os w.0) in
          (w.0, k, w.2, ap (λ (x : List ℕ). take k x) w.3 ∙ take-take k w.1 (ordering_at os w.0) (omega arith))

  -- neither of two orderings ends as the other begins
  abbrev pub Free : List (List ℕ) → ℕ → ℕ → Type 0
  Free os i j = (overlap m (ordering_at os i) (ordering_at os j) ≡ None) × (overlap m (ordering_at os j) (ordering_at os i) ≡ None)

  -- comparing that cuts nothing: neither ends as the other begins, and the list stays as it is
  second_still : (os : List (List ℕ)) (i j c : ℕ) {r : Resolved} → Outcome m os j i r → (second os j c r).cuts ≡ c
      → (second os j c r ≡ record { way = onward; cuts = c; orderings = os }) × (overlap m (ordering_at os j) (ordering_at os i) ≡ None)
  unfolding second
  second_still os i j c (free e) z = (refl, e)
  second_still os i j c (part n e l) z = absurd (omega arith)
  second_still os i j c (whole n e l) z = absurd (omega arith)

  second_more : (os : List (List ℕ)) (j c : ℕ) (r : Resolved) → c ≤ (second os j c r).cuts
  unfolding second
  second_more os j c apart = omega arith
  second_more os j c (trimmed ps) = omega arith
  second_more os j c emptied = omega arith

  compared_still : (os : List (List ℕ)) (i j : ℕ) → (compared m os i j).cuts ≡ 0 → (compared m os i j ≡ quiet os) × Free os i j
  unfolding compared_by
  compared_still os i j = rw (compared-by m os i j) (go (outcome m os i j))
    where
      go : {r : Resolved} → Outcome m os i j r → (compared_by m os i j r).cuts ≡ 0 → (compared_by m os i j r ≡ quiet os) × Free os i j
      go (free e) z = let w = second_still os i j 0 (outcome m os j i) z in (w.0, (e, w.1))
      go (part n e l) z = absurd (omega (arith, second_more (shortened os i n) j 1 (resolve m (shortened os i n) j i)))
      go (whole n e l) z = absurd (omega arith)

  -- the other way round: where neither ends as the other begins, comparing changes nothing
  resolve-free : (os : List (List ℕ)) (i j : ℕ) → overlap m (ordering_at os i) (ordering_at os j) ≡ None → resolve m os i j ≡ apart
  unfolding resolve resolved_by
  resolve-free os i j e = rw e

  compared-free : (os : List (List ℕ)) (i j : ℕ) → Free os i j → compared m os i j ≡ quiet os
  unfolding compared_by second
  compared-free os i j f =
      compared-by m os i j ∙ ap (λ (r : Resolved). compared_by m os i j r) (resolve-free os i j f.0) ∙ ap (λ (r : Resolved). second os j 0 r) (resolve-free os j i f.1)

  -- a round that begins with comparing which changes nothing
  round-quiet : (os : List (List ℕ)) (i j c : ℕ) → i < j → j < length os → compared m os i j ≡ quiet os → round_rest m os i j c ≡ round_rest m os i (j + 1) c
  round-quiet os i j c a l e =
      round-onward m os i j c a l (ap (λ (s : Compared). s.way) e)
      ∙ ap (λ (s : Compared). round_rest m s.orderings i (j + 1) (c + s.cuts)) e ∙ ap (λ (d : ℕ). round_rest m os i (j + 1) d) (add-zero c)

  -- cuts are only added
  after_first : (n : ℕ) (os : List (List ℕ)) (i j c : ℕ) → length os - j ≡ suc n → i < j → ((ps : List (List ℕ)) (k d : ℕ) → length ps - k ≡ n → i < k → d ≤ (round_rest m ps i k d).cuts)
      → c + (compared m os i j).cuts ≤ (round_rest m os i j c).cuts
  unfolding goes
  after_first n os i j c e a h = go (compared m os i j).way refl (compared-left m os i j (omega arith) (omega arith))
    where
      d : Compared
      d = compared m os i j

      go : (w : Way) → (compared m os i j).way ≡ w → Left os 0 (compared m os i j) → c + (compared m os i j).cuts ≤ (round_rest m os i j c).cuts
      go onward q s =
          let b : length d.orderings + goes onward ≡ length os = rw q at s.fewer in
          rw (round-onward m os i j c a (omega arith) q) (h d.orderings (j + 1) (c + d.cuts) (omega arith) (omega arith))
      go again q s =
          let b : length d.orderings + goes again ≡ length os = rw q at s.fewer in
          rw (round-again m os i j c a (omega arith) q) (h d.orderings j (c + d.cuts) (omega arith) a)
      go anew q s = rw (round-anew m os i j c (omega arith) q) (omega arith)

  rest_more : (n : ℕ) (os : List (List ℕ)) (i j c : ℕ) → length os - j ≡ n → i < j → c ≤ (round_rest m os i j c).cuts
  rest_more zero os i j c e a = rw (round_end m os i j c (omega arith)) (omega arith)
  rest_more (suc n) os i j c e a = let h = after_first n os i j c e a (λ ps k d q b. rest_more n ps i k d q b) in omega arith

  round-more : (os : List (List ℕ)) (i c : ℕ) → c ≤ (round m os i c).cuts
  unfolding round
  round-more os i c = rest_more (length os - (i + 1)) os i (i + 1) c refl (omega arith)

  -- a round that cuts nothing: ordering i is apart from all that it was held against, and the list stays as it is
  rest_still : (n : ℕ) (os : List (List ℕ)) (i j c : ℕ) → length os - j ≡ n → i < j → (round_rest m os i j c).cuts ≡ c
      → (round_rest m os i j c ≡ turn i c os) × ((k : ℕ) → j ≤ k → k < length os → Free os i k)
  rest_still zero os i j c e a z = (round_end m os i j c (omega arith), λ k a b. absurd (omega arith))
  rest_still (suc n) os i j c e a z =
      let h = after_first n os i j c e a (λ ps k d q b. rest_more n ps i k d q b) in
      let w = compared_still os i j (omega arith) in
      let q = round-quiet os i j c a (omega arith) w.0 in
      let r = rest_still n os i (j + 1) c (omega arith) (omega arith) (ap (λ (t : Turn). t.cuts) (sym q) ∙ z) in
      (q ∙ r.0, λ k a b. at w.1 r.1 k a b (ℕ_discrete k j))
    where
      at : Free os i j → ((k : ℕ) → j + 1 ≤ k → k < length os → Free os i k) → (k : ℕ) → j ≤ k → k < length os → Dec (k ≡ j) → Free os i k
      at f g k a b (yes q) = rw q f
      at f g k a b (no q) = g k (omega arith) b

  round_still : (os : List (List ℕ)) (i c : ℕ) → (round m os i c).cuts ≡ c → (round m os i c ≡ turn i c os) × ((k : ℕ) → i < k → k < length os → Free os i k)
  unfolding round
  round_still os i c z = let w = rest_still (length os - (i + 1)) os i (i + 1) c refl (omega arith) z in (w.0, λ k a b. w.1 k (omega arith) b)

  -- the other way round
  rest-free : (n : ℕ) (os : List (List ℕ)) (i j c : ℕ) → length os - j ≡ n → i < j → ((k : ℕ) → j ≤ k → k < length os → Free os i k) → round_rest m os i j c ≡ turn i c os
  rest-free zero os i j c e a f = round_end m os i j c (omega arith)
  rest-free (suc n) os i j c e a f =
      round-quiet os i j c a (omega arith) (compared-free os i j (f j (omega arith) (omega arith)))
      ∙ rest-free n os i (j + 1) c (omega arith) (omega arith) (λ k a b. f k (omega arith) b)

  round-free : (os : List (List ℕ)) (i c : ℕ) → ((k : ℕ) → i < k → k < length os → Free os i k) → round m os i c ≡ turn i c os
  unfolding round
  round-free os i c f = rest-free (length os - (i + 1)) os i (i + 1) c refl (omega arith) (λ k a b. f k (omega arith) b)

  -- a pass: a round that changes nothing, and cuts are only added
  pass-quiet : (os : List (List ℕ)) (i c : ℕ) → i < length os → round m os i c ≡ turn i c os → pass_rest m os i c ≡ pass_rest m os (i + 1) c
  pass-quiet os i c l e = pass-round m os i c l ∙ ap (λ (t : Turn). pass_rest m t.orderings t.next t.cuts) e

  pass-more : (n : ℕ) (os : List (List ℕ)) (i c : ℕ) → length os ≤ n + i → c ≤ (pass_rest m os i c).cuts
  pass-more zero os i c h = rw (pass_end m os i c (omega arith)) (omega arith)
  pass-more (suc n) os i c h = go (dec_lt i (length os)) (pass-more n (round m os i c).orderings (round m os i c).next (round m os i c).cuts)
    where
      r : Turn
      r = round m os i c

      go : Dec (i < length os) → (length r.orderings ≤ n + r.next → r.cuts ≤ (pass_rest m r.orderings r.next r.cuts).cuts)
          → c ≤ (pass_rest m os i c).cuts
      go (yes l) f = rw (pass-round m os i c l) (omega (arith, f (omega (arith, (round-leaves m i os c l).ahead)), round-more os i c))
      go (no l) f = rw (pass_end m os i c (omega arith)) (omega arith)

  -- a pass from ordering i on that cuts nothing: all from i on are apart, and the list stays as it is
  pass_from_still : (n : ℕ) (os : List (List ℕ)) (i c : ℕ) → length os ≤ n + i → (pass_rest m os i c).cuts ≡ c
      → ((pass_rest m os i c).orderings ≡ os) × ((a b : ℕ) → i ≤ a → a < b → b < length os → Free os a b)
  pass_from_still zero os i c t z = (ap (λ (t : Turn). t.orderings) (pass_end m os i c (omega arith)), λ a b h l d. absurd (omega arith))
  pass_from_still (suc n) os i c t z = go (dec_lt i (length os)) (pass_from_still n os (i + 1) c)
    where
      at : ((k : ℕ) → i < k → k < length os → Free os i k) → ((a b : ℕ) → i + 1 ≤ a → a < b → b < length os → Free os a b)
          → (a b : ℕ) → i ≤ a → a < b → b < length os → Dec (a ≡ i) → Free os a b
      at f g a b h l d (yes q) = rw q (f b (omega arith) d)
      at f g a b h l d (no q) = g a b (omega arith) l d

      go : Dec (i < length os) → (length os ≤ n + (i + 1) → (pass_rest m os (i + 1) c).cuts ≡ c → ((pass_rest m os (i + 1) c).orderings ≡ os) × ((a b : ℕ) → i + 1 ≤ a → a < b → b < length os → Free os a b))
          → ((pass_rest m os i c).orderings ≡ os) × ((a b : ℕ) → i ≤ a → a < b → b < length os → Free os a b)
      go (yes l) f =
          let u = ap (λ (t : Turn). t.cuts) (pass-round m os i c l) in
          let s = round-leaves m i os c l in
          let h = pass-more n (round m os i c).orderings (round m os i c).next (round m os i c).cuts (omega (arith, s.ahead)) in
          let k = round-more os i c in
          let w = round_still os i c (omega arith) in
          let q = pass-quiet os i c l w.0 in
          let r = f (omega arith) (ap (λ (t : Turn). t.cuts) (sym q) ∙ z) in
          (ap (λ (t : Turn). t.orderings) q ∙ r.0, λ a b h l d. at w.1 r.1 a b h l d (ℕ_discrete a i))
      go (no e) f = (ap (λ (t : Turn). t.orderings) (pass_end m os i c (omega arith)), λ a b h l d. absurd (omega arith))

  -- the other way round
  pass_from-free : (n : ℕ) (os : List (List ℕ)) (i c : ℕ) → length os ≤ n + i → Apart m os → ((pass_rest m os i c).orderings ≡ os) × ((pass_rest m os i c).cuts ≡ c)
  pass_from-free zero os i c t f =
      let q = pass_end m os i c (omega arith) in
      (ap (λ (t : Turn). t.orderings) q, ap (λ (t : Turn). t.cuts) q)
  pass_from-free (suc n) os i c t f = go (dec_lt i (length os)) (pass_from-free n os (i + 1) c (omega arith) f)
    where
      go : Dec (i < length os) → ((pass_rest m os (i + 1) c).orderings ≡ os) × ((pass_rest m os (i + 1) c).cuts ≡ c)
          → ((pass_rest m os i c).orderings ≡ os) × ((pass_rest m os i c).cuts ≡ c)
      go (yes l) r =
          let w = round-free os i c (λ k a b. (f i k l b (λ e. omega arith), f k i b l (λ e. omega arith))) in
          let q = pass-quiet os i c l w in
          (ap (λ (t : Turn). t.orderings) q ∙ r.0, ap (λ (t : Turn). t.cuts) q ∙ r.1)
      go (no l) r =
          let q = pass_end m os i c (omega arith) in
          (ap (λ (t : Turn). t.orderings) q, ap (λ (t : Turn). t.cuts) q)

  -- a pass that cuts nothing leaves the list as it is, and all its orderings are apart
  pub pass_still : (os : List (List ℕ)) → (pass m os).cuts ≡ 0 → ((pass m os).orderings ≡ os) × Apart m os
  unfolding pass
  pass_still os z = let w = pass_from_still (length os) os 0 0 (omega arith) z in (w.0, λ i j a b d. go w.1 i j a b d (dec_lt i j))
    where
      go : ((a b : ℕ) → 0 ≤ a → a < b → b < length os → Free os a b) → (i j : ℕ) → i < length os → j < length os → (i ≡ j → ⊥) → Dec (i < j)
          → overlap m (ordering_at os i) (ordering_at os j) ≡ None
      go f i j a b d (yes l) = (f i j (omega arith) l b).0
      go f i j a b d (no l) = (f j i (omega arith) (omega arith) a).1

  pub pass-free : (os : List (List ℕ)) → Apart m os → ((pass m os).orderings ≡ os) × ((pass m os).cuts ≡ 0)
  unfolding pass
  pass-free os f = pass_from-free (length os) os 0 0 (omega arith) f

  -- reduction ends with a pass that cuts nothing, since each other takes a key away
  passes-apart : (n : ℕ) (os : List (List ℕ)) (c p : ℕ) → keys_in os < n → Apart m (passes_rest m os c p).orderings
  passes-apart zero os c p h = absurd (omega arith)
  passes-apart (suc n) os c p h = go (ℕ_discrete (pass m os).cuts 0) (passes-apart n (pass m os).orderings (c + (pass m os).cuts) (p + 1))
    where
      go : Dec ((pass m os).cuts ≡ 0) → (keys_in (pass m os).orderings < n → Apart m (passes_rest m (pass m os).orderings (c + (pass m os).cuts) (p + 1)).orderings)
          → Apart m (passes_rest m os c p).orderings
      go (yes z) f = let w = pass_still os z in subst (λ (ps : List (List ℕ)). Apart m ps) (sym (ap (λ (r : Reduced). r.orderings) (passes_end m os c p z) ∙ w.0)) w.1
      go (no z) f =
          subst (λ (ps : List (List ℕ)). Apart m ps) (sym (ap (λ (r : Reduced). r.orderings) (passes_on m os c p z))) (f (omega (arith, pass-keys m os)))

  passes-few : (n : ℕ) (os : List (List ℕ)) (c p : ℕ) → keys_in os < n → (passes_rest m os c p).passes ≤ p + n
  passes-few zero os c p l = absurd (omega arith)
  passes-few (suc n) os c p l = go (ℕ_discrete (pass m os).cuts 0) (passes-few n (pass m os).orderings (c + (pass m os).cuts) (p + 1))
    where
      go : Dec ((pass m os).cuts ≡ 0) → (keys_in (pass m os).orderings < n → (passes_rest m (pass m os).orderings (c + (pass m os).cuts) (p + 1)).passes ≤ p + 1 + n)
          → (passes_rest m os c p).passes ≤ p + suc n
      go (yes z) f = rw (passes_end m os c p z) (omega arith)
      go (no z) f = rw (passes_on m os c p z) (omega (arith, f (omega (arith, pass-keys m os))))

  -- afterwards no nonempty suffix of one ordering is a prefix of another
  pub reduced-apart : (os : List (List ℕ)) → Apart m (reduced m os).orderings
  unfolding reduced
  reduced-apart os = passes-apart (keys_in os + 1) os 0 0 (omega arith)

  -- every ordering of the result is a prefix of a given one
  pub reduced-prefix : (os : List (List ℕ)) (i : ℕ) → i < length (reduced m os).orderings
      → (j : ℕ) × (n : ℕ) × (j < length os) × (ordering_at (reduced m os).orderings i ≡ take n (ordering_at os j))
  reduced-prefix os = cuts-prefix (reduced-cuts m os)

  -- cuts are at most the keys that went in less those that came out, and passes at most the keys that went in and one
  pub cuts_bound : (os : List (List ℕ)) → (reduced m os).cuts ≤ keys_in os - keys_in (reduced m os).orderings
  cuts_bound os = omega (arith, reduced-keys m os)

  pub passes_bound : (os : List (List ℕ)) → (reduced m os).passes ≤ keys_in os + 1
  unfolding reduced
  passes_bound os = omega (arith, passes-few (keys_in os + 1) os 0 0 (omega arith))

  -- reducing a list whose orderings are apart changes nothing, in one pass without a cut
  pub apart-reduced : (os : List (List ℕ)) → Apart m os → reduced m os ≡ record { orderings = os; cuts = 0; passes = 1 }
  unfolding reduced
  apart-reduced os f =
      let w = pass-free os f in
      passes_end m os 0 0 w.1 ∙ ap (λ (ps : List (List ℕ)). once ps) w.0

  -- so reducing a reduced list changes nothing
  pub reduced-again : (os : List (List ℕ)) → reduced m (reduced m os).orderings ≡ record { orderings = (reduced m os).orderings; cuts = 0; passes = 1 }
  reduced-again os = apart-reduced (reduced m os).orderings (reduced-apart os)

-- for the same keys, in plain words: after reduction no nonempty suffix of one ordering is a prefix of another
pub reduced_no_suffix : (os : List (List ℕ)) (i j n : ℕ) → i < length (reduced same_key os).orderings → j < length (reduced same_key os).orderings → (i ≡ j → ⊥)
    → 0 < n → n ≤ length (ordering_at (reduced same_key os).orderings i) → n ≤ length (ordering_at (reduced same_key os).orderings j)
    → drop (length (ordering_at (reduced same_key os).orderings i) - n) (ordering_at (reduced same_key os).orderings i) ≡ take n (ordering_at (reduced same_key os).orderings j) → ⊥
reduced_no_suffix os = apart-suffix (reduced same_key os).orderings (reduced-apart same_key os)
