-- The trace of a reduction: the cuts that lead from one list of orderings to another. Each keeps a list good and takes a key away.
use Prim.Native.Nat.{ℕ, zero, suc, ◌+◌, ◌-◌, ◌<◌, ◌≤◌}
use mathlib.Core.Bool.{Bool}
use mathlib.Core.List.{List, []}
use Rattle.std.specs.Prelude.{Some}
use mathlib.Core.Path.{◌≡◌, refl, sym, ap, ◌∙◌}
use native.Mathlib.Decide.{ℕ_discrete, dec_lt}
use native.Mathlib.Omega.{arith}
use lib.ListN.{length, take, set, length-set}
use lib.Seq.{length-take-le, get_or-take, get_or-set_same, get_or-set_other}
use Rattle.orderings.specs.Ordering.{expr_of}
use Rattle.orderings.specs.Lists.{ordering_at}
use Rattle.reduction.specs.Reduction.{overlap, removed, Resolved, apart, trimmed, emptied, resolve, Way, onward, again, anew, Compared, second, compared, Turn, round_rest, round_end, round-onward, round-again, round-anew, round, round-leaves, pass_rest, pass_end, pass-round, pass, pass-keys, keys_in, passes_rest, passes_end, passes_on, reduced}
use Rattle.reduction.specs.Fewer.{shortened, keys-set, length-shortened, keys-removed, Outcome, free, part, whole, outcome, compared_by, compared-by, goes, Left, compared-left}
use Rattle.orderings.specs.Good.{GoodOrdering, Good}

-- two orderings of a list, of which the first ends with n + 1 keys that begin the second
pub record Overlapping (m : ℕ → ℕ → Bool) (os : List (List ℕ)) (i j n : ℕ) : Type 0 where
  pub left : i < length os
  pub right : j < length os
  pub two : i ≡ j → ⊥
  pub overlaps : overlap m (ordering_at os i) (ordering_at os j) ≡ Some n

-- from os to another list by a number of cuts
pub data Cuts (m : ℕ → ℕ → Bool) (os : List (List ℕ)) : List (List ℕ) → ℕ → Type 0 where
  begun : Cuts m os os 0
  cut : {ps : List (List ℕ)} {c : ℕ} → Cuts m os ps c → (i j n : ℕ) → Overlapping m ps i j n → n + 1 < length (ordering_at ps i) → Cuts m os (shortened ps i n) (c + 1)
  gone : {ps : List (List ℕ)} {c : ℕ} → Cuts m os ps c → (i j n : ℕ) → Overlapping m ps i j n → n + 1 ≡ length (ordering_at ps i) → Cuts m os (removed ps i) (c + 1)

-- what is in a good list is kept by cutting and by removing
pub good-take : (o : List ℕ) (n : ℕ) → GoodOrdering o → 0 < n → n ≤ length o → GoodOrdering (take n o)
good-take o n g l b =
    let e = length-take-le n o b in
    record {
      filled = omega arith;
      few = omega (arith, g.few);
      distinct = λ i j s t same.
          let t' : j < n = omega arith in
          let a = get_or-take n o i 0 (omega arith) in
          let z = get_or-take n o j 0 t' in
          g.distinct i j s (omega arith) (ap expr_of (sym a) ∙ same ∙ ap expr_of z);
    }

-- an ordering becomes another
module _ (os : List (List ℕ)) (i : ℕ) where
  pub good-set : (o : List ℕ) → Good os → GoodOrdering o → Good (set os i o)
  good-set o g h = record { few = omega (arith, length-set os i o, g.few); each = λ k l. at k (omega (arith, length-set os i o)) (ℕ_discrete k i) }
    where
      at : (k : ℕ) → k < length os → Dec (k ≡ i) → GoodOrdering (ordering_at (set os i o) k)
      at k l (yes e) = rw (e, get_or-set_same os i o [] (omega arith)) h
      at k l (no e) = rw (get_or-set_other os i k o [] e) (g.each k l)

-- a good list stays good where an ordering goes
good-front : (os : List (List ℕ)) (n : ℕ) → n ≤ length os → Good os → Good (take n os)
good-front os n l g =
    let e = length-take-le n os l in
    record { few = omega (arith, g.few); each = λ k b. rw (get_or-take n os k [] (omega arith)) (g.each k (omega arith)) }

pub good-removed : (os : List (List ℕ)) (i : ℕ) → 0 < length os → Good os → Good (removed os i)
unfolding removed
good-removed os i l g =
    good-set (take (length os - 1) os) i (ordering_at os (length os - 1)) (good-front os (length os - 1) (omega arith) g) (g.each (length os - 1) (omega arith))

-- a trace: a good list stays good, and each cut takes at least one key
pub cuts-good : {m : ℕ → ℕ → Bool} {os ps : List (List ℕ)} {c : ℕ} → Cuts m os ps c → Good os → Good ps
cuts-good begun g = g
cuts-good (cut {ps} t i j n o l) g =
    let h = cuts-good t g in
    good-set ps i (take (length (ordering_at ps i) - (n + 1)) (ordering_at ps i)) h
    (good-take (ordering_at ps i) (length (ordering_at ps i) - (n + 1)) (h.each i o.left) (omega arith) (omega arith))
cuts-good (gone {ps} t i j n o e) g = good-removed ps i (omega (arith, o.left)) (cuts-good t g)

pub cuts-keys : {m : ℕ → ℕ → Bool} {os ps : List (List ℕ)} {c : ℕ} → Cuts m os ps c → keys_in ps + c ≤ keys_in os
cuts-keys begun = omega arith
cuts-keys (cut {ps} t i j n o l) =
    let a = keys-set ps i (take (length (ordering_at ps i) - (n + 1)) (ordering_at ps i)) o.left in
    let b = length-take-le (length (ordering_at ps i) - (n + 1)) (ordering_at ps i) (omega arith) in
    omega (arith, cuts-keys t)
cuts-keys (gone {ps} t i j n o e) = omega (arith, cuts-keys t, keys-removed ps i o.left)

-- one trace after another
pub cuts-on : {m : ℕ → ℕ → Bool} {os ps qs : List (List ℕ)} {c d : ℕ} → Cuts m os ps c → Cuts m ps qs d → Cuts m os qs (c + d)
cuts-on {c = c} t begun = let e : c ≡ c + 0 = omega arith in rw e at t
cuts-on {c = c} t (cut {c = d} u i j n o l) = let e : c + d + 1 ≡ c + (d + 1) = omega arith in rw e at (cut (cuts-on t u) i j n o l)
cuts-on {c = c} t (gone {c = d} u i j n o l) = let e : c + d + 1 ≡ c + (d + 1) = omega arith in rw e at (gone (cuts-on t u) i j n o l)

-- the trace goes on with what comparing leaves
module _ (m : ℕ → ℕ → Bool) (o : List (List ℕ)) where
  -- j against i, after c cuts before this comparing and d in it
  second-step : (os : List (List ℕ)) (i j c d : ℕ) (r : Resolved) → Cuts m o os (c + d) → i < length os → j < length os → (j ≡ i → ⊥) → Outcome m os j i r → Cuts m o (second os j d r).orderings (c + (second os j d r).cuts)
  unfolding second
  second-step os i j c d apart t a b n (free e) = t
  second-step os i j c d (trimmed ps) t a b n (part k e l) =
      let s : c + d + 1 ≡ c + (d + 1) = omega arith in
      rw s at (cut t j i k (record { left = b; right = a; two = n; overlaps = e }) l)
  second-step os i j c d emptied t a b n (whole k e l) =
      let s : c + d + 1 ≡ c + (d + 1) = omega arith in
      rw s at (gone t j i k (record { left = b; right = a; two = n; overlaps = e }) l)

  pub compared-step : (os : List (List ℕ)) (i j c : ℕ) → Cuts m o os c → i < length os → j < length os → (i ≡ j → ⊥) → Cuts m o (compared m os i j).orderings (c + (compared m os i j).cuts)
  unfolding compared_by
  compared-step os i j c t a b n = rw (compared-by m os i j) (go (resolve m os i j) (outcome m os i j))
    where
      back : j ≡ i → ⊥
      back e = n (sym e)

      z : c ≡ c + 0
      z = omega arith

      go : (r : Resolved) → Outcome m os i j r → Cuts m o (compared_by m os i j r).orderings (c + (compared_by m os i j r).cuts)
      go apart (free e) = second-step os i j c 0 (resolve m os j i) (rw z at t) a b back (outcome m os j i)
      go (trimmed ps) (part k e l) =
          let s = length-shortened os i k in
          second-step ps i j c 1 (resolve m ps j i) (cut t i j k (record { left = a; right = b; two = n; overlaps = e }) l) (omega arith) (omega arith) back (outcome m ps j i)
      go emptied (whole k e l) = gone t i j k (record { left = a; right = b; two = n; overlaps = e }) l

  -- and with what a round leaves
  rest-trace : (n : ℕ) (os : List (List ℕ)) (i j c : ℕ) → length os - j ≡ n → Cuts m o os c → i < j → Cuts m o (round_rest m os i j c).orderings (round_rest m os i j c).cuts
  unfolding goes
  rest-trace zero os i j c e t a = rw (round_end m os i j c (omega arith)) t
  rest-trace (suc n) os i j c e t a =
      go (compared m os i j).way refl (compared-left m os i j (omega arith) (omega arith))
      (compared-step os i j c t (omega arith) (omega arith) (λ e. absurd (omega arith))) (rest-trace n)
    where
      d : Compared
      d = compared m os i j

      go : (w : Way) → (compared m os i j).way ≡ w → Left os 0 (compared m os i j) → Cuts m o (compared m os i j).orderings (c + (compared m os i j).cuts)
          → ((ps : List (List ℕ)) (i j c : ℕ) → length ps - j ≡ n → Cuts m o ps c → i < j → Cuts m o (round_rest m ps i j c).orderings (round_rest m ps i j c).cuts)
          → Cuts m o (round_rest m os i j c).orderings (round_rest m os i j c).cuts
      go onward q s u f =
          let b : length d.orderings + goes onward ≡ length os = rw q at s.fewer in
          rw (round-onward m os i j c a (omega arith) q) (f d.orderings i (j + 1) (c + d.cuts) (omega arith) u (omega arith))
      go again q s u f =
          let b : length d.orderings + goes again ≡ length os = rw q at s.fewer in
          rw (round-again m os i j c a (omega arith) q) (f d.orderings i j (c + d.cuts) (omega arith) u a)
      go anew q s u f = rw (round-anew m os i j c (omega arith) q) u

  pub round-trace : (os : List (List ℕ)) (i c : ℕ) → Cuts m o os c → Cuts m o (round m os i c).orderings (round m os i c).cuts
  unfolding round
  round-trace os i c t = rest-trace (length os - (i + 1)) os i (i + 1) c refl t (omega arith)

  -- and with what a pass leaves
  pass-trace : (n : ℕ) (os : List (List ℕ)) (i c : ℕ) → length os ≤ n + i → Cuts m o os c → Cuts m o (pass_rest m os i c).orderings (pass_rest m os i c).cuts
  pass-trace zero os i c l t = rw (pass_end m os i c (omega arith)) t
  pass-trace (suc n) os i c l t = go (dec_lt i (length os)) (pass-trace n (round m os i c).orderings (round m os i c).next (round m os i c).cuts)
    where
      r : Turn
      r = round m os i c

      go : Dec (i < length os)
          → (length r.orderings ≤ n + r.next → Cuts m o r.orderings r.cuts → Cuts m o (pass_rest m r.orderings r.next r.cuts).orderings (pass_rest m r.orderings r.next r.cuts).cuts)
          → Cuts m o (pass_rest m os i c).orderings (pass_rest m os i c).cuts
      go (yes a) f = rw (pass-round m os i c a) (f (omega (arith, (round-leaves m i os c a).ahead)) (round-trace os i c t))
      go (no a) f = rw (pass_end m os i c (omega arith)) t

-- a pass is a trace
pub pass-cuts : (m : ℕ → ℕ → Bool) (os : List (List ℕ)) → Cuts m os (pass m os).orderings (pass m os).cuts
unfolding pass
pass-cuts m os = pass-trace m os (length os) os 0 0 (omega arith) begun

module _ (m : ℕ → ℕ → Bool) (o : List (List ℕ)) where
  passes-trace : (n : ℕ) (os : List (List ℕ)) (c p : ℕ) → keys_in os < n → Cuts m o os c → Cuts m o (passes_rest m os c p).orderings (passes_rest m os c p).cuts
  passes-trace zero os c p l t = absurd (omega arith)
  passes-trace (suc n) os c p l t = go (ℕ_discrete (pass m os).cuts 0) (passes-trace n (pass m os).orderings (c + (pass m os).cuts) (p + 1))
    where
      r : Turn
      r = pass m os

      all : Cuts m o r.orderings (c + r.cuts)
      all = cuts-on t (pass-cuts m os)

      go : Dec ((pass m os).cuts ≡ 0)
          → (keys_in r.orderings < n → Cuts m o r.orderings (c + r.cuts) → Cuts m o (passes_rest m r.orderings (c + r.cuts) (p + 1)).orderings (passes_rest m r.orderings (c + r.cuts) (p + 1)).cuts)
          → Cuts m o (passes_rest m os c p).orderings (passes_rest m os c p).cuts
      go (yes z) f =
          let s : c + r.cuts ≡ c = omega arith in
          rw (passes_end m os c p z) (rw s at all)
      go (no z) f = rw (passes_on m os c p z) (f (omega (arith, pass-keys m os)) all)

-- reduction is a trace
pub reduced-cuts : (m : ℕ → ℕ → Bool) (os : List (List ℕ)) → Cuts m os (reduced m os).orderings (reduced m os).cuts
unfolding reduced
reduced-cuts m os = passes-trace m os (keys_in os + 1) os 0 0 (omega arith) begun

-- a good list stays good, and reduction takes at least one key a cut
pub reduced-good : (m : ℕ → ℕ → Bool) (os : List (List ℕ)) → Good os → Good (reduced m os).orderings
reduced-good m os g = cuts-good (reduced-cuts m os) g

pub reduced-keys : (m : ℕ → ℕ → Bool) (os : List (List ℕ)) → keys_in (reduced m os).orderings + (reduced m os).cuts ≤ keys_in os
reduced-keys m os = cuts-keys (reduced-cuts m os)
