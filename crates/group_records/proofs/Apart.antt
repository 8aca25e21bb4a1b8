-- No number stands twice, by a table that holds a 1 for each number that was seen.
use Prim.Native.Nat.{ℕ, ◌+◌, ◌<◌}
use mathlib.Core.Bool.{true, false, not}
use mathlib.Core.List.{List}
use mathlib.Core.Path.{◌≡◌, sym, ap, ◌∙◌}
use native.Mathlib.Decide.{ℕ_discrete}
use native.Mathlib.Omega.{arith}
use borrow.Author.Tests.{ne_eqb, eq-eqb}
use lib.Dec.{eqb}
use lib.ListN.{length, get_or, set, replicate, length-set, length-replicate}
use lib.Seq.{get_or-set_same, get_or-set_other}
use Rattle.laws.proofs.Each.{each_all, each_fails}
use Rattle.classes.specs.Layout.{fresh}
use Rattle.classes.proofs.Numbers.{zeros-at}

-- a number stands among the first k
pub record Among (numbers : List ℕ) (k e : ℕ) : Type 0 where
  pub place : ℕ
  pub below : place < k
  pub is : get_or numbers place 0 ≡ e

-- a table marks the first k numbers, and no others
pub record Seen (numbers seen : List ℕ) (k : ℕ) : Type 0 where
  pub long : length seen ≡ 65536
  pub marked : (i : ℕ) → i < k → 0 < get_or seen (get_or numbers i 0) 0
  pub found : (e : ℕ) → 0 < get_or seen e 0 → Among numbers k e

-- at first none is marked
pub seen_none : (numbers : List ℕ) → Seen numbers (replicate 65536 0) 0
seen_none numbers =
    record {
      long = length-replicate {A = ℕ} 65536 0;
      marked = λ i l. absurd (omega arith);
      found = λ e l. absurd (omega (arith, l, zeros-at 65536 e));
    }

module _ (numbers seen : List ℕ) (k : ℕ) (s : Seen numbers seen k) where
  -- a number without a mark is new
  pub seen-fresh : get_or seen (get_or numbers k 0) 0 ≡ 0 → fresh numbers k ≡ true
  unfolding fresh
  seen-fresh z =
      each_all (λ i. not (eqb (get_or numbers i 0) (get_or numbers k 0))) k
      (λ i l. ap not (ne_eqb (get_or numbers i 0) (get_or numbers k 0) (λ e.
      let m : 0 < get_or seen (get_or numbers i 0) 0 = s.marked i l in
      let n : get_or seen (get_or numbers i 0) 0 ≡ get_or seen (get_or numbers k 0) 0 = ap (λ (x : ℕ). get_or seen x 0) e in
      omega arith)))

  -- one with a mark is not
  pub seen_stale : 0 < get_or seen (get_or numbers k 0) 0 → fresh numbers k ≡ false
  unfolding fresh
  seen_stale h =
      let f = s.found (get_or numbers k 0) h in
      each_fails (λ i. not (eqb (get_or numbers i 0) (get_or numbers k 0))) k f.place f.below (ap not (eq-eqb (get_or numbers f.place 0) (get_or numbers k 0) f.is))

  -- one more is marked
  pub seen_more : get_or numbers k 0 < 65536 → Seen numbers (set seen (get_or numbers k 0) 1) (k + 1)
  seen_more h = record { long = length-set seen (get_or numbers k 0) 1 ∙ s.long; marked = mark; found = find }
    where
      mark : (i : ℕ) → i < k + 1 → 0 < get_or (set seen (get_or numbers k 0) 1) (get_or numbers i 0) 0
      mark i l = at (ℕ_discrete (get_or numbers i 0) (get_or numbers k 0)) (ℕ_discrete i k)
        where
          at : Dec (get_or numbers i 0 ≡ get_or numbers k 0) → Dec (i ≡ k) → 0 < get_or (set seen (get_or numbers k 0) 1) (get_or numbers i 0) 0
          at (yes q) r =
              let e : get_or (set seen (get_or numbers k 0) 1) (get_or numbers i 0) 0 ≡ 1 = ap (λ (x : ℕ). get_or (set seen (get_or numbers k 0) 1) x 0) q ∙ get_or-set_same seen (get_or numbers k 0) 1 0 (omega (arith, h, s.long)) in
              omega arith
          at (no q) (yes r) = absurd (q (ap (λ (x : ℕ). get_or numbers x 0) r))
          at (no q) (no r) =
              let e : get_or (set seen (get_or numbers k 0) 1) (get_or numbers i 0) 0 ≡ get_or seen (get_or numbers i 0) 0 = get_or-set_other seen (get_or numbers k 0) (get_or numbers i 0) 1 0 q in
              omega (arith, e, s.marked i (omega arith))

      find : (e : ℕ) → 0 < get_or (set seen (get_or numbers k 0) 1) e 0 → Among numbers (k + 1) e
      find e p = at (ℕ_discrete e (get_or numbers k 0))
        where
          at : Dec (e ≡ get_or numbers k 0) → Among numbers (k + 1) e
          at (yes q) = record { place = k; below = omega arith; is = sym q }
          at (no q) =
              let o : get_or (set seen (get_or numbers k 0) 1) e 0 ≡ get_or seen e 0 = get_or-set_other seen (get_or numbers k 0) e 1 0 q in
              let f = s.found e (omega arith) in
              record { place = f.place; below = omega (arith, f.below); is = f.is }
