-- The orderings that are kept, turn by turn.
use Prim.Native.Nat.{ℕ, ◌+◌, ◌<◌, ◌≤◌}
use mathlib.Core.Bool.{Bool, true, false, not}
use mathlib.Core.List.{List, [], ◌∷◌, ◌++◌, append-nil}
use mathlib.Core.Path.{◌≡◌, refl, sym, ap, ◌∙◌, subst}
use native.Mathlib.Decide.{ℕ_discrete}
use native.Mathlib.Omega.{arith}
use borrow.Author.Tests.{ltb-true, ltb-false, leb-true, le-leb, lt-leb, lt-ltb, le-ltb}
use lib.Dec.{leb, ltb}
use lib.ListN.{length, get_or, set, length-append, length-set, length-replicate, get_or-append}
use lib.Seq.{get_or_at, get_or-set_same, get_or-set_other}
use Rattle.laws.specs.Tests.{each}
use Rattle.laws.proofs.Booleans.{true_not_false, and_left, and_right, and_both, and_fails_left, and_fails_right}
use Rattle.orderings.specs.Lists.{ordering_at}
use Rattle.orderings.specs.Layout.{row}
use Rattle.orderings.specs.Inner.{extended_of, all_short}
use Rattle.orderings.specs.declared.Ordering.{Ordering}
use Rattle.std.specs.Prelude.{Option, None, Some, Result, Ok, Err}
use Rattle.arena.specs.declared.Refusal.{Refusal}
use Rattle.orderings.proofs.Appending.{AllShort, short-test, test_short, long-test, short-more}
use Rattle.orderings.proofs.Extending.{fitting as row-fitting, unfitting}
use Rattle.enumeration.specs.Bounds.{fitting}
use Rattle.enumeration.specs.Inner.{Room, Rows, Emits, kept, none_found}
use Rattle.enumeration.specs.declared.Found.{Found}

-- no orderings have room
pub room-none : Room none_found
room-none = record { few = omega arith; long = length-replicate 1024 (row []) }

-- no orderings
pub rows_none : Rows none_found []
unfolding fitting each
rows_none = record { over = refl; count = λ e. refl; rows = λ e i l. absurd (omega arith) }

-- orderings within the bounds are at most 1,024
pub fitting-few : (os : List (List ℕ)) → fitting os ≡ true → length os ≤ 1024
unfolding fitting all_short
fitting-few os e = leb-true (length os) 1024 (and_left (leb (length os) 1024) (all_short os) e)

-- and have at most 16 keys each
pub fitting-short : (os : List (List ℕ)) → fitting os ≡ true → AllShort os
unfolding fitting all_short
fitting-short os e = test_short os (and_right (leb (length os) 1024) (all_short os) e)

-- such orderings are within the bounds
pub few-fitting : (os : List (List ℕ)) → length os ≤ 1024 → AllShort os → fitting os ≡ true
unfolding fitting all_short
few-fitting os l h = and_both (le-leb (length os) 1024 l) (short-test os h)

-- orderings that pass the bounds still do with one more
over-more : (os : List (List ℕ)) (o : List ℕ) → fitting os ≡ false → fitting (os ++ (o ∷ [])) ≡ false
over-more os o f = go (fitting (os ++ (o ∷ []))) refl
  where
    more : List (List ℕ)
    more = os ++ (o ∷ [])

    before : AllShort more → AllShort os
    before h i l =
        let e = ap (λ (q : List ℕ). length q) (get_or-append os (o ∷ []) [] i l) in
        omega (arith, h i (omega (arith, length-append os (o ∷ []))))

    go : (b : Bool) → fitting more ≡ b → fitting more ≡ false
    go true e = absurd (true_not_false (few-fitting os (omega (arith, fitting-few more e, length-append os (o ∷ []))) (before (fitting-short more e))) f)
    go false e = e

-- 1,024 orderings and one more pass the bounds
many-over : (os : List (List ℕ)) (o : List ℕ) → 1024 ≤ length os → fitting (os ++ (o ∷ [])) ≡ false
unfolding fitting all_short
many-over os o l = and_fails_left (leb (length (os ++ (o ∷ []))) 1024) (all_short (os ++ (o ∷ []))) (lt-leb (length (os ++ (o ∷ []))) 1024 (omega (arith, length-append os (o ∷ []))))

-- so do orderings with one more of over 16 keys
long-over : (os : List (List ℕ)) (o : List ℕ) → 16 < length o → fitting (os ++ (o ∷ [])) ≡ false
unfolding fitting all_short
long-over os o l =
    let here = ap (λ (q : List ℕ). length q) (get_or_at os o [] [] (length os) refl) in
    and_fails_right (leb (length (os ++ (o ∷ []))) 1024) (all_short (os ++ (o ∷ [])))
    (long-test (os ++ (o ∷ [])) (length os) (omega (arith, length-append os (o ∷ []))) (omega (arith, here)))

-- what is kept: an ordering for which there is room
kept_more : (f : Found) (o : Ordering) → f.count < 1024 → kept f (Some (Ok o)) ≡ record { over = f.over; count = f.count + 1; rows = set f.rows f.count o }
unfolding kept
kept_more f o l = rw (lt-ltb f.count 1024 l)

-- an ordering after 1,024
kept-many : (f : Found) (o : Ordering) → 1024 ≤ f.count → kept f (Some (Ok o)) ≡ record { over = true; count = f.count; rows = f.rows }
unfolding kept
kept-many f o l = rw (le-ltb f.count 1024 l)

-- one more, if there is one, keeps the room
pub room-kept : (f : Found) (leaf : Option (Result Ordering Refusal)) → Room f → Room (kept f leaf)
unfolding kept
room-kept f None r = r
room-kept f (Some (Err why)) r = record { few = r.few; long = r.long }
room-kept f (Some (Ok o)) r = go (ltb f.count 1024) refl
  where
    go : (b : Bool) → ltb f.count 1024 ≡ b → Room (kept f (Some (Ok o)))
    go true e = let l = ltb-true f.count 1024 e in subst Room (sym (kept_more f o l)) (record { few = omega arith; long = length-set f.rows f.count o ∙ r.long })
    go false e = subst Room (sym (kept-many f o (ltb-false f.count 1024 e))) (record { few = r.few; long = r.long })

-- orderings that pass the bounds, as their struct says
rows-over : (f : Found) (os : List (List ℕ)) → f.over ≡ true → fitting os ≡ false → Rows f os
rows-over f os e p = record {
  over = e ∙ sym (ap not p);
  count = λ q. absurd (true_not_false q p);
  rows = λ q i l. absurd (true_not_false q p);
}

-- one ordering more, as its row
module _ (f : Found) (os : List (List ℕ)) (o : List ℕ) (room : Room f) (rows : Rows f os) (p : fitting os ≡ true) where
  rows_more : f.count < 1024 → length o ≤ 16 → Rows (record { over = f.over; count = f.count + 1; rows = set f.rows f.count (row o) }) (os ++ (o ∷ []))
  rows_more l b = record {
    over = rows.over ∙ ap not (p ∙ sym fits);
    count = λ q. omega (arith, rows.count p, length-append os (o ∷ []));
    rows = λ q i k. at i k (ℕ_discrete i f.count);
  }
    where
      fits : fitting (os ++ (o ∷ [])) ≡ true
      fits = few-fitting (os ++ (o ∷ [])) (omega (arith, rows.count p, length-append os (o ∷ []))) (short-more os o (fitting-short os p) b)

      at : (i : ℕ) → i < length (os ++ (o ∷ [])) → Dec (i ≡ f.count) → get_or (set f.rows f.count (row o)) i (row []) ≡ row (ordering_at (os ++ (o ∷ [])) i)
      at i k (yes e) =
          ap (λ (j : ℕ). get_or (set f.rows f.count (row o)) j (row [])) e
          ∙ get_or-set_same f.rows f.count (row o) (row []) (omega (arith, room.long))
          ∙ sym (ap row (get_or_at os o [] [] i (sym (e ∙ rows.count p))))
      at i k (no e) =
          let b : i < length os = omega (arith, rows.count p, length-append os (o ∷ [])) in
          get_or-set_other f.rows f.count i (row o) (row []) e ∙ rows.rows p i b ∙ sym (ap row (get_or-append os (o ∷ []) [] i b))

-- one ordering more
rows-one : (f : Found) (r : Result Ordering Refusal) (os : List (List ℕ)) (o : List ℕ) → Room f → Rows f os → r ≡ extended_of o → Rows (kept f (Some r)) (os ++ (o ∷ []))
unfolding kept
rows-one f (Err why) os o room rows q = rows-over (kept f (Some (Err why))) (os ++ (o ∷ [])) refl (long-over os o (unfitting o why q).0)
rows-one f (Ok x) os o room rows q = go (ltb f.count 1024) refl (fitting os) refl
  where
    go : (a : Bool) → ltb f.count 1024 ≡ a → (b : Bool) → fitting os ≡ b → Rows (kept f (Some (Ok x))) (os ++ (o ∷ []))
    go true e true p =
        let w = row-fitting o x q in
        let l = ltb-true f.count 1024 e in
        subst (λ (g : Found). Rows g (os ++ (o ∷ []))) (sym (kept_more f x l))
        (subst (λ (r : Ordering). Rows (record { over = f.over; count = f.count + 1; rows = set f.rows f.count r }) (os ++ (o ∷ []))) (sym w.is) (rows_more f os o room rows p l w.few))
    go true e false p =
        rows-over (kept f (Some (Ok x))) (os ++ (o ∷ [])) (ap (λ (g : Found). g.over) (kept_more f x (ltb-true f.count 1024 e)) ∙ rows.over ∙ ap not p) (over-more os o p)
    go false e true p =
        let l = ltb-false f.count 1024 e in
        rows-over (kept f (Some (Ok x))) (os ++ (o ∷ [])) (ap (λ (g : Found). g.over) (kept-many f x l)) (many-over os o (omega (arith, rows.count p)))
    go false e false p =
        rows-over (kept f (Some (Ok x))) (os ++ (o ∷ [])) (ap (λ (g : Found). g.over) (kept-many f x (ltb-false f.count 1024 e))) (over-more os o p)

-- what a turn found stands behind what was there
pub rows-kept : (f : Found) (leaf : Option (Result Ordering Refusal)) (os ps : List (List ℕ)) → Room f → Rows f os → Emits leaf ps → Rows (kept f leaf) (os ++ ps)
unfolding kept
rows-kept f None os ps room rows emits = rw (emits.nothing refl, append-nil os) rows
rows-kept f (Some r) os ps room rows emits = let w = emits.one r refl in rw (w.1) (rows-one f r os w.0 room rows w.2)
