-- The account of pairs: what a mark says, and how many places are left without one.
use Rattle.std.specs.Prelude.{if◌then◌else◌, Option, None, Some, unwrap_or}
use Rattle.std.specs.Option.{MatchOption}
use Prim.Native.Nat.{ℕ, zero, suc, ◌+◌, ◌*◌, ◌<◌, ◌≤◌}
use mathlib.Core.Bool.{Bool, true, false, ◌&&◌, ◌||◌}
use mathlib.Core.List.{List, [], ◌∷◌, ◌++◌}
use mathlib.Core.Path.{◌≡◌, refl, sym, ap, ap₂, ◌∙◌}
use native.Mathlib.Decide.{ℕ_discrete, dec_lt}
use native.Mathlib.Omega.{arith}
use borrow.Author.Tests.{eqb-true, eq-eqb}
use denote.Laws.{Is}
use mir.Val.{Val}
use lib.Dec.{eqb}
use lib.ListN.{length, get_or, set, replicate, length-set, length-replicate, get_or-replicate, get_or-eq_default}
use lib.Seq.{get_or-set_same, get_or-set_other}
use Rattle.laws.specs.Lists.{table}
use Rattle.laws.proofs.Booleans.{same_test}
use Rattle.laws.proofs.Table.{length-table, get_or-table, table_is}
use Rattle.orderings.proofs.Codec.{get_d_any}
use Rattle.dependencies.specs.Layout.{place_in}
use Rattle.dependencies.specs.Inner.{Held}
use Rattle.dependencies.specs.declared.DependencyNode.{DependencyNode}
use Rattle.dependencies.specs.declared.DependencyMap.{DependencyMap}
use Rattle.dependencies.proofs.MapChecks.{no_place, read_is}
use Rattle.enumeration.specs.Walk.{is_seen}
use Rattle.enumeration.specs.Inner.{unmarked, seen_at, told, fresh, hits, marked_node, marked, open_of, open_in, left, Opened, Walking, Told}
use Rattle.enumeration.specs.declared.Frame.{Frame}
use Rattle.enumeration.specs.declared.Seen.{Seen}
use Rattle.enumeration.specs.declared.DependencyEnumerator.{DependencyEnumerator}
use Rattle.enumeration.specs.contracts.DependencyEnumerator.{the_row}

-- A loop that writes a table

-- the first i of n places hold f
pub record Filled {A : Type 0} (f : ℕ → A) (d : A) (n i : ℕ) (l : List A) : Type 0 where
  pub few : i ≤ n
  pub long : length l ≡ n
  pub at : (j : ℕ) → j < i → get_or l j d ≡ f j

module _ {A : Type 0} (f : ℕ → A) (d : A) (n : ℕ) where
  -- none yet
  pub filled_none : (a : A) → Filled f d n 0 (replicate n a)
  filled_none a = record { few = omega arith; long = length-replicate n a; at = λ j l. absurd (omega arith) }

  -- one more
  pub filled_more : (i : ℕ) (l : List A) (x : A) → i < n → Filled f d n i l → x ≡ f i → Filled f d n (i + 1) (set l i x)
  filled_more i l x b h e = record { few = omega arith; long = length-set l i x ∙ h.long; at = λ j c. go j c (ℕ_discrete j i) }
    where
      go : (j : ℕ) → j < i + 1 → Dec (j ≡ i) → get_or (set l i x) j d ≡ f j
      go j c (yes q) = rw q (get_or-set_same l i x d (omega (arith, h.long)) ∙ e)
      go j c (no q) = get_or-set_other l i j x d q ∙ h.at j (omega arith)

  -- all of them
  pub filled-all : (i : ℕ) (l : List A) → n ≤ i → Filled f d n i l → l ≡ table f n
  filled-all i l b h = table_is f n l d h.long (λ j c. h.at j (omega arith))

-- What the code reads

-- the account has marks for 64 keys: its type says so
pub seen-sized : (e : DependencyEnumerator) (vs : List Val) → Is the_row e vs → length e.seen ≡ 64
seen-sized e vs p = p.1.1.1.1.0.1.0.1

-- what it reads past the end
abbrev pub no_marks : Seen
no_marks = record { told = [] }

-- what it reads at a place is what stands there
pub seen_read : (e : DependencyEnumerator) → length e.seen ≡ 64 → (i : ℕ) → i < 64 → get_or e.seen i no_marks ≡ seen_at e i
seen_read e z i l = get_d_any e.seen i no_marks unmarked (omega arith)

-- so the marks after a pair is marked are those of the place
pub marked-read : (m : DependencyMap) (e : DependencyEnumerator) (t d i : ℕ) (r : Seen) → length m.list ≡ 64 → length e.seen ≡ 64 → i < 64
    → r ≡ marked_node (get_or m.list i no_place) (get_or e.seen i no_marks) t d → r ≡ marked_node (place_in m i) (seen_at e i) t d
marked-read m e t d i r y z l q = q ∙ ap₂ (λ a b. marked_node a b t d) (read_is m y i l) (seen_read e z i l)

-- A search for a place without a mark: what the search answers, or the number of dependencies where it finds none
pub opened-first : (s : Seen) (from size : ℕ) (o : Option ℕ) → from ≤ size
    → MatchOption o ((k : ℕ) → from ≤ k → k < size → get_or s.told k false ≡ true) (λ i. (from ≤ i) × (i < size) × (get_or s.told i false ≡ false) × ((k : ℕ) → from ≤ k → k < i → get_or s.told k false ≡ true))
    → Opened s from size (unwrap_or o size)
opened-first s from size None l h = record { low = l; high = omega arith; before = h; here = λ b. absurd (omega arith) }
opened-first s from size (Some i) l h = record { low = h.0; high = omega arith; before = h.3; here = λ b. h.2 }

-- How many places are left

-- a place counts at most 1
step-few : (b : Bool) → (if b then 0 else 1) ≤ 1
step-few true = omega arith
step-few false = omega arith

-- at most n of n places
open-few : (ts : List Bool) (n : ℕ) → open_of ts n ≤ n
unfolding open_of
open-few ts zero = omega arith
open-few ts (suc n) = omega (arith, open-few ts n, step-few (get_or ts n false))

-- at most 16 of each key
in_few : (ss : List Seen) (n : ℕ) → open_in ss n ≤ 16 * n
unfolding open_in
in_few ss zero = omega arith
in_few ss (suc n) = omega (arith, in_few ss n, open-few (get_or ss n unmarked).told 16)

-- at most 1,024 places are left
pub left-few : (e : DependencyEnumerator) → left e ≤ 1024
unfolding left
left-few e = omega (arith, in_few e.seen 64)

-- a mark that stays leaves no more
step_less : (a b : Bool) → (a ≡ true → b ≡ true) → (if b then 0 else 1) ≤ (if a then 0 else 1)
step_less true b f = rw (f refl) (omega arith)
step_less false b f = step-few b

-- marks that stay leave no more places
open-less : (ts us : List Bool) (n : ℕ) → ((k : ℕ) → k < n → get_or ts k false ≡ true → get_or us k false ≡ true) → open_of us n ≤ open_of ts n
unfolding open_of
open-less ts us zero h = omega arith
open-less ts us (suc n) h =
    omega (arith, open-less ts us n (λ k l. h k (omega arith)), step_less (get_or ts n false) (get_or us n false) (h n (omega arith)))

-- and one that is new leaves fewer
open-fewer : (ts us : List Bool) (n : ℕ) → ((k : ℕ) → k < n → get_or ts k false ≡ true → get_or us k false ≡ true) → (k : ℕ) → k < n → get_or ts k false ≡ false → get_or us k false ≡ true
    → open_of us n < open_of ts n
unfolding open_of
open-fewer ts us zero h k l p q = absurd (omega arith)
open-fewer ts us (suc n) h k l p q = at (ℕ_discrete k n) (λ l'. open-fewer ts us n (λ j b. h j (omega arith)) k l' p q)
  where
    at : Dec (k ≡ n) → (k < n → open_of us n < open_of ts n) → open_of us n + (if get_or us n false then 0 else 1) < open_of ts n + (if get_or ts n false then 0 else 1)
    at (yes e) r =
        let a : get_or ts n false ≡ false = rw e at p in
        let b : get_or us n false ≡ true = rw e at q in
        rw (a, b) (omega (arith, open-less ts us n (λ j c. h j (omega arith))))
    at (no e) r = omega (arith, r (omega arith), step_less (get_or ts n false) (get_or us n false) (h n (omega arith)))

-- the same for all keys: marks that stay
in_less : (ss rs : List Seen) (n : ℕ) → ((i k : ℕ) → i < n → k < 16 → get_or (get_or ss i unmarked).told k false ≡ true → get_or (get_or rs i unmarked).told k false ≡ true) → open_in rs n ≤ open_in ss n
unfolding open_in
in_less ss rs zero h = omega arith
in_less ss rs (suc n) h =
    omega (arith, in_less ss rs n (λ i k l. h i k (omega arith)), open-less (get_or ss n unmarked).told (get_or rs n unmarked).told 16 (λ k. h n k (omega arith)))

-- and one that is new
in_fewer : (ss rs : List Seen) (n : ℕ) → ((i k : ℕ) → i < n → k < 16 → get_or (get_or ss i unmarked).told k false ≡ true → get_or (get_or rs i unmarked).told k false ≡ true)
    → (i k : ℕ) → i < n → k < 16 → get_or (get_or ss i unmarked).told k false ≡ false → get_or (get_or rs i unmarked).told k false ≡ true → open_in rs n < open_in ss n
unfolding open_in
in_fewer ss rs zero h i k l b p q = absurd (omega arith)
in_fewer ss rs (suc n) h i k l b p q = at (ℕ_discrete i n) (λ l'. in_fewer ss rs n (λ j x c. h j x (omega arith)) i k l' b p q)
  where
    here : open_of (get_or rs n unmarked).told 16 ≤ open_of (get_or ss n unmarked).told 16
    here = open-less (get_or ss n unmarked).told (get_or rs n unmarked).told 16 (λ x. h n x (omega arith))

    at : Dec (i ≡ n) → (i < n → open_in rs n < open_in ss n)
        → open_in rs n + open_of (get_or rs n unmarked).told 16 < open_in ss n + open_of (get_or ss n unmarked).told 16
    at (yes e) r =
        let p' : get_or (get_or ss n unmarked).told k false ≡ false = rw e at p in
        let q' : get_or (get_or rs n unmarked).told k false ≡ true = rw e at q in
        omega (arith, in_less ss rs n (λ j x c. h j x (omega arith)), open-fewer (get_or ss n unmarked).told (get_or rs n unmarked).told 16 (λ x. h n x (omega arith)) k b p' q')
    at (no e) r = omega (arith, r (omega arith), here)

-- A fresh account

-- it has no marks
told_none : (i k : ℕ) → told fresh i k ≡ false
unfolding told
told_none i k = ap (λ (s : Seen). get_or s.told k false) (place (dec_lt i 64)) ∙ mark (dec_lt k 16)
  where
    place : Dec (i < 64) → seen_at fresh i ≡ unmarked
    place (yes l) = get_or-replicate 64 i unmarked unmarked l
    place (no l) = get_or-eq_default (replicate 64 unmarked) unmarked {n = i} (omega (arith, length-replicate 64 unmarked))

    mark : Dec (k < 16) → get_or (replicate {A = Bool} 16 false) k false ≡ false
    mark (yes l) = get_or-replicate 16 k false false l
    mark (no l) = get_or-eq_default (replicate {A = Bool} 16 false) false {n = k} (omega (arith, length-replicate {A = Bool} 16 false))

-- a fresh account has no pairs
pub told_fresh : (m : DependencyMap) → Told m fresh []
unfolding is_seen
told_fresh m = record { is = λ i k a b c. told_none i k }

-- a fresh account is one over each map
pub walking-fresh : (m : DependencyMap) → Held m → Walking m fresh
walking-fresh m h =
    record {
      map = h;
      room = omega (arith, left-few fresh);
      long = length-replicate {A = Frame} 1025 (record { place = 0; next = 0 });
      wide = length-replicate 64 unmarked;
      framed = λ i l. absurd (omega arith);
    }

-- A pair more

-- a test of equality is the same from both sides
eqb_turn : (a b : ℕ) → eqb a b ≡ eqb b a
eqb_turn a b = same_test (eqb a b) (eqb b a) (λ e. eq-eqb b a (sym (eqb-true a b e))) (λ e. eq-eqb a b (sym (eqb-true b a e)))

-- the pairs with one more
seen_more : (a b t d : ℕ) (s : List (ℕ × ℕ)) → is_seen a b (s ++ ((t, d) ∷ [])) ≡ (is_seen a b s || (eqb a t && eqb b d))
unfolding is_seen
seen_more a b t d [] = go (eqb t a) (eqb d b) (eqb_turn t a) (eqb_turn d b)
  where
    go : (x y : Bool) → x ≡ eqb a t → y ≡ eqb b d → ((x && y) || false) ≡ (eqb a t && eqb b d)
    go true true p q = rw (← p, ← q)
    go true false p q = rw (← p, ← q)
    go false y p q = rw (← p)
seen_more a b t d (p ∷ s) = go (eqb p.0 a && eqb p.1 b) (seen_more a b t d s)
  where
    go : (x : Bool) → is_seen a b (s ++ ((t, d) ∷ [])) ≡ (is_seen a b s || (eqb a t && eqb b d))
        → (x || is_seen a b (s ++ ((t, d) ∷ []))) ≡ ((x || is_seen a b s) || (eqb a t && eqb b d))
    go true e = refl
    go false e = e

-- a pair at an entry with a target
hits_at : (r : DependencyNode) (k t d : ℕ) → r.projected ≡ true → hits r k t d ≡ (eqb r.target t && eqb (get_or r.dependencies k 0) d)
unfolding hits
hits_at r k t d e = rw e

-- the right half of an `||` passes
or_right : (a b : Bool) → b ≡ true → (a || b) ≡ true
or_right true b e = refl
or_right false b e = e

-- so does the left
or_left : (a b : Bool) → a ≡ true → (a || b) ≡ true
or_left a b e = rw e

module _ (m : DependencyMap) (e : DependencyEnumerator) (t d : ℕ) where
  -- what is marked after a pair is
  told_is : (i k : ℕ) → i < 64 → k < 16 → told (marked m e t d) i k ≡ (told e i k || hits (place_in m i) k t d)
  unfolding told marked marked_node
  told_is i k a b =
      ap (λ (s : Seen). get_or s.told k false) (get_or-table (λ j. marked_node (place_in m j) (seen_at e j) t d) 64 i unmarked a)
      ∙ get_or-table (λ j. get_or (seen_at e i).told j false || hits (place_in m i) j t d) 16 k false b

  -- after a pair is marked, the account has it
  pub told-marked : (s : List (ℕ × ℕ)) → Held m → Told m e s → Told m (marked m e t d) (s ++ ((t, d) ∷ []))
  told-marked s h say =
      record {
        is =
            λ i k a b c.
            told_is i k (omega (arith, h.few)) (omega (arith, (h.entries i a).short))
            ∙ ap₂ (λ x y. x || y) (say.is i k a b c) (hits_at (place_in m i) k t d c)
            ∙ sym (seen_more (place_in m i).target (get_or (place_in m i).dependencies k 0) t d s);
      }

  -- marking a pair that stands where no mark is leaves fewer places
  pub left-marked : (i k : ℕ) → i < 64 → k < 16 → told e i k ≡ false → hits (place_in m i) k t d ≡ true → left (marked m e t d) < left e
  unfolding left told
  left-marked i k in_map in_entry not_yet here =
      in_fewer e.seen (marked m e t d).seen 64
      (λ j x a b p. told_is j x a b ∙ or_left (told e j x) (hits (place_in m j) x t d) p)
      i k in_map in_entry not_yet
      (told_is i k in_map in_entry ∙ or_right (told e i k) (hits (place_in m i) k t d) here)

  -- an account stays one when such a pair is marked
  pub walking-marked : (i k : ℕ) → i < 64 → k < 16 → told e i k ≡ false → hits (place_in m i) k t d ≡ true → Walking m e → Walking m (marked m e t d)
  unfolding marked
  walking-marked i k in_map in_entry not_yet here w =
      record {
        map = w.map;
        room = omega (arith, w.room, left-marked i k in_map in_entry not_yet here);
        long = w.long;
        wide = length-table (λ j. marked_node (place_in m j) (seen_at e j) t d) 64;
        framed = w.framed;
      }
