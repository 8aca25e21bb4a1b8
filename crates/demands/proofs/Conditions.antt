-- An equal condition puts its two expressions together, and whoever is together through them; all else stays.
use Rattle.std.specs.Prelude.{if◌then◌else◌, Option, None, Some}
use Prim.Native.Nat.{ℕ, ◌-◌, ◌<◌, ◌≤◌, min, max}
use mathlib.Core.Bool.{Bool, true, false}
use mathlib.Core.List.{List, [], ◌∷◌, ◌++◌}
use mathlib.Core.Logic.{◌⊎◌, inl, inr}
use mathlib.Core.Path.{◌≡◌, refl, sym, ap, ◌∙◌, subst}
use native.Mathlib.Decide.{ℕ_discrete, dec_lt}
use native.Mathlib.Omega.{arith}
use borrow.Author.Tests.{eqb-true, eqb-false, eq-eqb}
use lib.Dec.{eqb}
use lib.ListN.{length}
use Rattle.laws.proofs.Booleans.{true_not_false}
use Rattle.arena.specs.Node.{Node}
use Rattle.classes.specs.Class.{Class, single, merged}
use Rattle.classes.specs.Group.{among, class_at, class_of, removed, length_removed, merged_at, pair, joined, equated, equal_condition, same_class, Together}
use Rattle.classes.specs.Good.{flat, Distinct}
use Rattle.classes.proofs.Places.{count, count-append, count_same, count-other, among-left, among-right, among-either, among-never, among_one, one-among, counts, Once, distinct-once, once-distinct, one_class, class_of-some, class_of-none, class_of-one, removed-gap, removed-other, counts-removed, length-merged_at, merged_at-same, merged_at-other, counts-merged_at, counts-more, more-old, more-new, length_more}
use Rattle.demands.proofs.Step.{With, Step}

-- two expressions of one class are together
pub same_together : (cs : List Class) (x y : ℕ) → same_class cs x y ≡ true → Together cs x y
unfolding same_class
same_together cs x y h = go (class_of cs x) (class_of cs y) refl refl
  where
    go : (o p : Option ℕ) → class_of cs x ≡ o → class_of cs y ≡ p → Together cs x y
    go None None q r = absurd (true_not_false (rw (q, r) at h) refl)
    go None (Some j) q r = absurd (true_not_false (rw (q, r) at h) refl)
    go (Some i) None q r = absurd (true_not_false (rw (q, r) at h) refl)
    go (Some i) (Some j) q r =
        let e : i ≡ j = eqb-true i j (rw (q, r) at h) in
        let a = class_of-some cs x i q in
        let b = class_of-some cs y j r in
        record { place = i; below = a.0; left = a.1; right = subst (λ (k : ℕ). among y (class_at cs k).members ≡ true) (sym e) b.1 }

-- and the other way round, where no number is a member twice
pub together_same : (cs : List Class) → Once cs → (x y : ℕ) → Together cs x y → same_class cs x y ≡ true
unfolding same_class
together_same cs o x y t =
    rw (class_of-one cs o x t.place t.below t.left, class_of-one cs o y t.place t.below t.right) (eq-eqb t.place t.place refl)

pub together_back : {cs : List Class} {x y : ℕ} → Together cs x y → Together cs y x
together_back t = record { place = t.place; below = t.below; left = t.right; right = t.left }

module _ (cs : List Class) (o : Once cs) where
  pub together_on : (x y z : ℕ) → Together cs x y → Together cs y z → Together cs x z
  together_on x y z s t =
      let e = one_class cs o y t.place s.place t.below s.below t.left s.right in
      record { place = s.place; below = s.below; left = s.left; right = subst (λ (k : ℕ). among z (class_at cs k).members ≡ true) (sym e) t.right }

  pub with_at : (x y i : ℕ) → i < length cs → among x (class_at cs i).members ≡ true → among y (class_at cs i).members ≡ true → With cs x y
  with_at x y i l p q = inr (together_same cs o x y (record { place = i; below = l; left = p; right = q }))

  pub with-back : (x y : ℕ) → With cs x y → With cs y x
  with-back x y (inl e) = inl (sym e)
  with-back x y (inr s) = inr (together_same cs o y x (together_back (same_together cs x y s)))

  pub with-on : (x y z : ℕ) → With cs x y → With cs y z → With cs x z
  with-on x y z (inl e) w = subst (λ (k : ℕ). With cs k z) (sym e) w
  with-on x y z (inr s) (inl e) = inr (subst (λ (k : ℕ). same_class cs x k ≡ true) e s)
  with-on x y z (inr s) (inr t) = inr (together_same cs o x z (together_on x y z (same_together cs x y s) (same_together cs y z t)))

-- from cs to ds, a and b were put together
pub record Joins (cs : List Class) (a b : ℕ) (ds : List Class) : Type 0 where
  pub once : Once ds
  pub stays : (x y : ℕ) → Together cs x y → Together ds x y
  pub joins : Together ds a b
  pub only : (x y : ℕ) → Together ds x y → Together cs x y ⊎ ((With cs a x ⊎ With cs b x) × (With cs a y ⊎ With cs b y))

joins-back : (cs : List Class) (a b : ℕ) (ds : List Class) → Joins cs b a ds → Joins cs a b ds
joins-back cs a b ds j = record { once = j.once; stays = j.stays; joins = together_back j.joins; only = λ x y t. go x y (j.only x y t) }
  where
    turn : (x : ℕ) → With cs b x ⊎ With cs a x → With cs a x ⊎ With cs b x
    turn x (inl w) = inr w
    turn x (inr w) = inl w

    go : (x y : ℕ) → Together cs x y ⊎ ((With cs b x ⊎ With cs a x) × (With cs b y ⊎ With cs a y)) → Together cs x y ⊎ ((With cs a x ⊎ With cs b x) × (With cs a y ⊎ With cs b y))
    go x y (inl t) = inl t
    go x y (inr p) = inr (turn x p.0, turn y p.1)

joins-step : (cs : List Class) → Once cs → (a b : ℕ) (ds : List Class) → Joins cs a b ds → Step cs a b ds
joins-step cs o a b ds j = record {
  stays = λ x y s. together_same ds j.once x y (j.stays x y (same_together cs x y s));
  joins = λ n. together_same ds j.once a b j.joins;
  only = λ x y s. go x y (j.only x y (same_together ds x y s));
}
  where
    near : (x y : ℕ) → With cs a x ⊎ With cs b x → With cs a y ⊎ With cs b y → With cs x y ⊎ ((With cs x a × With cs b y) ⊎ (With cs x b × With cs a y))
    near x y (inl p) (inl q) = inl (with-on cs o x a y (with-back cs o a x p) q)
    near x y (inl p) (inr q) = inr (inl (with-back cs o a x p, q))
    near x y (inr p) (inl q) = inr (inr (with-back cs o b x p, q))
    near x y (inr p) (inr q) = inl (with-on cs o x b y (with-back cs o b x p) q)

    go : (x y : ℕ) → Together cs x y ⊎ ((With cs a x ⊎ With cs b x) × (With cs a y ⊎ With cs b y)) → With cs x y ⊎ ((With cs x a × With cs b y) ⊎ (With cs x b × With cs a y))
    go x y (inl t) = inl (inr (together_same cs o x y t))
    go x y (inr p) = near x y p.0 p.1

-- members of the classes with one merged in
merged-old : (cs : List Class) (i : ℕ) (d : Class) (x p : ℕ) → p < length cs → among x (class_at cs p).members ≡ true → among x (class_at (merged_at cs i d) p).members ≡ true
unfolding merged
merged-old cs i d x p l h = go (ℕ_discrete p i)
  where
    go : Dec (p ≡ i) → among x (class_at (merged_at cs i d) p).members ≡ true
    go (yes q) = rw (q, merged_at-same cs i d (omega arith)) (among-left x (class_at cs i).members d.members (rw q at h))
    go (no q) = rw (merged_at-other cs i p d q) h

merged-new : (cs : List Class) (i : ℕ) (d : Class) (x : ℕ) → i < length cs → among x d.members ≡ true → among x (class_at (merged_at cs i d) i).members ≡ true
unfolding merged
merged-new cs i d x l h = rw (merged_at-same cs i d l) (among-right x (class_at cs i).members d.members h)

merged-from : (cs : List Class) (i : ℕ) (d : Class) (x p : ℕ) → p < length cs → among x (class_at (merged_at cs i d) p).members ≡ true
    → (among x (class_at cs p).members ≡ true) ⊎ ((p ≡ i) × (among x d.members ≡ true))
unfolding merged
merged-from cs i d x p l h = go (ℕ_discrete p i)
  where
    at : (p ≡ i) → (among x (class_at cs i).members ≡ true) ⊎ (among x d.members ≡ true) → (among x (class_at cs p).members ≡ true) ⊎ ((p ≡ i) × (among x d.members ≡ true))
    at q (inl m) = inl (rw q m)
    at q (inr m) = inr (q, m)

    go : Dec (p ≡ i) → (among x (class_at cs p).members ≡ true) ⊎ ((p ≡ i) × (among x d.members ≡ true))
    go (yes q) = at q (among-either x (class_at cs i).members d.members (rw (q, merged_at-same cs i d (omega arith)) at h))
    go (no q) = inl (rw (merged_at-other cs i p d q) at h)

-- where whoever shares a place of ds was there before, or the place is one where all are near a or b
only-by : (cs : List Class) (a b : ℕ) (ds : List Class) (P : ℕ → ℕ → Type 0)
    → ((x p : ℕ) → p < length ds → among x (class_at ds p).members ≡ true → P x p ⊎ ((y : ℕ) → among y (class_at ds p).members ≡ true → With cs a y ⊎ With cs b y))
    → ((x y p : ℕ) → p < length ds → P x p → P y p → Together cs x y)
    → (x y : ℕ) → Together ds x y → Together cs x y ⊎ ((With cs a x ⊎ With cs b x) × (With cs a y ⊎ With cs b y))
only-by cs a b ds P from both x y t = go (from x t.place t.below t.left) (from y t.place t.below t.right)
  where
    go : P x t.place ⊎ ((z : ℕ) → among z (class_at ds t.place).members ≡ true → With cs a z ⊎ With cs b z)
        → P y t.place ⊎ ((z : ℕ) → among z (class_at ds t.place).members ≡ true → With cs a z ⊎ With cs b z)
        → Together cs x y ⊎ ((With cs a x ⊎ With cs b x) × (With cs a y ⊎ With cs b y))
    go (inl p) (inl q) = inl (both x y t.place t.below p q)
    go (inl p) (inr f) = inr (f x t.left, f y t.right)
    go (inr f) q = inr (f x t.left, f y t.right)

-- an expression without a class is pushed to the class of the other
pushed-joins : (ns : List Node) (cs : List Class) → Once cs → (a b j : ℕ) → counts a cs ≡ 0 → j < length cs → among b (class_at cs j).members ≡ true
    → Joins cs a b (merged_at cs j (single ns a))
unfolding single
pushed-joins ns cs o a b j z l h = record {
  once = λ e. once-at e (ℕ_discrete a e);
  stays = λ x y t. record {
    place = t.place;
    below = rw (length-merged_at cs j (single ns a)) t.below;
    left = merged-old cs j (single ns a) x t.place t.below t.left;
    right = merged-old cs j (single ns a) y t.place t.below t.right;
  };
  joins = record {
    place = j;
    below = rw (length-merged_at cs j (single ns a)) l;
    left = merged-new cs j (single ns a) a l (one-among a);
    right = merged-old cs j (single ns a) b j l h;
  };
  only = only-by cs a b (merged_at cs j (single ns a)) (λ x p. among x (class_at cs p).members ≡ true)
      (λ x p k m. from x p (rw (length-merged_at cs j (single ns a)) at k) m)
      (λ x y p k m n. record { place = p; below = rw (length-merged_at cs j (single ns a)) at k; left = m; right = n });
}
  where
    once-at : (e : ℕ) → Dec (a ≡ e) → counts e (merged_at cs j (single ns a)) ≤ 1
    once-at e (yes q) =
        let z' : counts e cs ≡ 0 = rw q at z in
        omega (arith, counts-merged_at e cs j (single ns a) l, subst (λ (k : ℕ). count e (k ∷ []) ≡ 1) (sym q) (count_same e))
    once-at e (no q) = omega (arith, counts-merged_at e cs j (single ns a) l, count-other e a q, o e)

    near : (y : ℕ) → (among y (class_at cs j).members ≡ true) ⊎ ((j ≡ j) × (among y (single ns a).members ≡ true)) → With cs a y ⊎ With cs b y
    near y (inl m) = inr (with_at cs o b y j l h m)
    near y (inr m) = inl (inl (among_one y a m.1))

    from : (x p : ℕ) → p < length cs → among x (class_at (merged_at cs j (single ns a)) p).members ≡ true
        → (among x (class_at cs p).members ≡ true) ⊎ ((y : ℕ) → among y (class_at (merged_at cs j (single ns a)) p).members ≡ true → With cs a y ⊎ With cs b y)
    from x p k m = at (merged-from cs j (single ns a) x p k m)
      where
        at : (among x (class_at cs p).members ≡ true) ⊎ ((p ≡ j) × (among x (single ns a).members ≡ true))
            → (among x (class_at cs p).members ≡ true) ⊎ ((y : ℕ) → among y (class_at (merged_at cs j (single ns a)) p).members ≡ true → With cs a y ⊎ With cs b y)
        at (inl q) = inl q
        at (inr q) = inr (λ y n. near y (merged-from cs j (single ns a) y j l (rw q.0 at n)))

-- members of a class of two
pair_left : (ns : List Node) (a b : ℕ) → among a (pair ns a b).members ≡ true
unfolding pair single merged
pair_left ns a b = go (eqb a b)
  where
    go : (t : Bool) → among a (if t then single ns a else merged (single ns a) (single ns b)).members ≡ true
    go true = one-among a
    go false = among-left a (a ∷ []) (b ∷ []) (one-among a)

pair-right : (ns : List Node) (a b : ℕ) → among b (pair ns a b).members ≡ true
unfolding pair single merged
pair-right ns a b = go (eqb a b) refl
  where
    go : (t : Bool) → eqb a b ≡ t → among b (if t then single ns a else merged (single ns a) (single ns b)).members ≡ true
    go true q = rw (eqb-true a b q) (one-among b)
    go false q = among-right b (a ∷ []) (b ∷ []) (one-among b)

pub pair-from : (ns : List Node) (a b x : ℕ) → among x (pair ns a b).members ≡ true → (a ≡ x) ⊎ (b ≡ x)
unfolding pair single merged
pair-from ns a b x = go (eqb a b)
  where
    at : (among x (a ∷ []) ≡ true) ⊎ (among x (b ∷ []) ≡ true) → (a ≡ x) ⊎ (b ≡ x)
    at (inl m) = inl (among_one x a m)
    at (inr m) = inr (among_one x b m)

    go : (t : Bool) → among x (if t then single ns a else merged (single ns a) (single ns b)).members ≡ true → (a ≡ x) ⊎ (b ≡ x)
    go true m = inl (among_one x a m)
    go false m = at (among-either x (a ∷ []) (b ∷ []) m)

-- no number is there twice
pair-once : (ns : List Node) (a b e : ℕ) → count e (pair ns a b).members ≤ 1
unfolding pair single merged
pair-once ns a b e = go (eqb a b) refl (ℕ_discrete a e) (ℕ_discrete b e)
  where
    one : (x : ℕ) → Dec (x ≡ e) → count e (x ∷ []) ≤ 1
    one x (yes q) = rw q (omega (arith, count_same e))
    one x (no q) = omega (arith, count-other e x q)

    go : (t : Bool) → eqb a b ≡ t → Dec (a ≡ e) → Dec (b ≡ e) → count e (if t then single ns a else merged (single ns a) (single ns b)).members ≤ 1
    go true q d f = one a d
    go false q (yes u) (yes w) = absurd (eqb-false a b q (u ∙ sym w))
    go false q (yes u) (no w) = omega (arith, count-append e (a ∷ []) (b ∷ []), one a (yes u), count-other e b w)
    go false q (no u) d = omega (arith, count-append e (a ∷ []) (b ∷ []), one b d, count-other e a u)

-- two expressions without a class: a new class at the end
new-joins : (ns : List Node) (cs : List Class) → Once cs → (a b : ℕ) → counts a cs ≡ 0 → counts b cs ≡ 0 → Joins cs a b (cs ++ (pair ns a b ∷ []))
new-joins ns cs o a b za zb = record {
  once = λ e. once-at e (among e (pair ns a b).members) refl;
  stays = λ x y t. record {
    place = t.place;
    below = omega (arith, length_more cs (pair ns a b), t.below);
    left = rw (more-old cs (pair ns a b) t.place t.below) t.left;
    right = rw (more-old cs (pair ns a b) t.place t.below) t.right;
  };
  joins = record {
    place = length cs;
    below = omega (arith, length_more cs (pair ns a b));
    left = rw (more-new cs (pair ns a b)) (pair_left ns a b);
    right = rw (more-new cs (pair ns a b)) (pair-right ns a b);
  };
  only = only-by cs a b (cs ++ (pair ns a b ∷ [])) (λ x p. (p < length cs) × (among x (class_at cs p).members ≡ true)) (λ x p k m. from x p k m (dec_lt p (length cs)))
      (λ x y p k m n. record { place = p; below = m.0; left = m.1; right = n.1 });
}
  where
    none_of : (e : ℕ) → (a ≡ e) ⊎ (b ≡ e) → counts e cs ≡ 0
    none_of e (inl q) = rw q at za
    none_of e (inr q) = rw q at zb

    once-at : (e : ℕ) (t : Bool) → among e (pair ns a b).members ≡ t → counts e (cs ++ (pair ns a b ∷ [])) ≤ 1
    once-at e true q = omega (arith, counts-more e cs (pair ns a b), pair-once ns a b e, none_of e (pair-from ns a b e q))
    once-at e false q = omega (arith, counts-more e cs (pair ns a b), among-never e (pair ns a b).members q, o e)

    near : (y : ℕ) → (a ≡ y) ⊎ (b ≡ y) → With cs a y ⊎ With cs b y
    near y (inl q) = inl (inl q)
    near y (inr q) = inr (inl q)

    from : (x p : ℕ) → p < length (cs ++ (pair ns a b ∷ [])) → among x (class_at (cs ++ (pair ns a b ∷ [])) p).members ≡ true → Dec (p < length cs)
        → ((p < length cs) × (among x (class_at cs p).members ≡ true)) ⊎ ((y : ℕ) → among y (class_at (cs ++ (pair ns a b ∷ [])) p).members ≡ true → With cs a y ⊎ With cs b y)
    from x p k m (yes l) = inl (l, rw (more-old cs (pair ns a b) p l) at m)
    from x p k m (no l) =
        let q : p ≡ length cs = omega (arith, length_more cs (pair ns a b)) in
        inr (λ y n. near y (pair-from ns a b y (rw (q, more-new cs (pair ns a b)) at n)))

-- the place that a class had before one was removed
removed-from : (cs : List Class) (i p : ℕ) → p < length (removed cs i) → (q : ℕ) × (q < length cs) × (class_at (removed cs i) p ≡ class_at cs q)
removed-from cs i p l = go (ℕ_discrete p i)
  where
    go : Dec (p ≡ i) → (q : ℕ) × (q < length cs) × (class_at (removed cs i) p ≡ class_at cs q)
    go (yes e) = (length cs - 1, omega (arith, length_removed cs i), rw e (removed-gap cs i (omega (arith, length_removed cs i))))
    go (no n) = (p, omega (arith, length_removed cs i), removed-other cs i p (omega (arith, length_removed cs i)) n)

-- and the place that a class has afterwards
removed-to : (cs : List Class) (i q : ℕ) → i < length cs → q < length cs → (q ≡ i → ⊥) → (p : ℕ) × (p < length (removed cs i)) × (class_at (removed cs i) p ≡ class_at cs q)
removed-to cs i q h l n = go (dec_lt q (length cs - 1))
  where
    go : Dec (q < length cs - 1) → (p : ℕ) × (p < length (removed cs i)) × (class_at (removed cs i) p ≡ class_at cs q)
    go (yes k) = (q, omega (arith, length_removed cs i), removed-other cs i q k n)
    go (no k) =
        let e : length cs - 1 ≡ q = omega arith in
        (i, omega (arith, length_removed cs i), removed-gap cs i (omega arith) ∙ ap (λ (m : ℕ). class_at cs m) e)

-- two classes: the higher joins the end of the lower
joined-joins : (cs : List Class) → Once cs → (a b i j : ℕ) → i < j → j < length cs → among a (class_at cs i).members ≡ true → among b (class_at cs j).members ≡ true
    → Joins cs a b (merged_at (removed cs j) i (class_at cs j))
joined-joins cs o a b i j l k ha hb = record {
  once = λ e. omega (arith, counts-merged_at e (removed cs j) i (class_at cs j) low, counts-removed e cs j k, o e);
  stays = λ x y t. stays_at x y t (ℕ_discrete t.place j);
  joins = record {
    place = i;
    below = rw (length-merged_at (removed cs j) i (class_at cs j)) low;
    left = merged-old (removed cs j) i (class_at cs j) a i low (rw same ha);
    right = merged-new (removed cs j) i (class_at cs j) b low hb;
  };
  only = only-by cs a b (merged_at (removed cs j) i (class_at cs j)) (λ x p. among x (class_at (removed cs j) p).members ≡ true)
      (λ x p h m. from x p (rw (length-merged_at (removed cs j) i (class_at cs j)) at h) m)
      (λ x y p h m n. both x y p m n (removed-from cs j p (rw (length-merged_at (removed cs j) i (class_at cs j)) at h)));
}
  where
    low : i < length (removed cs j)
    low = omega (arith, length_removed cs j)

    same : class_at (removed cs j) i ≡ class_at cs i
    same = removed-other cs j i (omega arith) (λ e. omega arith)

    stays_at : (x y : ℕ) (t : Together cs x y) → Dec (t.place ≡ j) → Together (merged_at (removed cs j) i (class_at cs j)) x y
    stays_at x y t (yes q) = record {
      place = i;
      below = rw (length-merged_at (removed cs j) i (class_at cs j)) low;
      left = merged-new (removed cs j) i (class_at cs j) x low (rw q at t.left);
      right = merged-new (removed cs j) i (class_at cs j) y low (rw q at t.right);
    }
    stays_at x y t (no n) =
        let r = removed-to cs j t.place k t.below n in
        record {
          place = r.0;
          below = rw (length-merged_at (removed cs j) i (class_at cs j)) r.1;
          left = merged-old (removed cs j) i (class_at cs j) x r.0 r.1 (rw r.2 t.left);
          right = merged-old (removed cs j) i (class_at cs j) y r.0 r.1 (rw r.2 t.right);
        }

    both : (x y p : ℕ) → among x (class_at (removed cs j) p).members ≡ true → among y (class_at (removed cs j) p).members ≡ true
        → (q : ℕ) × (q < length cs) × (class_at (removed cs j) p ≡ class_at cs q) → Together cs x y
    both x y p m n r = record { place = r.0; below = r.1; left = rw r.2 at m; right = rw r.2 at n }

    near : (y : ℕ) → (among y (class_at (removed cs j) i).members ≡ true) ⊎ ((i ≡ i) × (among y (class_at cs j).members ≡ true)) → With cs a y ⊎ With cs b y
    near y (inl m) = inl (with_at cs o a y i (omega arith) ha (rw same at m))
    near y (inr m) = inr (with_at cs o b y j k hb m.1)

    from : (x p : ℕ) → p < length (removed cs j) → among x (class_at (merged_at (removed cs j) i (class_at cs j)) p).members ≡ true
        → (among x (class_at (removed cs j) p).members ≡ true) ⊎ ((y : ℕ) → among y (class_at (merged_at (removed cs j) i (class_at cs j)) p).members ≡ true → With cs a y ⊎ With cs b y)
    from x p h m = at (merged-from (removed cs j) i (class_at cs j) x p h m)
      where
        at : (among x (class_at (removed cs j) p).members ≡ true) ⊎ ((p ≡ i) × (among x (class_at cs j).members ≡ true))
            → (among x (class_at (removed cs j) p).members ≡ true) ⊎ ((y : ℕ) → among y (class_at (merged_at (removed cs j) i (class_at cs j)) p).members ≡ true → With cs a y ⊎ With cs b y)
        at (inl q) = inl q
        at (inr q) = inr (λ y n. near y (merged-from (removed cs j) i (class_at cs j) y i low (rw q.0 at n)))

-- the same expression, or of one class already: nothing changes
same-joins : (cs : List Class) → Once cs → (a b : ℕ) → Together cs a b → Joins cs a b cs
same-joins cs o a b t = record { once = o; stays = λ x y s. s; joins = t; only = λ x y s. inl s }

-- two classes, in either order
some-joins : (cs : List Class) → Once cs → (a b i j : ℕ) → class_of cs a ≡ Some i → class_of cs b ≡ Some j → Joins cs a b (if eqb i j then cs else joined cs i j)
unfolding joined
some-joins cs o a b i j p q = go (eqb i j) refl (dec_lt i j)
  where
    f : (i < length cs) × (among a (class_at cs i).members ≡ true)
    f = class_of-some cs a i p

    g : (j < length cs) × (among b (class_at cs j).members ≡ true)
    g = class_of-some cs b j q

    go : (t : Bool) → eqb i j ≡ t → Dec (i < j) → Joins cs a b (if t then cs else joined cs i j)
    go true e d = same-joins cs o a b (record { place = i; below = f.0; left = f.1; right = rw (eqb-true i j e) g.1 })
    go false e (yes l) =
        let h : max i j ≡ j = omega arith in
        let k : min i j ≡ i = omega arith in
        rw (h, k) (joined-joins cs o a b i j l g.0 f.1 g.1)
    go false e (no l) =
        let n = eqb-false i j e in
        let h : max i j ≡ i = omega arith in
        let k : min i j ≡ j = omega arith in
        rw (h, k) (joins-back cs a b (merged_at (removed cs i) j (class_at cs i)) (joined-joins cs o b a j i (omega arith) f.0 g.1 f.1))

-- an equal condition puts its two expressions together
pub condition_joins : (ns : List Node) (cs : List Class) → Once cs → (a b : ℕ) → Joins cs a b (equal_condition ns cs a b).1
unfolding equal_condition equated
condition_joins ns cs o a b = go (class_of cs a) (class_of cs b) refl refl
  where
    go : (p q : Option ℕ) → class_of cs a ≡ p → class_of cs b ≡ q → Joins cs a b (equated ns cs a b p q).1
    go None None p q = new-joins ns cs o a b (class_of-none cs a p) (class_of-none cs b q)
    go None (Some j) p q = let g = class_of-some cs b j q in pushed-joins ns cs o a b j (class_of-none cs a p) g.0 g.1
    go (Some i) None p q =
        let f = class_of-some cs a i p in
        joins-back cs a b (merged_at cs i (single ns b)) (pushed-joins ns cs o b a i (class_of-none cs b q) f.0 f.1)
    go (Some i) (Some j) p q = some-joins cs o a b i j p q

-- the same in the words of who is with whom
pub condition_step : (ns : List Node) (cs : List Class) → Distinct (flat cs) → (a b : ℕ) → Step cs a b (equal_condition ns cs a b).1
condition_step ns cs d a b =
    joins-step cs (distinct-once cs d) a b (equal_condition ns cs a b).1 (condition_joins ns cs (distinct-once cs d) a b)

-- no number is a member twice afterwards
pub condition_distinct : (ns : List Node) (cs : List Class) → Distinct (flat cs) → (a b : ℕ) → Distinct (flat (equal_condition ns cs a b).1)
condition_distinct ns cs d a b = once-distinct (equal_condition ns cs a b).1 (condition_joins ns cs (distinct-once cs d) a b).once

-- afterwards the two are together, also where they are one expression
pub condition_together : (ns : List Node) (cs : List Class) → Distinct (flat cs) → (a b : ℕ) → same_class (equal_condition ns cs a b).1 a b ≡ true
condition_together ns cs d a b =
    let j = condition_joins ns cs (distinct-once cs d) a b in
    together_same (equal_condition ns cs a b).1 j.once a b j.joins

-- two that are together already: nothing, false
pub already : (ns : List Node) (cs : List Class) (a b : ℕ) → same_class cs a b ≡ true → equal_condition ns cs a b ≡ (false, cs)
unfolding equal_condition equated same_class
already ns cs a b h = go (class_of cs a) (class_of cs b) refl refl
  where
    go : (p q : Option ℕ) → class_of cs a ≡ p → class_of cs b ≡ q → equated ns cs a b p q ≡ (false, cs)
    go None None p q = absurd (true_not_false (rw (p, q) at h) refl)
    go None (Some j) p q = absurd (true_not_false (rw (p, q) at h) refl)
    go (Some i) None p q = absurd (true_not_false (rw (p, q) at h) refl)
    go (Some i) (Some j) p q = let e : eqb i j ≡ true = rw (p, q) at h in rw e
