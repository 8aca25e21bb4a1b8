-- What `new` makes of a list of classes: which classes are kept, who comes together, that every expression of a kept class is in exactly one class, and that rows on which the given classes agree are rows on which the new ones do.
use Rattle.std.specs.Prelude.{if◌then◌else◌}
use Prim.Native.Nat.{ℕ, zero, suc, ◌-◌, ◌<◌, ◌≤◌}
use mathlib.Core.Bool.{Bool, true, false}
use mathlib.Core.List.{List}
use mathlib.Core.Logic.{◌↔◌}
use mathlib.Core.Path.{◌≡◌, refl, sym, ap, ◌∙◌, subst}
use native.Mathlib.Decide.{ℕ_discrete, dec_lt}
use native.Mathlib.Omega.{arith}
use lib.ListN.{length}
use Rattle.laws.proofs.Booleans.{true_not_false}
use Rattle.arena.specs.Node.{Node}
use Rattle.arena.specs.Value.{Meaning, Row}
use Rattle.classes.specs.Class.{Class}
use Rattle.classes.specs.Group.{among, class_at, removed, length_removed, same_class, Together}
use Rattle.classes.specs.Good.{flat}
use Rattle.classes.proofs.Places.{Once, All, one_class, distinct-once, flat-class, class-flat, removed-gap, removed-other}
use Rattle.demands.proofs.Conditions.{same_together, together_same, together_on}
use Rattle.merging.specs.Extending.{is_trivial}
use Rattle.merging.specs.Merging.{dropped_at, drop_below, kept_classes, bridged, length-bridged, bridge_classes, from_classes}
use Rattle.merging.specs.Chain.{Linked, one, on}
use Rattle.classes.specs.Agree.{Same, MembersAgree}
use Rattle.merging.specs.Inner.{Fair}
use Rattle.merging.proofs.Overlaps.{extended-left, extended-right, Meets, bridge_keeps, bridged-at, bridged-to, all-kept, kept-says, all_bridge, all_from, Within, within-extending}
use Rattle.merging.proofs.Reaching.{from-good}

-- ---- which classes are kept

-- a class of the kept list is one of the given list that says something
pub kept_from : (cs : List Class) (i : ℕ) → i < length (kept_classes cs) → (j : ℕ) × (j < length cs) × (class_at (kept_classes cs) i ≡ class_at cs j) × (is_trivial (class_at cs j) ≡ false)
kept_from cs i l =
    let f = all-kept (λ c. (j : ℕ) × (j < length cs) × (c ≡ class_at cs j)) cs (λ j b. (j, b, refl)) i l in
    (f.0, f.1, f.2, ap is_trivial (sym f.2) ∙ kept-says cs i l)

-- a class stands at some place of a list
abbrev Stands : Class → List Class → Type 0
Stands c cs = (i : ℕ) × (i < length cs) × (class_at cs i ≡ c)

-- one that says something stays when another goes
stands-dropped : (c : Class) → is_trivial c ≡ false → (cs : List Class) (i : ℕ) → i < length cs → Stands c cs → Stands c (dropped_at cs i)
unfolding dropped_at
stands-dropped c s cs i l h = go (is_trivial (class_at cs i)) refl
  where
    other : is_trivial (class_at cs i) ≡ true → h.0 ≡ i → ⊥
    other q e = true_not_false q (ap is_trivial (subst (λ (k : ℕ). class_at cs k ≡ c) e h.2) ∙ s)

    at : is_trivial (class_at cs i) ≡ true → Dec (h.0 < length cs - 1) → Stands c (removed cs i)
    at q (yes b) = (h.0, omega (arith, length_removed cs i), removed-other cs i h.0 b (other q) ∙ h.2)
    at q (no b) =
        let e : length cs - 1 ≡ h.0 = omega (arith, h.1) in
        let n : i < length cs - 1 = before q e (ℕ_discrete i (length cs - 1)) in
        (i, omega (arith, length_removed cs i), removed-gap cs i n ∙ ap (λ (k : ℕ). class_at cs k) e ∙ h.2)
      where
        before : is_trivial (class_at cs i) ≡ true → length cs - 1 ≡ h.0 → Dec (i ≡ length cs - 1) → i < length cs - 1
        before q e (yes t) = absurd (other q (sym e ∙ sym t))
        before q e (no t) = omega arith

    go : (b : Bool) → is_trivial (class_at cs i) ≡ b → Stands c (if b then removed cs i else cs)
    go true q = at q (dec_lt h.0 (length cs - 1))
    go false q = h

-- there is at most one class fewer
length-dropped : (cs : List Class) (i : ℕ) → length cs ≤ suc (length (dropped_at cs i))
unfolding dropped_at
length-dropped cs i = go (is_trivial (class_at cs i))
  where
    go : (b : Bool) → length cs ≤ suc (length (if b then removed cs i else cs))
    go true = omega (arith, length_removed cs i)
    go false = omega arith

-- when all that say nothing go
stands-below : (c : Class) → is_trivial c ≡ false → (i : ℕ) (cs : List Class) → i ≤ length cs → Stands c cs → Stands c (drop_below i cs)
unfolding drop_below
stands-below c s zero cs l h = h
stands-below c s (suc i) cs l h = stands-below c s i (dropped_at cs i) (omega (arith, length-dropped cs i)) (stands-dropped c s cs i (omega arith) h)

-- each class of the given list that says something is in the kept list
pub kept-to : (cs : List Class) (j : ℕ) → j < length cs → is_trivial (class_at cs j) ≡ false → (i : ℕ) × (i < length (kept_classes cs)) × (class_at (kept_classes cs) i ≡ class_at cs j)
unfolding kept_classes
kept-to cs j l s = stands-below (class_at cs j) s (length cs) cs (omega arith) (j, l, refl)

-- ---- who comes together

-- one chain after another
pub linked_on : {cs : List Class} {x y z : ℕ} → Linked cs x y → Linked cs y z → Linked cs x z
linked_on (one b) d = on b d
linked_on (on b c) d = on b (linked_on c d)

-- whoever is in one class of the result is joined by a chain of the list
bridge_linked : (cs : List Class) → All (Within (Linked cs)) (bridge_classes cs)
bridge_linked cs =
    all_bridge (Within (Linked cs)) (within-extending (Linked cs) (λ x e y p q. linked_on p q)) cs
    (λ i l x y a b. one (record { place = i; below = l; left = a; right = b }))

-- two that stand in one class stay in one when a class takes in another
together_bridged : (cs : List Class) (i j : ℕ) → i < length cs → Meets cs i j → (x y : ℕ) → Together cs x y → Together (bridged cs i j) x y
together_bridged cs i j l m x y b = go (ℕ_discrete b.place i) (ℕ_discrete b.place j)
  where
    low : i < length (bridged cs i j)
    low = omega (arith, length-bridged cs i j, m.after, m.below)

    left : (z : ℕ) → b.place ≡ i → among z (class_at cs b.place).members ≡ true → among z (class_at (bridged cs i j) i).members ≡ true
    left z e h =
        ap (λ (c : Class). among z c.members) (bridged-at cs i j m)
        ∙ extended-left (class_at cs i) (class_at cs j) z (subst (λ (k : ℕ). among z (class_at cs k).members ≡ true) e h)

    right : (z : ℕ) → b.place ≡ j → among z (class_at cs b.place).members ≡ true → among z (class_at (bridged cs i j) i).members ≡ true
    right z e h =
        ap (λ (c : Class). among z c.members) (bridged-at cs i j m)
        ∙ extended-right (class_at cs i) (class_at cs j) z (subst (λ (k : ℕ). among z (class_at cs k).members ≡ true) e h)

    go : Dec (b.place ≡ i) → Dec (b.place ≡ j) → Together (bridged cs i j) x y
    go (yes e) d = record { place = i; below = low; left = left x e b.left; right = left y e b.right }
    go (no n) (yes e) = record { place = i; below = low; left = right x e b.left; right = right y e b.right }
    go (no n) (no k) =
        let t = bridged-to cs i j m b.place b.below n k in
        record {
          place = t.0;
          below = t.1;
          left = ap (λ (c : Class). among x c.members) t.2 ∙ b.left;
          right = ap (λ (c : Class). among y c.members) t.2 ∙ b.right;
        }

-- two that stand in one class of the list stand in one class of the result
pub bridge_together : (cs : List Class) (x y : ℕ) → Together cs x y → Together (bridge_classes cs) x y
bridge_together cs x y b =
    (bridge_keeps (λ i ds. Together ds x y) (λ i ds l q p. p) (λ i j ds l m p. together_bridged ds i j l m x y p) cs b).2

-- a chain leads within one class of a group in which neighbours stay together
linked_together : (cs ds : List Class) → Once ds → ((x y : ℕ) → Together cs x y → Together ds x y) → {x y : ℕ} → Linked cs x y → Together ds x y
linked_together cs ds o h (one {x = x} {y = y} b) = h x y b
linked_together cs ds o h (on {x = x} {y = y} {z = z} b c) = together_on ds o x y z (h x y b) (linked_together cs ds o h c)

-- bridging puts two expressions into one class exactly when a chain of overlapping classes of the kept list joins them
pub bridged_exactly : (ns : List Node) (cs : List Class) → Fair ns cs → (x y : ℕ) → (same_class (from_classes cs) x y ≡ true) ↔ Linked (kept_classes cs) x y
unfolding from_classes
bridged_exactly ns cs f x y =
    let o : Once (bridge_classes (kept_classes cs)) = distinct-once (bridge_classes (kept_classes cs)) (from-good ns cs f).distinct in (
      λ h. let t = same_together (bridge_classes (kept_classes cs)) x y h in bridge_linked (kept_classes cs) t.place t.below x y t.left t.right,
      λ k. together_same (bridge_classes (kept_classes cs)) o x y (linked_together (kept_classes cs) (bridge_classes (kept_classes cs)) o (bridge_together (kept_classes cs)) k),
    )

-- ---- every expression in exactly one class

-- the class of an expression: there is one, and no other has it
pub record OneClass (cs : List Class) (e : ℕ) : Type 0 where
  pub place : ℕ
  pub below : place < length cs
  pub has : among e (class_at cs place).members ≡ true
  pub only : (j : ℕ) → j < length cs → among e (class_at cs j).members ≡ true → j ≡ place

-- every expression of a kept class is in exactly one class of the result
pub kept-once : (ns : List Node) (cs : List Class) → Fair ns cs → (e : ℕ) → among e (flat (kept_classes cs)) ≡ true → OneClass (from_classes cs) e
unfolding from_classes
kept-once ns cs f e h =
    let p = flat-class (kept_classes cs) e h in
    let b = bridge_together (kept_classes cs) e e (record { place = p.0; below = p.1; left = p.2; right = p.2 }) in
    record {
      place = b.place;
      below = b.below;
      has = b.left;
      only = λ j l m. one_class (bridge_classes (kept_classes cs)) (distinct-once (bridge_classes (kept_classes cs)) (from-good ns cs f).distinct) e b.place j b.below l b.left m;
    }

-- nothing else is in the result
pub result-kept : (cs : List Class) (e : ℕ) → among e (flat (from_classes cs)) ≡ true → among e (flat (kept_classes cs)) ≡ true
unfolding from_classes
result-kept cs e h =
    let p = flat-class (bridge_classes (kept_classes cs)) e h in
    let R : ℕ → ℕ → Type 0 = λ x y. among x (flat (kept_classes cs)) ≡ true in
    all_bridge (Within R) (within-extending R (λ x z y p q. p)) (kept_classes cs) (λ i l x y a b. class-flat (kept_classes cs) x i l a) p.0 p.1 e e p.2 p.2

-- ---- rows

-- on a row on which the members of each given class have one value, the members of each new class have one value
pub new-agrees : {A : Type 0} (ns : List Node) (cs : List Class) (m : Meaning A) (row : Row A) → MembersAgree ns cs m row → MembersAgree ns (from_classes cs) m row
new-agrees ns cs m row h i a b l p q =
    all_from (Within (Same ns m row)) (within-extending (Same ns m row) (λ x e y s t. s ∙ t)) cs (λ j k x y s t. h j x y k s t) i l a b p q
