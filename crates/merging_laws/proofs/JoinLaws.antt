-- A join that was made: what was shifted, which list reached `new`, what came of it; that it is a good group within the bounds, and on which rows its classes agree.
use Rattle.std.specs.Prelude.{if◌then◌else◌, Option, None, Some, is_some}
use Prim.Native.Nat.{ℕ, zero, suc, ◌+◌, ◌-◌, ◌<◌, ◌≤◌}
use mathlib.Core.Bool.{Bool, true, false}
use mathlib.Core.List.Memᴰ
use mathlib.Core.List.{List, [], ◌∷◌, ◌++◌, map, Memᴰ}
use mathlib.Core.Logic.{◌⊎◌, inl, inr}
use mathlib.Core.Path.{◌≡◌, refl, sym, ap, ap₂, ◌∙◌, subst}
use native.Mathlib.Decide.{dec_lt}
use native.Mathlib.Omega.{arith}
use borrow.Author.Tests.{leb-true, le-leb}
use lib.Dec.{leb, ltb}
use lib.IntN.{pos}
use lib.ListN.{length, get_or, take, drop, length-append, length-take, get_or-append}
use lib.Seq.{get_or-take, get_or-drop, get_or-append-add}
use Rattle.laws.proofs.Booleans.{true_not_false, and_left, and_right, and_both}
use Rattle.arena.specs.Node.{Node}
use Rattle.arena.specs.Expression.{Expression, Expressions, col, lit, op, ∅, ◌▹◌, expression_at}
use Rattle.arena.specs.Value.{Meaning, Row, value, values}
use Rattle.arena.specs.Arena.{Sound, Placed, placed, full}
use Rattle.shifting.specs.Shift.{within, moved, can_move, shifted, all_shifted, all_move as children_move}
use Rattle.arena.proofs.Nodes.{extends-longer}
use Rattle.arena.proofs.Values.{value-kept}
use Rattle.shifting.proofs.Values.{moved-within}
use Rattle.classes.specs.Class.{Class, single}
use Rattle.classes.specs.Group.{among, class_at, total, removed, length_removed, equal_condition, Together}
use Rattle.classes.specs.Good.{flat, Good}
use Rattle.classes.specs.Steps.{fits}
use Rattle.classes.specs.Layout.{decode}
use Rattle.classes.specs.declared.Group.{Group}
use Rattle.classes.specs.declared.Changed.{Changed}
use Rattle.demands.proofs.Step.{With}
use Rattle.classes.proofs.Places.{among_one, get_or-among, Once, All, nothing, distinct-once, class-flat, total-removed, total-merged_at}
use Rattle.demands.proofs.Conditions.{same_together, condition_joins}
use Rattle.demands.proofs.GoodKept.{condition_good}
use Rattle.merging.specs.Extending.{missing, pushed, pushed_all, class_from, is_trivial}
use Rattle.merging.specs.Merging.{dropped_at, drop_below, kept_classes, bridged, length-bridged, from_classes}
use Rattle.classes.specs.Agree.{Same, MembersAgree, PairsAgree}
use Rattle.arena.specs.declared.Refusal.{Refusal}
use Rattle.arena.specs.declared.Refusal.TheVariants.{UnknownExpression, TooManyChildren, ArenaFull, GroupFull, TooLarge, UnknownKey, NoTarget, OutputShort, Malformed, IndexOutOfRange, BadState, BadNumber}
use Rattle.arena.specs.Refusals.{refusal, refusal_number}
use Rattle.classes.specs.Calls.{changed_number}
use Rattle.merging.specs.Calls.{made_group, refused_group, made_or_refused}
use Rattle.merging.specs.Inner.{Fair, AllBelow}
use Rattle.merging.proofs.Overlaps.{length_without, extended-from, Meets, bridge_keeps, meets-low, Within}
use Rattle.merging.proofs.Reaching.{Sane, sane_fair, from-good, all_append, good_sane, flat-below}
use Rattle.shifted_classes.specs.Shifting.{all_move, shifted_numbers, shifted_classes}
use Rattle.joins.specs.Joining.{with_rights, equated_all, joined_classes, to_shift, joined_over}
use Rattle.joins.specs.Calls.{join_placed, join_shifted}
use Rattle.shifted_classes.proofs.ShiftOnce.{each-moves, ShiftedTo, numbers-shifted}
use Rattle.shifted_classes.proofs.Reaching.{sane_shifted}
use Rattle.shifted_classes.proofs.ShiftedParts.{length-shifted}
use Rattle.merging_laws.proofs.BridgingTheorems.{new-agrees}

-- ---- `new` makes neither more members nor more classes

-- what a class that goes keeps, the kept list keeps
kept-keeps : (P : List Class → Type 0) → ((cs : List Class) (i : ℕ) → i < length cs → P cs → P (removed cs i)) → (i : ℕ) (cs : List Class) → i ≤ length cs → P cs → P (drop_below i cs)
unfolding drop_below dropped_at
kept-keeps P h zero cs l p = p
kept-keeps P h (suc i) cs l p = let d = go (is_trivial (class_at cs i)) in kept-keeps P h i (dropped_at cs i) d.0 d.1
  where
    go : (b : Bool) → (i ≤ length (if b then removed cs i else cs)) × P (if b then removed cs i else cs)
    go true = (omega (arith, length_removed cs i), h cs i (omega arith) p)
    go false = (omega arith, p)

-- a class that takes in another
total-bridged : (cs : List Class) (i j : ℕ) → Meets cs i j → total (bridged cs i j) ≤ total cs
unfolding bridged missing
total-bridged cs i j m =
    let a = total-merged_at (removed cs j) i (missing (class_at cs i) (class_at cs j)) (meets-low cs i j m) in
    let b = total-removed cs j m.below in
    let c = length_without (class_at cs i).members (class_at cs j).members in
    omega arith

-- the members and the classes of the result
pub from-fewer : (n k : ℕ) (cs : List Class) → total cs ≤ n → length cs ≤ k → (total (from_classes cs) ≤ n) × (length (from_classes cs) ≤ k)
unfolding from_classes kept_classes
from-fewer n k cs a b =
    let P : List Class → Type 0 = λ ds. (total ds ≤ n) × (length ds ≤ k) in
    let q : P (drop_below (length cs) cs) =
    kept-keeps P (λ ds i l p. (omega (arith, total-removed ds i l, p.0), omega (arith, length_removed ds i, p.1))) (length cs) cs (omega arith) (a, b) in
    (bridge_keeps (λ i ds. P ds) (λ i ds l e p. p)
    (λ i j ds l m p. (omega (arith, total-bridged ds i j m, p.0), omega (arith, length-bridged ds i j, p.1))) (drop_below (length cs) cs) q).2

-- a list within the bounds becomes a group within the bounds
pub from-fits : (n : ℕ) (cs : List Class) → fits n cs ≡ true → fits n (from_classes cs) ≡ true
unfolding fits
from-fits n cs h =
    let p = from-fewer n 64 cs (leb-true (total cs) n (and_left (leb (total cs) n) (leb (length cs) 64) h)) (leb-true (length cs) 64 (and_right (leb (total cs) n) (leb (length cs) 64) h)) in
    and_both (le-leb (total (from_classes cs)) n p.0) (le-leb (length (from_classes cs)) 64 p.1)

-- ---- pairs as equal conditions

-- both sides of each pair are below n
abbrev pub SidesBelow : ℕ → List (ℕ × ℕ) → Type 0
SidesBelow n ps = (a b : ℕ) → Memᴰ (a, b) ps → (a < n) × (b < n)

-- a good group within the bounds stays one
pub equated-good : (ns : List Node) (ps : List (ℕ × ℕ)) (cs ds : List Class) → SidesBelow (length ns) ps → Good ns cs → fits 256 cs ≡ true → equated_all ns ps cs ≡ Some ds → Good ns ds × (fits 256 ds ≡ true)
unfolding equated_all
equated-good ns [] cs ds b g f e = let t : cs ≡ ds = cc in subst (λ (l : List Class). Good ns l × (fits 256 l ≡ true)) t (g, f)
equated-good ns (p ∷ ps) cs ds b g f e =
    let s = b p.0 p.1 (Memᴰ.head refl) in
    go (fits 256 (equal_condition ns cs p.0 p.1).1) refl e
    (equated-good ns ps (equal_condition ns cs p.0 p.1).1 ds (λ x y m. b x y (Memᴰ.tail m)) (condition_good ns cs p.0 p.1 g s.0 s.1))
  where
    go : (t : Bool) → fits 256 (equal_condition ns cs p.0 p.1).1 ≡ t → (if t then equated_all ns ps (equal_condition ns cs p.0 p.1).1 else None) ≡ Some ds
        → (fits 256 (equal_condition ns cs p.0 p.1).1 ≡ true → equated_all ns ps (equal_condition ns cs p.0 p.1).1 ≡ Some ds → Good ns ds × (fits 256 ds ≡ true))
        → Good ns ds × (fits 256 ds ≡ true)
    go true q r h = h q r
    go false q r h = absurd (let z : ◌≡◌ {A = ℕ} 0 1 = cc in omega arith)

module _ {A : Type 0} (ns : List Node) (m : Meaning A) (row : Row A) where
  -- whoever is with another has its value
  with-same : (cs : List Class) → MembersAgree ns cs m row → (x y : ℕ) → With cs x y → Same ns m row x y
  with-same cs h x y (inl e) = ap (λ (k : ℕ). value (expression_at ns k) m row) e
  with-same cs h x y (inr s) = let t = same_together cs x y s in h t.place x y t.below t.left t.right

  -- an equal condition of two expressions that have one value on the row
  condition_agrees : (cs : List Class) → Once cs → MembersAgree ns cs m row → (a b : ℕ) → Same ns m row a b → MembersAgree ns (equal_condition ns cs a b).1 m row
  condition_agrees cs o h a b s i x y l p q = at ((condition_joins ns cs o a b).only x y (record { place = i; below = l; left = p; right = q }))
    where
      near : (z : ℕ) → With cs a z ⊎ With cs b z → Same ns m row a z
      near z (inl w) = with-same cs h a z w
      near z (inr w) = s ∙ with-same cs h b z w

      at : Together cs x y ⊎ ((With cs a x ⊎ With cs b x) × (With cs a y ⊎ With cs b y)) → Same ns m row x y
      at (inl t) = h t.place x y t.below t.left t.right
      at (inr w) = sym (near x w.0) ∙ near y w.1

  -- pairs that agree on the row, one after the other
  pub equated-agrees : (ps : List (ℕ × ℕ)) (cs ds : List Class) → Once cs → MembersAgree ns cs m row → PairsAgree ns ps m row → equated_all ns ps cs ≡ Some ds → MembersAgree ns ds m row
  unfolding equated_all
  equated-agrees [] cs ds o h b e = let t : cs ≡ ds = cc in subst (λ (l : List Class). MembersAgree ns l m row) t h
  equated-agrees (p ∷ ps) cs ds o h b e =
      go (fits 256 (equal_condition ns cs p.0 p.1).1) e
      (equated-agrees ps (equal_condition ns cs p.0 p.1).1 ds (condition_joins ns cs o p.0 p.1).once
      (condition_agrees cs o h p.0 p.1 (b p.0 p.1 (Memᴰ.head refl))) (λ x y k. b x y (Memᴰ.tail k)))
    where
      go : (t : Bool) → (if t then equated_all ns ps (equal_condition ns cs p.0 p.1).1 else None) ≡ Some ds
          → (equated_all ns ps (equal_condition ns cs p.0 p.1).1 ≡ Some ds → MembersAgree ns ds m row) → MembersAgree ns ds m row
      go true r k = k r
      go false r k = absurd (let z : ◌≡◌ {A = ℕ} 0 1 = cc in omega arith)

-- ---- shifted classes and shifted pairs, by what their numbers stand for

-- the members of a class of expressions are among them
pushed-from : (ns : List Node) (es : List ℕ) (c : Class) (x : ℕ) → among x (pushed_all ns c es).members ≡ true → (among x c.members ≡ true) ⊎ ((k : ℕ) × (k < length es) × (get_or es k 0 ≡ x))
unfolding pushed_all pushed single
pushed-from ns [] c x h = inl h
pushed-from ns (e ∷ es) c x h = later (pushed-from ns es (pushed ns c e) x h)
  where
    first : (among x c.members ≡ true) ⊎ (among x (e ∷ []) ≡ true) → (among x c.members ≡ true) ⊎ ((k : ℕ) × (k < length (e ∷ es)) × (get_or (e ∷ es) k 0 ≡ x))
    first (inl p) = inl p
    first (inr p) = inr (0, omega arith, among_one x e p)

    later : (among x (pushed ns c e).members ≡ true) ⊎ ((k : ℕ) × (k < length es) × (get_or es k 0 ≡ x)) → (among x c.members ≡ true) ⊎ ((k : ℕ) × (k < length (e ∷ es)) × (get_or (e ∷ es) k 0 ≡ x))
    later (inl p) = first (extended-from c (single ns e) x p)
    later (inr p) = inr (suc p.0, omega (arith, p.1), p.2)

-- so each has a place there
pub from_place : (ns : List Node) (es : List ℕ) (x : ℕ) → among x (class_from ns es).members ≡ true → (k : ℕ) × (k < length es) × (get_or es k 0 ≡ x)
unfolding class_from among
from_place ns es x h = go (pushed-from ns es nothing x h)
  where
    go : (among x [] ≡ true) ⊎ ((k : ℕ) × (k < length es) × (get_or es k 0 ≡ x)) → (k : ℕ) × (k < length es) × (get_or es k 0 ≡ x)
    go (inl p) = absurd (true_not_false p refl)
    go (inr p) = p

-- each member of a shifted class stands for a member of the class, where the numbers stand for the members in order
pub shifted-member : (T : ℕ → ℕ → Type 0) (os : List Node) (rs : List Class) (ks : List ℕ) → ((j : ℕ) → j < length (flat rs) → T (get_or ks j 0) (get_or (flat rs) j 0))
    → (i x : ℕ) → i < length rs → among x (class_at (shifted_classes os rs ks) i).members ≡ true → (e : ℕ) × (among e (class_at rs i).members ≡ true) × T x e
unfolding shifted_classes flat
shifted-member T os [] ks h i x l p = absurd (omega arith)
shifted-member T os (c ∷ cs) ks h zero x l p =
    let n = length c.members in
    let f = from_place os (take n ks) x p in
    let j = f.0 in
    let b : j < n = omega (arith, f.1, length-take n ks) in
    let q : get_or ks j 0 ≡ x = sym (get_or-take n ks j 0 b) ∙ f.2 in
    let r : get_or (c.members ++ flat cs) j 0 ≡ get_or c.members j 0 = get_or-append c.members (flat cs) 0 j b in
    let t = h j (omega (arith, length-append c.members (flat cs))) in
    (get_or c.members j 0, get_or-among c.members j b, subst (λ (k : ℕ). T k (get_or c.members j 0)) q (subst (λ (k : ℕ). T (get_or ks j 0) k) r t))
shifted-member T os (c ∷ cs) ks h (suc i) x l p =
    let n = length c.members in
    shifted-member T os cs (drop n ks)
    (λ j b. subst (λ (k : ℕ). T k (get_or (flat cs) j 0)) (sym (get_or-drop n ks j 0))
    (subst (λ (k : ℕ). T (get_or ks (n + j) 0) k) (get_or-append-add c.members (flat cs) j 0) (h (n + j) (omega (arith, length-append c.members (flat cs))))))
    i x (omega arith) p

-- the right sides of pairs
abbrev pub rights_of : List (ℕ × ℕ) → List ℕ
rights_of ps = map (λ (p : ℕ × ℕ). p.1) ps

-- each pair with another right side is a pair whose right side the new one stands for
pub rights-member : (T : ℕ → ℕ → Type 0) (ps : List (ℕ × ℕ)) (ks : List ℕ) → ((j : ℕ) → j < length (rights_of ps) → T (get_or ks j 0) (get_or (rights_of ps) j 0))
    → (a k : ℕ) → Memᴰ (a, k) (with_rights ps ks) → (b : ℕ) × Memᴰ (a, b) ps × T k b
unfolding with_rights
rights-member T [] ks h a k m = absurd (Memᴰ.not-nil m)
rights-member T (p ∷ ps) [] h a k m = absurd (Memᴰ.not-nil m)
rights-member T (p ∷ ps) (x ∷ ks) h a k m = go (Memᴰ.cases_cons m) (rights-member T ps ks (λ j l. h (suc j) (omega arith)) a k)
  where
    go : (◌≡◌ {A = ℕ × ℕ} (a, k) (p.0, x)) ⊎ Memᴰ (a, k) (with_rights ps ks) → (Memᴰ (a, k) (with_rights ps ks) → (b : ℕ) × Memᴰ (a, b) ps × T k b) → (b : ℕ) × Memᴰ (a, b) (p ∷ ps) × T k b
    go (inl e) r =
        let s : a ≡ p.0 = ap (λ (q : ℕ × ℕ). q.0) e in
        let t : k ≡ x = ap (λ (q : ℕ × ℕ). q.1) e in
        let w : ◌≡◌ {A = ℕ × ℕ} (a, p.1) p = ap {B = ℕ × ℕ} (λ (y : ℕ). (y, p.1)) s in
        (p.1, Memᴰ.head w, subst (λ (y : ℕ). T y p.1) (sym t) (h 0 (omega arith)))
    go (inr n) r = let q = r n in (q.0, Memᴰ.tail q.1, q.2)

-- ---- a join that was made

-- what was shifted, what was placed, and what came of it
pub record Made (ls rs : List Class) (size : ℕ) (ps : List (ℕ × ℕ)) (ns : List Node) (r : Changed) (ms : List Node) : Type 0 where
  pub numbers : List ℕ
  pub classes : List Class
  pub moves : all_move (moved (pos size)) ns (to_shift rs ps) ≡ true
  pub shifts : shifted_numbers (moved (pos size)) ns (to_shift rs ps) ns ≡ placed numbers ms
  pub fitting : fits 256 (ls ++ shifted_classes ms rs numbers) ≡ true
  pub equates : equated_all ms (with_rights ps (drop (length (flat rs)) numbers)) (from_classes (ls ++ shifted_classes ms rs numbers)) ≡ Some classes
  pub is : r ≡ made_group classes

-- a refusal is not 0
pub number-positive : (why : Refusal) → 0 < refusal_number why
number-positive UnknownExpression = omega arith
number-positive TooManyChildren = omega arith
number-positive ArenaFull = omega arith
number-positive GroupFull = omega arith
number-positive TooLarge = omega arith
number-positive UnknownKey = omega arith
number-positive NoTarget = omega arith
number-positive OutputShort = omega arith
number-positive Malformed = omega arith
number-positive IndexOutOfRange = omega arith
number-positive BadState = omega arith
number-positive BadNumber = omega arith

module _ (left : Group) (rs : List Class) (size : ℕ) (ps : List (ℕ × ℕ)) (ns : List Node) (r : Changed) (ms : List Node) (zero_is : changed_number r ≡ 0) where
  -- a refusal has a number
  refused-not : (k : ℕ) → refused_group k left ns ≡ (r, ms) → ⊥
  unfolding refused_group
  refused-not k e = let t : refusal_number (refusal k) ≡ changed_number r = ap (λ (o : Changed × List Node). changed_number o.0) e in omega (arith, zero_is, number-positive (refusal k))

  -- the list that reaches `new`
  abbrev list : List ℕ → List Node → List Class
  list ks os = decode left ++ shifted_classes os rs ks

  -- once the nodes are there
  made_option : (ks : List ℕ) (os : List Node) → all_move (moved (pos size)) ns (to_shift rs ps) ≡ true → shifted_numbers (moved (pos size)) ns (to_shift rs ps) ns ≡ placed ks os
      → made_or_refused left ns os (joined_over os (decode left) rs ps ks) ≡ (r, ms) → Made (decode left) rs size ps ns r ms
  unfolding made_or_refused joined_over joined_classes
  made_option ks os m s e = go (fits 256 (list ks os)) refl e
    where
      pairs : List (ℕ × ℕ)
      pairs = with_rights ps (drop (length (flat rs)) ks)

      at : (o : Option (List Class)) → fits 256 (list ks os) ≡ true → equated_all os pairs (from_classes (list ks os)) ≡ o → made_or_refused left ns os o ≡ (r, ms) → Made (decode left) rs size ps ns r ms
      at None f q t = absurd (refused-not 4 t)
      at (Some cs) f q t =
          let w : os ≡ ms = ap (λ (o : Changed × List Node). o.1) t in
          record {
            numbers = ks;
            classes = cs;
            moves = m;
            shifts = s ∙ ap (λ (o : List Node). placed ks o) w;
            fitting = subst (λ (o : List Node). fits 256 (list ks o) ≡ true) w f;
            equates = subst (λ (o : List Node). equated_all o pairs (from_classes (list ks o)) ≡ Some cs) w q;
            is = sym (ap (λ (o : Changed × List Node). o.0) t);
          }

      go : (b : Bool) → fits 256 (list ks os) ≡ b → made_or_refused left ns os (if b then equated_all os pairs (from_classes (list ks os)) else None) ≡ (r, ms) → Made (decode left) rs size ps ns r ms
      go true f t = at (equated_all os pairs (from_classes (list ks os))) f refl t
      go false f t = absurd (refused-not 4 t)

  -- a shifted join that is no refusal was made
  pub shifted-made : join_shifted left rs size ps ns ≡ (r, ms) → Made (decode left) rs size ps ns r ms
  unfolding join_shifted join_placed
  shifted-made e = go (all_move (moved (pos size)) ns (to_shift rs ps)) refl e
    where
      at : all_move (moved (pos size)) ns (to_shift rs ps) ≡ true → (o : Placed (List ℕ)) → shifted_numbers (moved (pos size)) ns (to_shift rs ps) ns ≡ o → join_placed left rs ps ns o ≡ (r, ms) → Made (decode left) rs size ps ns r ms
      at m (placed ks os) s t = made_option ks os m s t
      at m full s t = absurd (refused-not 3 t)

      go : (b : Bool) → all_move (moved (pos size)) ns (to_shift rs ps) ≡ b
          → (if b then join_placed left rs ps ns (shifted_numbers (moved (pos size)) ns (to_shift rs ps) ns) else refused_group 10 left ns) ≡ (r, ms) → Made (decode left) rs size ps ns r ms
      go true m t = at m (shifted_numbers (moved (pos size)) ns (to_shift rs ps) ns) refl t
      go false m t = absurd (refused-not 10 t)

-- numbers below a bound, one list after the other
pub below-append : (n : ℕ) (xs ys : List ℕ) → AllBelow n xs → AllBelow n ys → AllBelow n (xs ++ ys)
below-append n xs ys a b k l = go (dec_lt k (length xs))
  where
    go : Dec (k < length xs) → get_or (xs ++ ys) k 0 < n
    go (yes h) = rw (get_or-append xs ys 0 k h) (a k h)
    go (no h) =
        let e : k ≡ length xs + (k - length xs) = omega arith in
        subst (λ (j : ℕ). get_or (xs ++ ys) j 0 < n) (sym e) (rw (get_or-append-add xs ys (k - length xs) 0) (b (k - length xs) (omega (arith, length-append xs ys))))

-- the right sides of pairs below a bound
pub below-rights : (n : ℕ) (ps : List (ℕ × ℕ)) → SidesBelow n ps → AllBelow n (rights_of ps)
below-rights n [] b k l = absurd (omega arith)
below-rights n (p ∷ ps) b zero l = (b p.0 p.1 (Memᴰ.head refl)).1
below-rights n (p ∷ ps) b (suc k) l = below-rights n ps (λ x y m. b x y (Memᴰ.tail m)) k (omega arith)

-- a row as a shifted side reads it
abbrev pub row_from : {A : Type 0} → ℕ → Row A → Row A
row_from size row = λ name index. row name (index + size)

-- where an index that can move goes
moved-is : (size index : ℕ) → is_some (moved (pos size) index) ≡ true → moved (pos size) index ≡ Some (index + size)
unfolding moved within
moved-is size index h = go (ltb (index + size) 65536) h
  where
    go : (b : Bool) → is_some (if b then Some (index + size) else None) ≡ true → (if b then Some (index + size) else None) ≡ Some (index + size)
    go true p = refl
    go false p = absurd (true_not_false p refl)

module _ {A : Type 0} (size : ℕ) (m : Meaning A) (row : Row A) where
  mutual
    unfolding value values shifted all_shifted can_move children_move

    -- the value of a shifted expression that can move is its value on the row read through the shift
    pub value-moved : (e : Expression) → can_move (moved (pos size)) e ≡ true → value (shifted (moved (pos size)) e) m row ≡ value e m (row_from size row)
    value-moved (col name index) h = rw (moved-is size index h)
    value-moved (lit v) h = refl
    value-moved (op label es) h = ap (λ vs. m.operation label vs) (values_moved es h)

    -- the same for expressions in a row
    pub values_moved : (es : Expressions) → children_move (moved (pos size)) es ≡ true → values (all_shifted (moved (pos size)) es) m row ≡ values es m (row_from size row)
    values_moved ∅ h = refl
    values_moved (e ▹ es) h =
        ap₂ (λ v vs. v ∷ vs) (value-moved e (and_left (can_move (moved (pos size)) e) (children_move (moved (pos size)) es) h))
        (values_moved es (and_right (can_move (moved (pos size)) e) (children_move (moved (pos size)) es) h))

module _ (ls rs : List Class) (size : ℕ) (ps : List (ℕ × ℕ)) (ns : List Node) (r : Changed) (ms : List Node)
    (s : Sound ns) (gl : Good ns ls) (gr : Good ns rs) (b : SidesBelow (length ns) ps) (d : Made ls rs size ps ns r ms) where
  -- the numbers stand for what was shifted
  pub made-to : ShiftedTo (moved (pos size)) ns (to_shift rs ps) ns d.numbers ms
  unfolding to_shift
  made-to =
      numbers-shifted (moved (pos size)) (moved-within (pos size)) ns s (to_shift rs ps)
      (below-append (length ns) (flat rs) (rights_of ps) (flat-below ns rs gr) (below-rights (length ns) ps b)) d.moves ns s d.numbers ms d.shifts

  -- the list that reaches `new`
  abbrev reaching : List Class
  reaching = ls ++ shifted_classes ms rs d.numbers

  -- it is fair
  pub made_fair : Fair ms reaching
  made_fair =
      sane_fair ms reaching (all_append (Sane ms) ls (shifted_classes ms rs d.numbers) (good_sane ns ms ls made-to.extends gl) (sane_shifted ms rs d.numbers made-to.stand.below))

  -- the pairs with their right sides shifted
  abbrev pairs : List (ℕ × ℕ)
  pairs = with_rights ps (drop (length (flat rs)) d.numbers)

  -- number j after those of the members
  right-place : (j : ℕ) → j < length (rights_of ps) → length (flat rs) + j < length d.numbers
  unfolding to_shift
  right-place j l = let c = made-to.stand.counted in omega (arith, length-append (flat rs) (rights_of ps))

  -- both sides of each are in the arena
  made-sides : SidesBelow (length ms) pairs
  made-sides a k h =
      let t = rights-member (λ x y. x < length ms) ps (drop (length (flat rs)) d.numbers)
      (λ j l. subst (λ (x : ℕ). x < length ms) (sym (get_or-drop (length (flat rs)) d.numbers j 0)) (made-to.stand.below (length (flat rs) + j) (right-place j l))) a k h in
      (let q = (b a t.0 t.1).0 in omega (arith, extends-longer made-to.extends), t.2)

  -- what came of it is a good group within the bounds
  pub made-good : Good ms d.classes × (fits 256 d.classes ≡ true)
  made-good = equated-good ms pairs (from_classes reaching) d.classes made-sides (from-good ms reaching made_fair) (from-fits 256 reaching d.fitting) d.equates

  module _ {A : Type 0} (m : Meaning A) (row : Row A) where
    -- a number stands for an expression of the arena before, on the row read through the shift
    abbrev Reads : ℕ → ℕ → Type 0
    Reads k e = value (expression_at ms k) m row ≡ value (expression_at ns e) m (row_from size row)

    -- so does each number of what was shifted
    reads : (j : ℕ) → j < length d.numbers → Reads (get_or d.numbers j 0) (get_or (to_shift rs ps) j 0)
    reads j l =
        ap (λ (e : Expression). value e m row) (made-to.stand.is j l)
        ∙ value-moved size m row (expression_at ns (get_or (to_shift rs ps) j 0)) (each-moves (moved (pos size)) ns (to_shift rs ps) d.moves j (let c = made-to.stand.counted in omega arith))

    -- those of the members
    reads-member : (j : ℕ) → j < length (flat rs) → Reads (get_or d.numbers j 0) (get_or (flat rs) j 0)
    unfolding to_shift
    reads-member j l =
        let c = made-to.stand.counted in
        subst (λ (e : ℕ). Reads (get_or d.numbers j 0) e) (get_or-append (flat rs) (rights_of ps) 0 j l) (reads j (omega (arith, length-append (flat rs) (rights_of ps))))

    -- and those of the right sides
    reads-right : (j : ℕ) → j < length (rights_of ps) → Reads (get_or (drop (length (flat rs)) d.numbers) j 0) (get_or (rights_of ps) j 0)
    unfolding to_shift
    reads-right j l =
        subst (λ (k : ℕ). Reads k (get_or (rights_of ps) j 0)) (sym (get_or-drop (length (flat rs)) d.numbers j 0))
        (subst (λ (e : ℕ). Reads (get_or d.numbers (length (flat rs) + j) 0) e) (get_or-append-add (flat rs) (rights_of ps) j 0) (reads (length (flat rs) + j) (right-place j l)))

    -- on a row on which the left classes agree, the right ones as they are read through the shift, and the pairs, the joined classes agree
    pub made-agrees : MembersAgree ns ls m row → MembersAgree ns rs m (row_from size row)
        → ((x y : ℕ) → Memᴰ (x, y) ps → value (expression_at ns x) m row ≡ value (expression_at ns y) m (row_from size row)) → MembersAgree ms d.classes m row
    made-agrees hl hr hp =
        equated-agrees ms m row pairs (from_classes reaching) d.classes (distinct-once (from_classes reaching) (from-good ms reaching made_fair).distinct)
        (new-agrees ms reaching m row (λ i x y l p q. both i l x y p q)) sides d.equates
      where
        kept : (x : ℕ) → x < length ns → value (expression_at ms x) m row ≡ value (expression_at ns x) m row
        kept x l = value-kept made-to.extends x l m row

        lefts : All (Within (Same ms m row)) ls
        lefts i l x y p q = kept x (gl.inside x (class-flat ls x i l p)) ∙ hl i x y l p q ∙ sym (kept y (gl.inside y (class-flat ls y i l q)))

        rights : All (Within (Same ms m row)) (shifted_classes ms rs d.numbers)
        rights i l x y p q =
            let k : i < length rs = omega (arith, length-shifted ms rs d.numbers) in
            let u = shifted-member Reads ms rs d.numbers reads-member i x k p in
            let v = shifted-member Reads ms rs d.numbers reads-member i y k q in
            u.2 ∙ hr i u.0 v.0 k u.1 v.1 ∙ sym v.2

        both : All (Within (Same ms m row)) reaching
        both = all_append (Within (Same ms m row)) ls (shifted_classes ms rs d.numbers) lefts rights

        sides : PairsAgree ms pairs m row
        sides a k h =
            let t = rights-member Reads ps (drop (length (flat rs)) d.numbers) reads-right a k h in
            kept a (b a t.0 t.1).0 ∙ hp a t.0 t.1 ∙ sym t.2
