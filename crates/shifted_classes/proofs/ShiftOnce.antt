-- Shifting is injective: two different expressions that can move stay different. The numbers of expressions shifted stand for the shifted expressions, and different expressions have different numbers.
use Prim.Native.Nat.{ℕ, zero, suc, ◌+◌, ◌-◌, ◌<◌}
use mathlib.Core.Bool.{true}
use mathlib.Core.List.{List, [], ◌∷◌}
use Rattle.std.specs.Prelude.{Option, None, Some, is_some, unwrap_or}
use mathlib.Core.Path.{◌≡◌, refl, sym, ap, ◌∙◌, subst}
use native.Mathlib.Omega.{arith}
use lib.ListN.{length, get_or}
use Rattle.laws.proofs.Booleans.{true_not_false, and_left, and_right}
use Rattle.arena.specs.Node.{Node}
use Rattle.arena.specs.Expression.{Expression, Expressions, col, lit, op, ∅, ◌▹◌, expression_at}
use Rattle.arena.specs.Arena.{Sound, Extends, placed, and_then, add_expression}
use Rattle.shifting.specs.Shift.{can_move, shifted, all_shifted, all_move as children_move}
use Rattle.shifting.specs.Inner.{lifted}
use Rattle.arena.proofs.Nodes.{extends-none, extends-both, extends-longer}
use Rattle.arena.proofs.Trees.{expression-kept, expression-small, distinct-expressions}
use Rattle.arena.proofs.Growing.{between, add-expression}
use Rattle.shifting.proofs.Values.{shifted-small}
use Rattle.shifting.proofs.Shifts.{index-moves}
use Rattle.classes.specs.Good.{Distinct}
use Rattle.merging.specs.Inner.{AllBelow}
use Rattle.shifted_classes.specs.Shifting.{all_move, shifted_numbers}

-- two indices that can move don't move to one place
abbrev pub Injective : (ℕ → Option ℕ) → Type 0
Injective to = (i j : ℕ) → is_some (to i) ≡ true → is_some (to j) ≡ true → to i ≡ to j → i ≡ j

-- every place that an index moves to has 16 bits
abbrev pub Narrow : (ℕ → Option ℕ) → Type 0
Narrow to = (i n : ℕ) → to i ≡ Some n → n < 65536

-- a lift moves no two indices to one place
pub lifted-injective : (lift : ℕ) → Injective (lifted lift)
lifted-injective lift i j p q e =
    let a = index-moves lift i p in
    let b = index-moves lift j q in
    let t : i + lift - 65535 ≡ j + lift - 65535 = cc (sym a.is ∙ e ∙ b.is) in
    omega (arith, a.low, b.low)

-- the place where an index moves, where it can
index-apart : (to : ℕ → Option ℕ) → Injective to → (i j : ℕ) → is_some (to i) ≡ true → is_some (to j) ≡ true → unwrap_or (to i) i ≡ unwrap_or (to j) j → i ≡ j
index-apart to inj i j p q e = go (to i) (to j) refl refl p q e
  where
    go : (o r : Option ℕ) → to i ≡ o → to j ≡ r → is_some o ≡ true → is_some r ≡ true → unwrap_or o i ≡ unwrap_or r j → i ≡ j
    go None r s t p q e = absurd (true_not_false p refl)
    go (Some n) None s t p q e = absurd (true_not_false q refl)
    go (Some n) (Some k) s t p q e = inj i j (ap is_some s) (ap is_some t) (s ∙ ap {B = Option ℕ} Some e ∙ sym t)

module _ (to : ℕ → Option ℕ) (inj : Injective to) where
  mutual
    unfolding shifted all_shifted can_move children_move

    -- two expressions that can move and are equal afterwards were equal before
    pub shifted-apart : (a b : Expression) → can_move to a ≡ true → can_move to b ≡ true → shifted to a ≡ shifted to b → a ≡ b
    shifted-apart (col n i) (col m j) p q e =
        let s : n ≡ m = cc in
        let t : i ≡ j = index-apart to inj i j p q (cc) in
        cc
    shifted-apart (col n i) (lit w) p q e = absurd (let z : ◌≡◌ {A = ℕ} 0 1 = cc in omega arith)
    shifted-apart (col n i) (op m ys) p q e = absurd (let z : ◌≡◌ {A = ℕ} 0 1 = cc in omega arith)
    shifted-apart (lit v) (col m j) p q e = absurd (let z : ◌≡◌ {A = ℕ} 0 1 = cc in omega arith)
    shifted-apart (lit v) (lit w) p q e = e
    shifted-apart (lit v) (op m ys) p q e = absurd (let z : ◌≡◌ {A = ℕ} 0 1 = cc in omega arith)
    shifted-apart (op l xs) (col m j) p q e = absurd (let z : ◌≡◌ {A = ℕ} 0 1 = cc in omega arith)
    shifted-apart (op l xs) (lit w) p q e = absurd (let z : ◌≡◌ {A = ℕ} 0 1 = cc in omega arith)
    shifted-apart (op l xs) (op m ys) p q e =
        let s : l ≡ m = cc in
        let t : xs ≡ ys = all_shifted-apart xs ys p q (cc) in
        cc

    -- the same for expressions in a row
    pub all_shifted-apart : (xs ys : Expressions) → children_move to xs ≡ true → children_move to ys ≡ true → all_shifted to xs ≡ all_shifted to ys → xs ≡ ys
    all_shifted-apart ∅ ∅ p q e = refl
    all_shifted-apart ∅ (b ▹ ys) p q e = absurd (let z : ◌≡◌ {A = ℕ} 0 1 = cc in omega arith)
    all_shifted-apart (a ▹ xs) ∅ p q e = absurd (let z : ◌≡◌ {A = ℕ} 0 1 = cc in omega arith)
    all_shifted-apart (a ▹ xs) (b ▹ ys) p q e =
        let s : a ≡ b = shifted-apart a b (and_left (can_move to a) (children_move to xs) p) (and_left (can_move to b) (children_move to ys) q) (cc) in
        let t : xs ≡ ys = all_shifted-apart xs ys (and_right (can_move to a) (children_move to xs) p) (and_right (can_move to b) (children_move to ys) q) (cc) in
        cc

-- where all of a list can move, each does
pub each-moves : (to : ℕ → Option ℕ) (ns : List Node) (es : List ℕ) → all_move to ns es ≡ true → (k : ℕ) → k < length es → can_move to (expression_at ns (get_or es k 0)) ≡ true
unfolding all_move
each-moves to ns [] m k l = absurd (omega arith)
each-moves to ns (e ∷ es) m zero l = and_left (can_move to (expression_at ns e)) (all_move to ns es) m
each-moves to ns (e ∷ es) m (suc k) l = each-moves to ns es (and_right (can_move to (expression_at ns e)) (all_move to ns es) m) k (omega arith)

-- numbers ks of the arena os stand for the expressions es of the arena ns, shifted
pub record Stand (to : ℕ → Option ℕ) (ns : List Node) (es : List ℕ) (os : List Node) (ks : List ℕ) : Type 0 where
  pub counted : length ks ≡ length es
  pub below : AllBelow (length os) ks
  pub is : (k : ℕ) → k < length ks → expression_at os (get_or ks k 0) ≡ shifted to (expression_at ns (get_or es k 0))

-- none for none
stand-none : (to : ℕ → Option ℕ) (ns os : List Node) → Stand to ns [] os []
stand-none to ns os = record { counted = refl; below = λ k l. absurd (omega arith); is = λ k l. absurd (omega arith) }

-- one more at the front
stand-more : (to : ℕ → Option ℕ) (ns os : List Node) (e k : ℕ) (es ks : List ℕ) → k < length os → expression_at os k ≡ shifted to (expression_at ns e) → Stand to ns es os ks → Stand to ns (e ∷ es) os (k ∷ ks)
stand-more to ns os e k es ks l q s = record { counted = ap suc s.counted; below = below; is = is }
  where
    below : (j : ℕ) → j < length (k ∷ ks) → get_or (k ∷ ks) j 0 < length os
    below zero b = l
    below (suc j) b = s.below j (omega arith)

    is : (j : ℕ) → j < length (k ∷ ks) → expression_at os (get_or (k ∷ ks) j 0) ≡ shifted to (expression_at ns (get_or (e ∷ es) j 0))
    is zero b = q
    is (suc j) b = s.is j (omega arith)

-- they stand for the same in an arena that has grown
pub stand-kept : (to : ℕ → Option ℕ) (ns : List Node) (es ks : List ℕ) {ms os : List Node} → Extends ms os → Stand to ns es ms ks → Stand to ns es os ks
stand-kept to ns es ks x s = record {
  counted = s.counted;
  below = λ k l. let b = s.below k l in omega (arith, extends-longer x);
  is = λ k l. expression-kept x (get_or ks k 0) (s.below k l) ∙ s.is k l;
}

-- what shifting a list comes to: the arena is extended, it is sound, and the numbers stand for what was shifted
pub record ShiftedTo (to : ℕ → Option ℕ) (ns : List Node) (es : List ℕ) (ms : List Node) (ks : List ℕ) (os : List Node) : Type 0 where
  pub extends : Extends ms os
  pub sound : Sound os
  pub stand : Stand to ns es os ks

-- the numbers and the arena that were placed
placed-shifted : (to : ℕ → Option ℕ) (ns : List Node) (es : List ℕ) (ms : List Node) (ks js : List ℕ) (os ps : List Node) → placed ks os ≡ placed js ps → ShiftedTo to ns es ms ks os → ShiftedTo to ns es ms js ps
placed-shifted to ns es ms ks js os ps e s =
    let a : ks ≡ js = cc in
    let b : os ≡ ps = cc in
    subst (λ (l : List ℕ). ShiftedTo to ns es ms l ps) a (subst (λ (o : List Node). ShiftedTo to ns es ms ks o) b s)

module _ (to : ℕ → Option ℕ) (narrow : Narrow to) (ns : List Node) (s : Sound ns) where
  -- expressions of an arena, shifted and added one after the other to an arena that has grown from it
  pub numbers-shifted : (es : List ℕ) → AllBelow (length ns) es → all_move to ns es ≡ true → (ms : List Node) → Sound ms → (ks : List ℕ) (os : List Node) → shifted_numbers to ns es ms ≡ placed ks os → ShiftedTo to ns es ms ks os
  unfolding shifted_numbers all_move
  numbers-shifted [] b m ms t ks os e =
      placed-shifted to ns [] ms [] ks ms os e (record { extends = extends-none ms; sound = t; stand = stand-none to ns ms })
  numbers-shifted (x ∷ es) b m ms t ks os e =
      let p = between (add_expression (shifted to (expression_at ns x)) ms) (λ k qs. and_then (shifted_numbers to ns es qs) (λ js rs. placed (k ∷ js) rs)) ks os e in
      let q = between (shifted_numbers to ns es p.arena) (λ js rs. placed (p.answer ∷ js) rs) ks os p.then in
      let small = shifted-small to narrow (expression_at ns x) (expression-small ns s x (b 0 (omega arith))) (and_left (can_move to (expression_at ns x)) (all_move to ns es) m) in
      let a = add-expression (shifted to (expression_at ns x)) ms t small p.answer p.arena p.first in
      let r = numbers-shifted es (λ k l. b (suc k) (omega arith)) (and_right (can_move to (expression_at ns x)) (all_move to ns es) m) p.arena a.sound q.answer q.arena q.first in
      placed-shifted to ns (x ∷ es) ms (p.answer ∷ q.answer) ks q.arena os q.then
      (record {
        extends = extends-both a.extends r.extends;
        sound = r.sound;
        stand = stand-more to ns q.arena x p.answer es q.answer (let l = a.below in omega (arith, extends-longer r.extends)) (expression-kept r.extends p.answer a.below ∙ a.is) r.stand;
      })

  -- different expressions have different numbers afterwards
  pub stand-apart : Injective to → (es : List ℕ) → AllBelow (length ns) es → all_move to ns es ≡ true → Distinct es → (os : List Node) (ks : List ℕ) → Stand to ns es os ks → Distinct ks
  stand-apart inj es b m d os ks t = record {
    apart = λ i j a l q.
        let lj : j < length es = omega (arith, t.counted) in
        let li : i < length es = omega arith in
        let e : shifted to (expression_at ns (get_or es i 0)) ≡ shifted to (expression_at ns (get_or es j 0)) =
        sym (t.is i (omega arith)) ∙ ap (λ (k : ℕ). expression_at os k) q ∙ t.is j l in
        d.apart i j a lj
        (distinct-expressions ns s (get_or es i 0) (get_or es j 0) (b i li) (b j lj)
        (shifted-apart to inj (expression_at ns (get_or es i 0)) (expression_at ns (get_or es j 0)) (each-moves to ns es m i li) (each-moves to ns es m j lj) e));
  }
