-- Shifting a list of expressions: the test and the walk by places, over two lists one after the other, over an arena that has grown, and by other moves that agree.
use Rattle.arena.specs.declared.Refusal.{Refusal}
use Rattle.arena.specs.Refusals.{Added}
use Prim.Native.Nat.{ℕ, zero, suc, ◌+◌, ◌-◌, ◌<◌, ◌≤◌}
use mathlib.Core.Bool.{Bool, true, false, ◌&&◌}
use mathlib.Core.List.{List, [], ◌∷◌, ◌++◌, append-nil}
use Rattle.std.specs.Prelude.{Option, Some, Err, Ok}
use mathlib.Core.Path.{◌≡◌, refl, sym, ap, ap₂, ◌∙◌, subst, subst₂}
use native.Mathlib.Decide.{dec_lt}
use native.Mathlib.Numerals.{add-one}
use native.Mathlib.Omega.{arith}
use borrow.Author.Tests.{lt-ltb, le-ltb}
use lib.IntN.{pos}
use lib.ListN.{length, get_or, drop, length-append, drop_of_length-le}
use lib.Seq.{drop-cons}
use Rattle.laws.specs.Tests.{each}
use Rattle.laws.proofs.Booleans.{and_left, and_right, same_test}
use Rattle.laws.proofs.Each.{each_all, each_holds}
use Rattle.arena.specs.Node.{Node}
use Rattle.arena.specs.Expression.{Expression, expression_at}
use Rattle.arena.specs.Arena.{Sound, Extends, Small, Placed, placed, full, and_then, add_expression}
use Rattle.shifting.specs.Shift.{within, moved, can_move, shifted}
use Rattle.arena.specs.Layout.{decode as nodes}
use Rattle.arena.specs.Inner.{Holds, Memo, Walked, told}
use Rattle.shifting.specs.Inner.{Ready, lifted, shifted_by}
use Rattle.arena.proofs.Nodes.{extends-none, extends-both, extends-longer}
use Rattle.arena.proofs.Trees.{expression-kept, expression-small}
use Rattle.shifting.proofs.Values.{can_move_cong, shifted_cong, shifted-small}
use Rattle.arena.proofs.Growing.{between, add-expression, add_expression-old}
use Rattle.arena.proofs.Layouts.{length-decode}
use Rattle.arena.proofs.Walking.{prefixed, prefixed-none, prefixed-more}
use Rattle.shifting.proofs.Lifts.{lifted-high, lifted-some}
use Rattle.shifting.proofs.Shifts.{lifted-within}
use Rattle.merging.specs.Inner.{AllBelow}
use Rattle.shifted_classes.specs.Shifting.{all_move, shifted_numbers}
use Rattle.shifted_classes.specs.Inner.{ReadyAll, ShiftedAll, told_numbers}

-- ---- the test

module _ (to : ℕ → Option ℕ) (ns : List Node) where
  -- where all can move, each can
  pub moves_each : (es : List ℕ) → all_move to ns es ≡ true → (k : ℕ) → k < length es → can_move to (expression_at ns (get_or es k 0)) ≡ true
  unfolding all_move
  moves_each [] e k l = absurd (omega arith)
  moves_each (x ∷ es) e zero l = and_left (can_move to (expression_at ns x)) (all_move to ns es) e
  moves_each (x ∷ es) e (suc k) l = moves_each es (and_right (can_move to (expression_at ns x)) (all_move to ns es) e) k (omega arith)

  -- all but the first
  pub moves-rest : (x : ℕ) (es : List ℕ) → all_move to ns (x ∷ es) ≡ true → all_move to ns es ≡ true
  unfolding all_move
  moves-rest x es e = and_right (can_move to (expression_at ns x)) (all_move to ns es) e

  -- and where each can, all can
  pub each-moves : (es : List ℕ) → ((k : ℕ) → k < length es → can_move to (expression_at ns (get_or es k 0)) ≡ true) → all_move to ns es ≡ true
  unfolding all_move
  each-moves [] h = refl
  each-moves (x ∷ es) h = rw (h 0 (omega arith), each-moves es (λ k l. h (suc k) (omega arith)))

  -- of two lists one after the other
  pub moves-append : (xs ys : List ℕ) → all_move to ns (xs ++ ys) ≡ (all_move to ns xs && all_move to ns ys)
  unfolding all_move
  moves-append [] ys = refl
  moves-append (x ∷ xs) ys = rw (moves-append xs ys) (sym (and_assoc (can_move to (expression_at ns x)) (all_move to ns xs) (all_move to ns ys)))
    where
      and_assoc : (a b c : Bool) → ((a && b) && c) ≡ (a && (b && c))
      and_assoc true b c = refl
      and_assoc false b c = refl

  -- by a table of the nodes that can move
  pub moves-table : (table : List Bool) → ((j : ℕ) → j < length ns → get_or table j false ≡ can_move to (expression_at ns j)) → (es : List ℕ) → AllBelow (length ns) es
      → each (λ k. get_or table (get_or es k 0) false) (length es) ≡ all_move to ns es
  moves-table table h es b =
      same_test (each (λ k. get_or table (get_or es k 0) false) (length es)) (all_move to ns es)
      (λ t. each-moves es (λ k l. sym (h (get_or es k 0) (b k l)) ∙ each_holds (λ k. get_or table (get_or es k 0) false) (length es) k t l))
      (λ t. each_all (λ k. get_or table (get_or es k 0) false) (length es) (λ k l. h (get_or es k 0) (b k l) ∙ moves_each es t k l))

-- ---- the walk

-- the same is done with what was placed
and_then_cong : {A B : Type 0} (p : Placed A) (f g : A → List Node → Placed B) → ((a : A) (ns : List Node) → f a ns ≡ g a ns) → and_then p f ≡ and_then p g
unfolding and_then
and_then_cong (placed a ns) f g h = h a ns
and_then_cong full f g h = refl

-- what is handed on twice
and_then_assoc : {A B C : Type 0} (p : Placed A) (f : A → List Node → Placed B) (g : B → List Node → Placed C) → and_then (and_then p f) g ≡ and_then p (λ a ns. and_then (f a ns) g)
unfolding and_then
and_then_assoc (placed a ns) f g = refl
and_then_assoc full f g = refl

-- what is done after an expression was added
abbrev pub after_one : (ℕ → Option ℕ) → List Node → List ℕ → ℕ → List Node → Placed (List ℕ)
after_one to ns es k os = and_then (shifted_numbers to ns es os) (λ ks ps. placed (k ∷ ks) ps)

-- and after the first of two lists
abbrev pub after_list : (ℕ → Option ℕ) → List Node → List ℕ → List ℕ → List Node → Placed (List ℕ)
after_list to ns es ks os = prefixed ks (shifted_numbers to ns es os)

-- one more before what was placed
prefixed-cons : (k : ℕ) (ks : List ℕ) (o : Placed (List ℕ)) → and_then (prefixed ks o) (λ js ps. placed (k ∷ js) ps) ≡ prefixed (k ∷ ks) o
unfolding prefixed and_then
prefixed-cons k ks (placed js ms) = refl
prefixed-cons k ks full = refl

module _ (to : ℕ → Option ℕ) (ns : List Node) where
  -- the expression at a place, and then the others
  pub numbers-step : (es : List ℕ) (k : ℕ) (ms : List Node) → k < length es
      → shifted_numbers to ns (drop k es) ms ≡ and_then (add_expression (shifted to (expression_at ns (get_or es k 0))) ms) (after_one to ns (drop (k + 1) es))
  unfolding shifted_numbers
  numbers-step es k ms l = rw (drop-cons es k 0 l, add-one k)

  -- none is left
  pub numbers-done : (es : List ℕ) (k : ℕ) (ms : List Node) → length es ≤ k → shifted_numbers to ns (drop k es) ms ≡ placed [] ms
  unfolding shifted_numbers
  numbers-done es k ms l = rw (drop_of_length-le es l)

  -- two lists one after the other
  pub numbers-append : (xs ys : List ℕ) (ms : List Node) → shifted_numbers to ns (xs ++ ys) ms ≡ and_then (shifted_numbers to ns xs ms) (after_list to ns ys)
  unfolding shifted_numbers and_then
  numbers-append [] ys ms = prefixed-none (shifted_numbers to ns ys ms)
  numbers-append (x ∷ xs) ys ms =
      and_then_cong (add_expression (shifted to (expression_at ns x)) ms) (after_one to ns (xs ++ ys)) (λ k os. and_then (after_one to ns xs k os) (after_list to ns ys))
      (λ k os.
      ap (λ (o : Placed (List ℕ)). and_then o (λ ks ps. placed (k ∷ ks) ps)) (numbers-append xs ys os)
      ∙ and_then_assoc (shifted_numbers to ns xs os) (after_list to ns ys) (λ ks ps. placed (k ∷ ks) ps)
      ∙ and_then_cong (shifted_numbers to ns xs os) (λ js qs. and_then (after_list to ns ys js qs) (λ ks ps. placed (k ∷ ks) ps)) (λ js qs. after_list to ns ys (k ∷ js) qs) (λ js qs. prefixed-cons k js (shifted_numbers to ns ys qs))
      ∙ sym (and_then_assoc (shifted_numbers to ns xs os) (λ js qs. placed (k ∷ js) qs) (after_list to ns ys)))
      ∙ sym (and_then_assoc (add_expression (shifted to (expression_at ns x)) ms) (after_one to ns xs) (after_list to ns ys))

-- ---- other moves, and another arena

module _ (to to' : ℕ → Option ℕ) (ns ns' : List Node) where
  -- that make the same of each expression
  abbrev pub SameShift : List ℕ → Type 0
  SameShift es = (k : ℕ) → k < length es → shifted to (expression_at ns (get_or es k 0)) ≡ shifted to' (expression_at ns' (get_or es k 0))

  -- and of which the same can move
  abbrev pub SameMoves : List ℕ → Type 0
  SameMoves es = (k : ℕ) → k < length es → can_move to (expression_at ns (get_or es k 0)) ≡ can_move to' (expression_at ns' (get_or es k 0))

  -- they make the same numbers
  pub numbers_cong : (es : List ℕ) → SameShift es → (ms : List Node) → shifted_numbers to ns es ms ≡ shifted_numbers to' ns' es ms
  unfolding shifted_numbers
  numbers_cong [] h ms = refl
  numbers_cong (e ∷ es) h ms =
      ap (λ (x : Expression). and_then (add_expression x ms) (after_one to ns es)) (h 0 (omega arith))
      ∙ and_then_cong (add_expression (shifted to' (expression_at ns' e)) ms) (after_one to ns es) (after_one to' ns' es)
      (λ k os. ap (λ (o : Placed (List ℕ)). and_then o (λ ks ps. placed (k ∷ ks) ps)) (numbers_cong es (λ j l. h (suc j) (omega arith)) os))

  -- and the same test
  pub moves_cong : (es : List ℕ) → SameMoves es → all_move to ns es ≡ all_move to' ns' es
  unfolding all_move
  moves_cong [] h = refl
  moves_cong (e ∷ es) h = ap₂ {C = Bool} (λ (a b : Bool). a && b) (h 0 (omega arith)) (moves_cong es (λ j l. h (suc j) (omega arith)))

-- the arena has grown
module _ (to : ℕ → Option ℕ) {ns ms : List Node} (x : Extends ns ms) (es : List ℕ) (h : AllBelow (length ns) es) where
  -- the numbers are as they were
  pub grown-numbers : (os : List Node) → shifted_numbers to ms es os ≡ shifted_numbers to ns es os
  grown-numbers os = numbers_cong to to ms ns es (λ k l. ap (shifted to) (expression-kept x (get_or es k 0) (h k l))) os

  -- so is the test
  pub grown-moves : all_move to ms es ≡ all_move to ns es
  grown-moves = moves_cong to to ms ns es (λ k l. ap (can_move to) (expression-kept x (get_or es k 0) (h k l)))

-- moves that agree on 16 bits
module _ (to to' : ℕ → Option ℕ) (agree : (i : ℕ) → i < 65536 → to i ≡ to' i) (ns : List Node) (s : Sound ns) (es : List ℕ) (h : AllBelow (length ns) es) where
  -- they make the same numbers
  pub agree-numbers : (ms : List Node) → shifted_numbers to ns es ms ≡ shifted_numbers to' ns es ms
  agree-numbers ms = numbers_cong to to' ns ns es (λ k l. shifted_cong to to' agree (expression_at ns (get_or es k 0)) (expression-small ns s (get_or es k 0) (h k l))) ms

  -- and the same test
  pub agree-moves : all_move to ns es ≡ all_move to' ns es
  agree-moves = moves_cong to to' ns ns es (λ k l. can_move_cong to to' agree (expression_at ns (get_or es k 0)) (expression-small ns s (get_or es k 0) (h k l)))

-- ---- what the numbers are

-- what shifting a list comes to: the arena is extended, it is sound, and each expression has its number there
pub record AddedNumbers (ms : List Node) (es ks : List ℕ) (os : List Node) : Type 0 where
  pub extends : Extends ms os
  pub sound : Sound os
  pub counted : length ks ≡ length es
  pub below : AllBelow (length os) ks

-- the numbers and the arena are those that were placed
placed-numbers : (ms : List Node) (es ks js : List ℕ) (os ps : List Node) → placed ks os ≡ placed js ps → AddedNumbers ms es ks os → AddedNumbers ms es js ps
placed-numbers ms es ks js os ps e a = subst₂ (λ (l : List ℕ) (m : List Node). AddedNumbers ms es l m) (cc) (cc) a

-- a list with nothing in it
length_none : {A : Type 0} (l : List A) → length l ≡ 0 → l ≡ []
length_none [] e = refl
length_none (x ∷ l) e = absurd (omega arith)

-- arenas that extend each other are one
extends-same : {ns ms : List Node} → Extends ns ms → Extends ms ns → ms ≡ ns
extends-same {ns} {ms} x y =
    let z = ap (λ (l : List Node). length l) x.is in
    x.is ∙ ap (λ (l : List Node). ns ++ l) (length_none x.more (omega (arith, extends-longer y, length-append ns x.more))) ∙ append-nil ns

module _ (lift : ℕ) (ns : List Node) (s : Sound ns) where
  -- what is made of an expression that can move is small
  moved-small : (e : ℕ) → e < length ns → can_move (lifted lift) (expression_at ns e) ≡ true → Small (shifted_by lift (expression_at ns e))
  moved-small e l c = shifted-small (lifted lift) (lifted-within lift) (expression_at ns e) (expression-small ns s e l) c

  -- what was placed is so
  pub numbers-added : (es : List ℕ) → AllBelow (length ns) es → all_move (lifted lift) ns es ≡ true → (ms : List Node) → Sound ms → (ks : List ℕ) (os : List Node)
      → shifted_numbers (lifted lift) ns es ms ≡ placed ks os → AddedNumbers ms es ks os
  unfolding shifted_numbers
  numbers-added [] h m ms w ks os e =
      placed-numbers ms [] [] ks ms os e (record { extends = extends-none ms; sound = w; counted = refl; below = λ k l. absurd (omega arith) })
  numbers-added (x ∷ es) h m ms w ks os e =
      let b = between (add_expression (shifted_by lift (expression_at ns x)) ms) (after_one (lifted lift) ns es) ks os e in
      let c = between (shifted_numbers (lifted lift) ns es b.arena) (λ js ps. placed (b.answer ∷ js) ps) ks os b.then in
      let a = add-expression (shifted_by lift (expression_at ns x)) ms w (moved-small x (h 0 (omega arith)) (moves_each (lifted lift) ns (x ∷ es) m 0 (omega arith))) b.answer b.arena b.first in
      let r = numbers-added es (λ k l. h (suc k) (omega arith)) (moves-rest (lifted lift) ns x es m) b.arena a.sound c.answer c.arena c.first in
      placed-numbers ms (x ∷ es) (b.answer ∷ c.answer) ks c.arena os c.then
      (record { extends = extends-both a.extends r.extends; sound = r.sound; counted = ap suc r.counted; below = λ k l. below b.answer c.answer c.arena (omega (arith, a.below, extends-longer r.extends)) r.below k l })
    where
      below : (k : ℕ) (ks : List ℕ) (ps : List Node) → k < length ps → AllBelow (length ps) ks → AllBelow (length ps) (k ∷ ks)
      below k ks ps a b zero l = a
      below k ks ps a b (suc j) l = b j (omega arith)

  -- in an arena that has them they are found again, and it stays
  pub numbers-again : (es : List ℕ) → AllBelow (length ns) es → all_move (lifted lift) ns es ≡ true → (ms : List Node) → Sound ms → (ks : List ℕ) (os : List Node)
      → shifted_numbers (lifted lift) ns es ms ≡ placed ks os → (qs : List Node) → Extends os qs → Sound qs → shifted_numbers (lifted lift) ns es qs ≡ placed ks qs
  unfolding shifted_numbers and_then
  numbers-again [] h m ms w ks os e qs x v = ap (λ (l : List ℕ). placed l qs) (cc)
  numbers-again (f ∷ es) h m ms w ks os e qs x v =
      let b = between (add_expression (shifted_by lift (expression_at ns f)) ms) (after_one (lifted lift) ns es) ks os e in
      let c = between (shifted_numbers (lifted lift) ns es b.arena) (λ js ps. placed (b.answer ∷ js) ps) ks os b.then in
      let a = add-expression (shifted_by lift (expression_at ns f)) ms w (moved-small f (h 0 (omega arith)) (moves_each (lifted lift) ns (f ∷ es) m 0 (omega arith))) b.answer b.arena b.first in
      let below : AllBelow (length ns) es = λ k l. h (suc k) (omega arith) in
      let r = numbers-added es below (moves-rest (lifted lift) ns f es m) b.arena a.sound c.answer c.arena c.first in
      let is : os ≡ c.arena = cc c.then in
      let ks-is : b.answer ∷ c.answer ≡ ks = cc c.then in
      let y : Extends c.arena qs = subst (λ (l : List Node). Extends l qs) is x in
      let z : Extends b.arena qs = extends-both r.extends y in
      let found = add_expression-old (shifted_by lift (expression_at ns f)) qs v b.answer (omega (arith, a.below, extends-longer z)) (expression-kept z b.answer a.below ∙ a.is) in
      let rest = numbers-again es below (moves-rest (lifted lift) ns f es m) b.arena a.sound c.answer c.arena c.first qs y v in
      ap (λ (o : Placed ℕ). and_then o (after_one (lifted lift) ns es)) found
      ∙ ap (λ (o : Placed (List ℕ)). and_then o (λ js ps. placed (b.answer ∷ js) ps)) rest
      ∙ ap (λ (l : List ℕ). placed l qs) ks-is

  -- where nothing was added, each of them is found
  pub numbers-there : (es : List ℕ) → AllBelow (length ns) es → all_move (lifted lift) ns es ≡ true → (ms : List Node) → Sound ms → (ks : List ℕ)
      → shifted_numbers (lifted lift) ns es ms ≡ placed ks ms → (k : ℕ) → k < length es → add_expression (shifted_by lift (expression_at ns (get_or es k 0))) ms ≡ placed (get_or ks k 0) ms
  unfolding shifted_numbers
  numbers-there [] h m ms w ks e k l = absurd (omega arith)
  numbers-there (f ∷ es) h m ms w ks e k l =
      let b = between (add_expression (shifted_by lift (expression_at ns f)) ms) (after_one (lifted lift) ns es) ks ms e in
      let c = between (shifted_numbers (lifted lift) ns es b.arena) (λ js ps. placed (b.answer ∷ js) ps) ks ms b.then in
      let a = add-expression (shifted_by lift (expression_at ns f)) ms w (moved-small f (h 0 (omega arith)) (moves_each (lifted lift) ns (f ∷ es) m 0 (omega arith))) b.answer b.arena b.first in
      let below : AllBelow (length ns) es = λ k l. h (suc k) (omega arith) in
      let r = numbers-added es below (moves-rest (lifted lift) ns f es m) b.arena a.sound c.answer c.arena c.first in
      let is : c.arena ≡ ms = cc c.then in
      let ks-is : b.answer ∷ c.answer ≡ ks = cc c.then in
      let same : b.arena ≡ ms = extends-same a.extends (subst (λ (l : List Node). Extends b.arena l) is r.extends) in
      let first : add_expression (shifted_by lift (expression_at ns f)) ms ≡ placed b.answer ms = b.first ∙ ap (λ (l : List Node). placed b.answer l) same in
      let rest : shifted_numbers (lifted lift) ns es ms ≡ placed c.answer ms = ap (λ (l : List Node). shifted_numbers (lifted lift) ns es l) (sym same) ∙ c.first ∙ ap (λ (l : List Node). placed c.answer l) is in
      subst (λ (l : List ℕ). add_expression (shifted_by lift (expression_at ns (get_or (f ∷ es) k 0))) ms ≡ placed (get_or l k 0) ms) ks-is
      (at k b.answer c.answer first (λ j p. numbers-there es below (moves-rest (lifted lift) ns f es m) ms w c.answer rest j (omega arith)))
    where
      at : (k i : ℕ) (js : List ℕ) → add_expression (shifted_by lift (expression_at ns f)) ms ≡ placed i ms
          → ((j : ℕ) → suc j ≡ k → add_expression (shifted_by lift (expression_at ns (get_or es j 0))) ms ≡ placed (get_or js j 0) ms)
          → add_expression (shifted_by lift (expression_at ns (get_or (f ∷ es) k 0))) ms ≡ placed (get_or (i ∷ js) k 0) ms
      at zero i js p q = p
      at (suc j) i js p q = q j refl

-- ---- the loop

-- k expressions are done: they are in the arena with the numbers `done`, and the rest is to be added
pub record NumbersTo (lift : ℕ) (s t memo es done : List ℕ) (k : ℕ) : Type 0 where
  pub below : k ≤ length es
  pub holds : Holds t
  pub extends : Extends (nodes s) (nodes t)
  pub memo_true : Memo (shifted_by lift) (nodes t) memo
  pub goes : shifted_numbers (lifted lift) (nodes s) es (nodes s) ≡ prefixed done (shifted_numbers (lifted lift) (nodes s) (drop k es) (nodes t))

module _ (lift : ℕ) (s memo es : List ℕ) (d : ReadyAll lift s memo es) where
  -- nothing done
  pub walk-begin : NumbersTo lift s s memo es [] 0
  walk-begin = record {
    below = omega arith;
    holds = d.holds;
    extends = extends-none (nodes s);
    memo_true = d.memo_true;
    goes = prefixed-none (shifted_numbers (lifted lift) (nodes s) es (nodes s));
  }

  module _ (t memo₁ done : List ℕ) (k : ℕ) (h : NumbersTo lift s t memo₁ es done k) where
    module _ (e : ℕ) (l : k < length es) (is : get_or es k 0 ≡ e) where
      -- expression k is in the arena
      there : e < length (nodes s)
      there = subst (λ (x : ℕ). x < length (nodes s)) is (d.known k l)

      -- its expression is as it was
      same : expression_at (nodes t) e ≡ expression_at (nodes s) e
      same = expression-kept h.extends e there

      -- it can be walked
      pub walk-ready : Ready lift t memo₁ e
      walk-ready = record {
        known = record { holds = h.holds; below = omega (arith, there, extends-longer h.extends, length-decode t) };
        small = d.small;
        moves = ap (can_move (lifted lift)) same ∙ subst (λ (x : ℕ). can_move (lifted lift) (expression_at (nodes s) x) ≡ true) is (moves_each (lifted lift) (nodes s) es d.moves k l);
        memo_true = h.memo_true;
      }

      module _ (u memo₂ : List ℕ) (a : Added) (w : Walked (shifted_by lift) t u memo₂ e a) where
        -- what is to be added, this one first
        turn : shifted_numbers (lifted lift) (nodes s) (drop k es) (nodes t) ≡ and_then (told a (nodes u)) (after_one (lifted lift) (nodes s) (drop (k + 1) es))
        turn =
            numbers-step (lifted lift) (nodes s) es k (nodes t) l
            ∙ ap (λ (z : Placed ℕ). and_then z (after_one (lifted lift) (nodes s) (drop (k + 1) es)))
            (ap (λ (x : ℕ). add_expression (shifted_by lift (expression_at (nodes s) x)) (nodes t)) is ∙ ap (λ (y : Expression). add_expression (shifted_by lift y) (nodes t)) (sym same) ∙ sym w.grew.is)

        -- one more is done
        pub walk_more : (i : ℕ) → a ≡ Ok i → NumbersTo lift s u memo₂ es (done ++ (i ∷ [])) (k + 1)
        unfolding told and_then
        walk_more i q =
            record {
              below = omega arith;
              holds = w.grew.holds;
              extends = extends-both h.extends w.grew.extends;
              memo_true = w.memo_true;
              goes =
                  h.goes ∙ ap (prefixed done) (turn ∙ ap (λ (b : Added). and_then (told b (nodes u)) (after_one (lifted lift) (nodes s) (drop (k + 1) es))) q)
                  ∙ prefixed-more done i (shifted_numbers (lifted lift) (nodes s) (drop (k + 1) es) (nodes u));
            }

        -- there was no room
        pub walk-fail : (j : Refusal) → a ≡ Err j → (ks : List ℕ) → ShiftedAll lift s u memo₂ es false ks
        unfolding told and_then prefixed told_numbers
        walk-fail j q ks =
            record {
              holds = w.grew.holds;
              extends = extends-both h.extends w.grew.extends;
              memo_true = w.memo_true;
              is = sym (h.goes ∙ ap (prefixed done) (turn ∙ ap (λ (b : Added). and_then (told b (nodes u)) (after_one (lifted lift) (nodes s) (drop (k + 1) es))) q));
            }

    -- all done
    pub walk_end : length es ≤ k → ShiftedAll lift s t memo₁ es true done
    unfolding prefixed told_numbers
    walk_end l =
        record {
          holds = h.holds;
          extends = h.extends;
          memo_true = h.memo_true;
          is = sym (h.goes ∙ ap (prefixed done) (numbers-done (lifted lift) (nodes s) es k (nodes t) l) ∙ ap (λ (x : List ℕ). placed x (nodes t)) (append-nil done));
        }

-- ---- a shift by a number of columns

module _ (size : ℕ) where
  -- no index can follow
  pub size-over : 65535 < size → (i : ℕ) → i < 65536 → moved (pos size) i ≡ lifted 200000 i
  unfolding moved within
  size-over l i b = rw (le-ltb (i + size) 65536 (omega arith)) (sym (lifted-high 200000 i (omega arith)))

  -- the lift moves as the number of columns does
  pub size-moves : (i : ℕ) → i < 65536 → moved (pos size) i ≡ lifted (size + 65535) i
  unfolding moved within
  size-moves i b = at (dec_lt (i + size) 65536)
    where
      at : Dec (i + size < 65536) → moved (pos size) i ≡ lifted (size + 65535) i
      at (yes l) =
          let e : i + (size + 65535) - 65535 ≡ i + size = omega arith in
          rw (lt-ltb (i + size) 65536 l) (sym (lifted-some (size + 65535) i (omega arith) (omega arith) ∙ ap {B = Option ℕ} Some e))
      at (no l) = rw (le-ltb (i + size) 65536 (omega arith)) (sym (lifted-high (size + 65535) i (omega arith)))
