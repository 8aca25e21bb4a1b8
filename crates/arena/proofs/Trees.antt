-- The expressions of an arena: one for each number, kept when the arena grows, different at different numbers, and small.
use Prim.Native.Nat.{ℕ, zero, suc, ◌<◌}
use mathlib.Core.List.{List, [], ◌∷◌}
use mathlib.Core.Path.{◌≡◌, refl, sym, ap, ap₂, ◌∙◌}
use native.Mathlib.Omega.{arith}
use lib.ListN.{length, get_or}
use Rattle.arena.specs.Node.{Node, column, literal, operation, node_at}
use Rattle.arena.specs.Expression.{Expression, Expressions, lit, op, ◌▹◌, size, those, over, expressions, expression_at}
use Rattle.arena.specs.Arena.{Allowed, Sound, Extends, Small, AllSmall}
use Rattle.arena.proofs.Nodes.{same_number}
use Rattle.arena.proofs.Made.{length-made, made_kept, made-is}

-- there are as many expressions as are named
pub size-those : (es : List Expression) (ks : List ℕ) → size (those es ks) ≡ length ks
unfolding size those
size-those es [] = refl
size-those es (k ∷ ks) = ap suc (size-those es ks)

-- those expressions depend only on the entries at the numbers named
pub those_cong : (es fs : List Expression) (ks : List ℕ) → ((k : ℕ) → k < length ks → get_or es (get_or ks k 0) (lit 0) ≡ get_or fs (get_or ks k 0) (lit 0)) → those es ks ≡ those fs ks
unfolding those
those_cong es fs [] h = refl
those_cong es fs (k ∷ ks) h = ap₂ {C = Expressions} (λ a b. a ▹ b) (h 0 (omega arith)) (those_cong es fs ks (λ j l. h (suc j) (omega arith)))

-- the expression of a node that may have the number i depends only on the entries below i
over_cong : (es fs : List Expression) (i : ℕ) (n : Node) → Allowed i n → ((k : ℕ) → k < i → get_or es k (lit 0) ≡ get_or fs k (lit 0)) → over es n ≡ over fs n
unfolding over Allowed
over_cong es fs i (column name index) a h = refl
over_cong es fs i (literal value) a h = refl
over_cong es fs i (operation label ks) a h = ap (λ (c : Expressions). op label c) (those_cong es fs ks (λ k l. h (get_or ks k 0) (a.1 k l)))

-- an arena has one expression for each number
pub length-expressions : (ns : List Node) → length (expressions ns) ≡ length ns
unfolding expressions
length-expressions ns = length-made (λ es i n. over es n) (lit 0) ns

-- an old number keeps its expression
pub expression-kept : {ns ms : List Node} → Extends ns ms → (i : ℕ) → i < length ns → expression_at ms i ≡ expression_at ns i
unfolding expressions
expression-kept x i l = made_kept (λ es i n. over es n) (lit 0) x i l

-- those expressions are equal, and equal entries have equal numbers: the numbers named are equal
those-same : (es : List Expression) (ks js : List ℕ)
    → ((k j : ℕ) → k < length ks → j < length js → get_or es (get_or ks k 0) (lit 0) ≡ get_or es (get_or js j 0) (lit 0) → get_or ks k 0 ≡ get_or js j 0)
    → those es ks ≡ those es js → ks ≡ js
unfolding those
those-same es [] [] h e = refl
those-same es [] (j ∷ js) h e = absurd (let z : ◌≡◌ {A = ℕ} 0 1 = cc in omega arith)
those-same es (k ∷ ks) [] h e = absurd (let z : ◌≡◌ {A = ℕ} 0 1 = cc in omega arith)
those-same es (k ∷ ks) (j ∷ js) h e =
    ap₂ {C = List ℕ} (λ a b. a ∷ b) (h 0 0 (omega arith) (omega arith) (cc))
    (those-same es ks js (λ a b la lb. h (suc a) (suc b) (omega arith) (omega arith)) (cc))

-- nodes over the same expressions are equal expressions, and equal entries below have equal numbers: the nodes are equal
over-same : (es : List Expression) (i j : ℕ) (a b : Node) → Allowed i a → Allowed j b
    → ((k l : ℕ) → k < i → l < j → get_or es k (lit 0) ≡ get_or es l (lit 0) → k ≡ l)
    → over es a ≡ over es b → a ≡ b
unfolding over Allowed
over-same es i j (column a x) (column b y) p q h e = cc
over-same es i j (column a x) (literal w) p q h e = absurd (let z : ◌≡◌ {A = ℕ} 0 1 = cc in omega arith)
over-same es i j (column a x) (operation m ks) p q h e = absurd (let z : ◌≡◌ {A = ℕ} 0 1 = cc in omega arith)
over-same es i j (literal v) (column b y) p q h e = absurd (let z : ◌≡◌ {A = ℕ} 0 1 = cc in omega arith)
over-same es i j (literal v) (literal w) p q h e = cc
over-same es i j (literal v) (operation m ks) p q h e = absurd (let z : ◌≡◌ {A = ℕ} 0 1 = cc in omega arith)
over-same es i j (operation l js) (column b y) p q h e = absurd (let z : ◌≡◌ {A = ℕ} 0 1 = cc in omega arith)
over-same es i j (operation l js) (literal w) p q h e = absurd (let z : ◌≡◌ {A = ℕ} 0 1 = cc in omega arith)
over-same es i j (operation l js) (operation m ks) p q h e =
    cc (those-same es js ks (λ a b la lb. h (get_or js a 0) (get_or ks b 0) (p.1 a la) (q.1 b lb)) (cc))

-- those expressions are small if each is
those-small : (es : List Expression) (ks : List ℕ) → ((k : ℕ) → k < length ks → Small (get_or es (get_or ks k 0) (lit 0))) → AllSmall (those es ks)
unfolding those AllSmall
those-small es [] h = tt
those-small es (k ∷ ks) h = (h 0 (omega arith), those-small es ks (λ j l. h (suc j) (omega arith)))

-- a node that may have the number i is small over small expressions
over-small : (es : List Expression) (i : ℕ) (n : Node) → Allowed i n → ((k : ℕ) → k < i → Small (get_or es k (lit 0))) → Small (over es n)
unfolding over Allowed Small
over-small es i (column name index) a h = a
over-small es i (literal value) a h = tt
over-small es i (operation label ks) a h = (omega (arith, size-those es ks), those-small es ks (λ k l. h (get_or ks k 0) (a.1 k l)))

module _ (ns : List Node) (s : Sound ns) where
  -- a number's expression is its node over the arena's expressions
  pub expression-is : (i : ℕ) → i < length ns → expression_at ns i ≡ over (expressions ns) (node_at ns i)
  unfolding expressions
  expression-is i l = made-is (λ es i n. over es n) (lit 0) ns s over_cong i l

  -- below a bound, different numbers are different expressions
  distinct-below : (n i j : ℕ) → i < n → j < n → i < length ns → j < length ns → expression_at ns i ≡ expression_at ns j → i ≡ j
  distinct-below zero i j a b li lj e = absurd (omega arith)
  distinct-below (suc n) i j a b li lj e =
      same_number ns s i j li lj
      (over-same (expressions ns) i j (node_at ns i) (node_at ns j) (s.allowed i li) (s.allowed j lj)
      (λ k l bk bl. distinct-below n k l (omega arith) (omega arith) (omega arith) (omega arith))
      (sym (expression-is i li) ∙ e ∙ expression-is j lj))

  -- different numbers of a sound arena are different expressions
  pub distinct-expressions : (i j : ℕ) → i < length ns → j < length ns → expression_at ns i ≡ expression_at ns j → i ≡ j
  distinct-expressions i j li lj e = distinct-below (length ns) i j li lj li lj e

  -- below a bound, every expression is small
  small-below : (n i : ℕ) → i < n → i < length ns → Small (expression_at ns i)
  small-below zero i a l = absurd (omega arith)
  small-below (suc n) i a l =
      rw (expression-is i l) (over-small (expressions ns) i (node_at ns i) (s.allowed i l) (λ k b. small-below n k (omega arith) (omega arith)))

  -- every expression of a sound arena is small
  pub expression-small : (i : ℕ) → i < length ns → Small (expression_at ns i)
  expression-small i l = small-below (length ns) i l l
