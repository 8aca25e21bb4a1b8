-- The rewriting of the normal form, over the nodes that were there before: what it makes of an expression is small, and adding it is adding the rewritten node with one number replaced.
use Rattle.std.specs.Prelude.{if◌then◌else◌, Option, None, Some}
use Prim.Native.Nat.{ℕ, ◌<◌, ◌≤◌}
use mathlib.Core.Bool.{Bool, true, false}
use mathlib.Core.List.{List, [], ◌∷◌}
use mathlib.Core.Path.{◌≡◌, refl, sym, ap, ◌∙◌, subst}
use native.Mathlib.Omega.{arith}
use borrow.Author.Tests.{ltb-true, ltb-false, lt-ltb, le-ltb}
use lib.Dec.{ltb}
use lib.ListN.{length, get_or}
use Rattle.arena.specs.Node.{Node, column, literal, operation, node_at, child_numbers}
use Rattle.arena.specs.Expression.{Expression, Expressions, col, lit, op, ∅, ◌▹◌, size, those, over, expressions, expression_at}
use Rattle.arena.specs.Arena.{Allowed, Sound, Extends, Small, AllSmall, placed, full, add_expression}
use Rattle.arena.specs.Inner.{map_all}
use Rattle.arena.proofs.Nodes.{extends-longer, extends-node, extends-both}
use Rattle.arena.proofs.Trees.{expression-is, expression-kept, expression-small, distinct-expressions}
use Rattle.arena.proofs.Growing.{AddedExpression, add-expression, add_expression-old}
use Rattle.normal.specs.Normal.{number_of, replaced_by, replaced, normal_by, normals_by}
use Rattle.normal.specs.Inner.{replacement}
use Rattle.normal.proofs.Numbers.{number-some, number-old}

-- a sound arena was sound before nodes were added
pub sound-before : {ns ms : List Node} → Extends ns ms → Sound ms → Sound ns
sound-before {ns} {ms} x s =
    record {
      few = omega (arith, extends-longer x, s.few);
      allowed = λ i l. subst (Allowed i) (extends-node x i l) (s.allowed i (omega (arith, extends-longer x)));
      distinct = λ i j b l e. s.distinct i j b (omega (arith, extends-longer x)) (extends-node x i (omega arith) ∙ e ∙ sym (extends-node x j l));
    }

-- what replaces an old number stands in the table
pub replacement-old : (old : ℕ) (firsts : List ℕ) (i : ℕ) → i < old → get_or firsts i 0 ≡ replacement old firsts i
unfolding replacement
replacement-old old firsts i l = rw (lt-ltb i old l)

-- a number that was added stays
pub replacement-new : (old : ℕ) (firsts : List ℕ) (i : ℕ) → old ≤ i → i ≡ replacement old firsts i
unfolding replacement
replacement-new old firsts i l = rw (le-ltb i old l)

-- the rewriting of expressions in a row is that of each
pub normals-all : (ns : List Node) (to : ℕ → ℕ) (xs : Expressions) → normals_by ns to xs ≡ map_all (λ x. normal_by ns to x) xs
unfolding normals_by map_all
normals-all ns to ∅ = refl
normals-all ns to (x ▹ xs) = ap (λ (ys : Expressions). normal_by ns to x ▹ ys) (normals-all ns to xs)

-- as many as before
normals-size : (ns : List Node) (to : ℕ → ℕ) (xs : Expressions) → size (normals_by ns to xs) ≡ size xs
unfolding normals_by size
normals-size ns to ∅ = refl
normals-size ns to (x ▹ xs) = rw (normals-size ns to xs)

module _ (ns : List Node) (to : ℕ → ℕ) (s : Sound ns) where
  -- an expression of the arena is replaced by what its number says
  pub replaced-old : (x : Expression) (k : ℕ) → k < length ns → expression_at ns k ≡ x → replaced ns to x ≡ expression_at ns (to k)
  unfolding replaced replaced_by
  replaced-old x k l e = rw (number-old ns s x k l e)

  -- another stays
  pub replaced-new : (x : Expression) → ((k : ℕ) → k < length ns → expression_at ns k ≡ x → ⊥) → replaced ns to x ≡ x
  unfolding replaced replaced_by
  replaced-new x h = go (number_of ns x) refl
    where
      go : (o : Option ℕ) → number_of ns x ≡ o → replaced_by ns to x o ≡ x
      go None e = refl
      go (Some k) e = let f = number-some ns s x k e in absurd (h k f.below f.is)

  module _ (inside : (k : ℕ) → k < length ns → to k < length ns) where
    replaced-small : (x : Expression) → Small x → Small (replaced ns to x)
    unfolding replaced replaced_by
    replaced-small x m = go (number_of ns x) refl
      where
        go : (o : Option ℕ) → number_of ns x ≡ o → Small (replaced_by ns to x o)
        go None e = m
        go (Some k) e = expression-small ns s (to k) (inside k (number-some ns s x k e).below)

    mutual
      unfolding normal_by normals_by Small AllSmall

      -- the rewriting of what an arena can hold is such
      pub normal-small : (x : Expression) → Small x → Small (normal_by ns to x)
      normal-small (col name index) m = replaced-small (col name index) m
      normal-small (lit v) m = replaced-small (lit v) m
      normal-small (op label xs) m = replaced-small (op label (normals_by ns to xs)) (omega (arith, normals-size ns to xs, m.0), normals-small xs m.1)

      pub normals-small : (xs : Expressions) → AllSmall xs → AllSmall (normals_by ns to xs)
      normals-small ∅ m = tt
      normals-small (x ▹ xs) m = (normal-small x m.0, normals-small xs m.1)

    -- so is the operation over rewritten children
    pub operation-small : (label : ℕ) (xs : Expressions) → Small (op label xs) → Small (op label (map_all (λ x. normal_by ns to x) xs))
    unfolding Small
    operation-small label xs m =
        subst (λ (ys : Expressions). Small (op label ys)) (normals-all ns to xs) (omega (arith, normals-size ns to xs, m.0), normals-small xs m.1)

-- an operation's children are rewritten first, and then it is looked up
pub operation-is : (ns : List Node) (to : ℕ → ℕ) (label : ℕ) (xs : Expressions) → normal_by ns to (op label xs) ≡ replaced ns to (op label (map_all (λ x. normal_by ns to x) xs))
unfolding normal_by
operation-is ns to label xs = ap (λ (ys : Expressions). replaced ns to (op label ys)) (normals-all ns to xs)

-- a node without children is only looked up
pub leaf_is : (ns : List Node) (to : ℕ → ℕ) (es : List Expression) (n : Node) → length (child_numbers n) ≡ 0 → normal_by ns to (over es n) ≡ replaced ns to (over es n)
unfolding normal_by normals_by over child_numbers those
leaf_is ns to es (column name index) e = refl
leaf_is ns to es (literal v) e = refl
leaf_is ns to es (operation label []) e = refl
leaf_is ns to es (operation label (k ∷ ks)) e = absurd (omega arith)

-- an arena ns that extends the nodes that were there before
module _ (before ns : List Node) (firsts : List ℕ) (old : ℕ) (x : Extends before ns) (s : Sound ns) (n : length before ≡ old) (inside : (k : ℕ) → k < old → get_or firsts k 0 < old) where
  abbrev to : ℕ → ℕ
  to k = get_or firsts k 0

  b : Sound before
  b = sound-before x s

  -- what replaces an old node is there, and nothing is added
  replaced-there : (y : Expression) (k : ℕ) → k < old → expression_at before k ≡ y → add_expression (replaced before to y) ns ≡ placed (to k) ns
  replaced-there y k l e =
      let i : to k < length before = omega (arith, inside k l, n) in
      let q : expression_at ns (to k) ≡ replaced before to y = expression-kept x (to k) i ∙ sym (replaced-old before to b y k (omega arith) e) in
      add_expression-old (replaced before to y) ns s (to k) (omega (arith, extends-longer x)) q

  -- an old node without children
  pub leaf_added : (e : ℕ) → e < old → length (child_numbers (node_at ns e)) ≡ 0 → add_expression (normal_by before to (expression_at ns e)) ns ≡ placed (replacement old firsts e) ns
  unfolding replacement
  leaf_added e l c =
      let i : e < length ns = omega (arith, extends-longer x, n) in
      let w : normal_by before to (expression_at ns e) ≡ replaced before to (expression_at ns e) = rw (expression-is ns s e i) (leaf_is before to (expressions ns) (node_at ns e) c) in
      rw (w, lt-ltb e old l) (replaced-there (expression_at ns e) e l (sym (expression-kept x e (omega arith))))

  -- no room for a rewritten node: none for what replaces it
  pub rewritten-full : (y : Expression) → add_expression y ns ≡ full → add_expression (replaced before to y) ns ≡ full
  rewritten-full y e =
      rw (replaced-new before to b y (λ k l q.
      let p : add_expression y ns ≡ placed k ns = add_expression-old y ns s k (omega (arith, extends-longer x)) (expression-kept x k l ∙ q) in
      let w : placed k ns ≡ full = sym p ∙ e in
      let z : ◌≡◌ {A = ℕ} 0 1 = cc in omega arith))
      e

  -- a rewritten node with number i was added: so was what replaces it, which has the number that replaces i
  pub rewritten-added : (y : Expression) → Small y → (i : ℕ) (ms : List Node) → add_expression y ns ≡ placed i ms → add_expression (replaced before to y) ns ≡ placed (replacement old firsts i) ms
  unfolding replacement
  rewritten-added y m i ms e = go (ltb i old) refl
    where
      a : AddedExpression y ns i ms
      a = add-expression y ns s m i ms e

      go : (t : Bool) → ltb i old ≡ t → add_expression (replaced before to y) ns ≡ placed (if t then get_or firsts i 0 else i) ms
      go true t =
          let l : i < old = ltb-true i old t in
          let q : expression_at before i ≡ y = sym (expression-kept (extends-both x a.extends) i (omega arith)) ∙ a.is in
          let p : add_expression y ns ≡ placed i ns = add_expression-old y ns s i (omega (arith, extends-longer x)) (expression-kept x i (omega arith) ∙ q) in
          let w : placed i ns ≡ placed i ms = sym p ∙ e in
          let r : ns ≡ ms = cc in
          replaced-there y i l q ∙ ap (λ (l : List Node). placed (get_or firsts i 0) l) r
      go false t =
          rw (replaced-new before to b y (λ k l q.
          let j : k ≡ i = distinct-expressions ms a.sound k i (omega (arith, extends-longer x, extends-longer a.extends)) a.below (expression-kept (extends-both x a.extends) k l ∙ q ∙ sym a.is) in
          let f : old ≤ i = ltb-false i old t in
          omega arith))
          e
