-- Adding expressions: what is answered stands for what was added, and an expression that is there is found again.
use Prim.Native.Nat.{ℕ, zero, suc, ◌<◌, ◌≤◌}
use mathlib.Core.List.{List, [], ◌∷◌}
use mathlib.Core.Path.{◌≡◌, refl, sym, ap, ap₂, ◌∙◌, subst₂}
use native.Mathlib.Omega.{arith}
use lib.ListN.{length, get_or}
use Rattle.arena.specs.Node.{Node, column, literal, operation, node_at}
use Rattle.arena.specs.Expression.{Expression, Expressions, col, lit, op, ∅, ◌▹◌, size, those, over, expressions, expression_at}
use Rattle.arena.specs.Arena.{Allowed, Sound, Extends, Small, AllSmall, Placed, placed, full, and_then, add, add_expression, add_expressions}
use Rattle.arena.proofs.Nodes.{extends-none, extends-both, extends-longer, AddedNode, add-node, add-old}
use Rattle.arena.proofs.Trees.{those_cong, expression-kept, expression-is}

-- what adding an expression comes to: the arena is extended, it is sound, and the number answered is the expression's
pub record AddedExpression (e : Expression) (ns : List Node) (i : ℕ) (ms : List Node) : Type 0 where
  pub extends : Extends ns ms
  pub sound : Sound ms
  pub below : i < length ms
  pub is : expression_at ms i ≡ e

-- the same for expressions in a row, with a number for each
pub record AddedExpressions (es : Expressions) (ns : List Node) (ks : List ℕ) (ms : List Node) : Type 0 where
  pub extends : Extends ns ms
  pub sound : Sound ms
  pub below : (k : ℕ) → k < length ks → get_or ks k 0 < length ms
  pub counted : length ks ≡ size es
  pub is : those (expressions ms) ks ≡ es

-- what was placed in between, where something is handed on
pub record Between {A B : Type 0} (p : Placed A) (f : A → List Node → Placed B) (b : B) (os : List Node) : Type 0 where
  pub answer : A
  pub arena : List Node
  pub first : p ≡ placed answer arena
  pub then : f answer arena ≡ placed b os

-- where the end was placed, so was the beginning
pub between : {A B : Type 0} (p : Placed A) (f : A → List Node → Placed B) (b : B) (os : List Node) → and_then p f ≡ placed b os → Between p f b os
unfolding and_then
between (placed a ns) f b os e = record { answer = a; arena = ns; first = refl; then = e }
between full f b os e = absurd (let z : ◌≡◌ {A = ℕ} 0 1 = cc in omega arith)

-- an added node is the expression over the arena afterwards
node-added : (n : Node) (ns : List Node) (i : ℕ) (ms : List Node) → AddedNode n ns i ms → AddedExpression (over (expressions ms) n) ns i ms
node-added n ns i ms a = record {
  extends = a.extends;
  sound = a.sound;
  below = a.below;
  is = expression-is ms a.sound i a.below ∙ ap (λ (m : Node). over (expressions ms) m) a.is;
}

-- numbers of an arena stand for the same expressions in its extensions
those-kept : {ns ms : List Node} → Extends ns ms → (ks : List ℕ) → ((k : ℕ) → k < length ks → get_or ks k 0 < length ns) → those (expressions ms) ks ≡ those (expressions ns) ks
those-kept {ns} {ms} x ks b = those_cong (expressions ms) (expressions ns) ks (λ k l. expression-kept x (get_or ks k 0) (b k l))

-- an operation over expressions that were added
op-added : (label : ℕ) (es : Expressions) (ns : List Node) (ks : List ℕ) (ms : List Node) (i : ℕ) (os : List Node)
    → size es ≤ 8 → AddedExpressions es ns ks ms → add (operation label ks) ms ≡ placed i os → AddedExpression (op label es) ns i os
unfolding over Allowed
op-added label es ns ks ms i os few a e =
    let n = add-node (operation label ks) ms a.sound (omega arith, a.below) i os e in
    let x = node-added (operation label ks) ms i os n in
    record {
      extends = extends-both a.extends n.extends;
      sound = n.sound;
      below = n.below;
      is = x.is ∙ ap (λ (c : Expressions). op label c) (those-kept n.extends ks a.below ∙ a.is);
    }

-- one expression, and then the others
more_added : (e : Expression) (es : Expressions) (ns : List Node) (k : ℕ) (ms : List Node) (ks : List ℕ) (os : List Node)
    → AddedExpression e ns k ms → AddedExpressions es ms ks os → AddedExpressions (e ▹ es) ns (k ∷ ks) os
unfolding those size
more_added e es ns k ms ks os a b = record {
  extends = extends-both a.extends b.extends;
  sound = b.sound;
  below = below;
  counted = ap suc b.counted;
  is = ap₂ {C = Expressions} (λ c d. c ▹ d) (expression-kept b.extends k a.below ∙ a.is) b.is;
}
  where
    below : (j : ℕ) → j < length (k ∷ ks) → get_or (k ∷ ks) j 0 < length os
    below zero l = omega (arith, extends-longer b.extends, a.below)
    below (suc j) l = b.below j (omega arith)

-- the answer and the arena are those that were placed
placed-added : (es : Expressions) (ns : List Node) (ks js : List ℕ) (ms os : List Node) → placed ks ms ≡ placed js os → AddedExpressions es ns ks ms → AddedExpressions es ns js os
placed-added es ns ks js ms os e a = subst₂ (λ (l : List ℕ) (m : List Node). AddedExpressions es ns l m) (cc) (cc) a

mutual
  unfolding add_expression add_expressions Allowed Small AllSmall over those size

  -- an expression that is added has the number answered, in a sound extension of the arena
  pub add-expression : (e : Expression) (ns : List Node) → Sound ns → Small e → (i : ℕ) (ms : List Node) → add_expression e ns ≡ placed i ms → AddedExpression e ns i ms
  add-expression (col name index) ns s l i ms e = node-added (column name index) ns i ms (add-node (column name index) ns s l i ms e)
  add-expression (lit v) ns s l i ms e = node-added (literal v) ns i ms (add-node (literal v) ns s tt i ms e)
  add-expression (op label es) ns s l i ms e =
      let b = between (add_expressions es ns) (λ ks ms. add (operation label ks) ms) i ms e in
      op-added label es ns b.answer b.arena i ms l.0 (add-expressions es ns s l.1 b.answer b.arena b.first) b.then

  -- so do expressions in a row
  pub add-expressions : (es : Expressions) (ns : List Node) → Sound ns → AllSmall es → (ks : List ℕ) (ms : List Node) → add_expressions es ns ≡ placed ks ms → AddedExpressions es ns ks ms
  add-expressions ∅ ns s l ks ms e =
      placed-added ∅ ns [] ks ns ms e (record { extends = extends-none ns; sound = s; below = λ k b. absurd (omega arith); counted = refl; is = refl })
  add-expressions (x ▹ es) ns s l ks ms e =
      let b = between (add_expression x ns) (λ k os. and_then (add_expressions es os) (λ js qs. placed (k ∷ js) qs)) ks ms e in
      let c = between (add_expressions es b.arena) (λ js qs. placed (b.answer ∷ js) qs) ks ms b.then in
      let p = add-expression x ns s l.0 b.answer b.arena b.first in
      placed-added (x ▹ es) ns (b.answer ∷ c.answer) ks c.arena ms c.then
      (more_added x es ns b.answer b.arena c.answer c.arena p (add-expressions es b.arena p.sound l.1 c.answer c.arena c.first))

-- a node that is a column's expression is that column
over-col : (es : List Expression) (n : Node) (name index : ℕ) → over es n ≡ col name index → n ≡ column name index
unfolding over
over-col es (column a x) name index e = cc
over-col es (literal v) name index e = absurd (let z : ◌≡◌ {A = ℕ} 0 1 = cc in omega arith)
over-col es (operation l ks) name index e = absurd (let z : ◌≡◌ {A = ℕ} 0 1 = cc in omega arith)

-- a node that is a literal's expression is that literal
over-lit : (es : List Expression) (n : Node) (v : ℕ) → over es n ≡ lit v → n ≡ literal v
unfolding over
over-lit es (column a x) v e = absurd (let z : ◌≡◌ {A = ℕ} 0 1 = cc in omega arith)
over-lit es (literal w) v e = cc
over-lit es (operation l ks) v e = absurd (let z : ◌≡◌ {A = ℕ} 0 1 = cc in omega arith)

-- a node is an operation over lower numbers, which are those of the children
record Over (es : List Expression) (i : ℕ) (n : Node) (label : ℕ) (children : Expressions) : Type 0 where
  numbers : List ℕ
  node : n ≡ operation label numbers
  lower : (k : ℕ) → k < length numbers → get_or numbers k 0 < i
  is : those es numbers ≡ children

-- a node that is an operation's expression is that operation over numbers of its children
over-op : (es : List Expression) (i : ℕ) (n : Node) (label : ℕ) (children : Expressions) → Allowed i n → over es n ≡ op label children → Over es i n label children
unfolding over Allowed
over-op es i (column a x) label children p e = absurd (let z : ◌≡◌ {A = ℕ} 0 1 = cc in omega arith)
over-op es i (literal w) label children p e = absurd (let z : ◌≡◌ {A = ℕ} 0 1 = cc in omega arith)
over-op es i (operation l ks) label children p e = record { numbers = ks; node = cc; lower = p.1; is = cc }

mutual
  unfolding add_expression add_expressions and_then those

  -- an expression of the arena is found again, and the arena stays
  pub add_expression-old : (e : Expression) (ns : List Node) → Sound ns → (i : ℕ) → i < length ns → expression_at ns i ≡ e → add_expression e ns ≡ placed i ns
  add_expression-old (col name index) ns s i l e =
      add-old (column name index) ns s i l (over-col (expressions ns) (node_at ns i) name index (sym (expression-is ns s i l) ∙ e))
  add_expression-old (lit v) ns s i l e =
      add-old (literal v) ns s i l (over-lit (expressions ns) (node_at ns i) v (sym (expression-is ns s i l) ∙ e))
  add_expression-old (op label es) ns s i l e =
      let o = over-op (expressions ns) i (node_at ns i) label es (s.allowed i l) (sym (expression-is ns s i l) ∙ e) in
      rw (add_expressions-old es ns s o.numbers (λ k b. let c = o.lower k b in omega arith) o.is) (add-old (operation label o.numbers) ns s i l o.node)

  -- so are expressions in a row
  pub add_expressions-old : (es : Expressions) (ns : List Node) → Sound ns → (ks : List ℕ) → ((k : ℕ) → k < length ks → get_or ks k 0 < length ns) → those (expressions ns) ks ≡ es → add_expressions es ns ≡ placed ks ns
  add_expressions-old ∅ ns s [] b e = refl
  add_expressions-old ∅ ns s (k ∷ ks) b e = absurd (let z : ◌≡◌ {A = ℕ} 0 1 = cc in omega arith)
  add_expressions-old (x ▹ es) ns s [] b e = absurd (let z : ◌≡◌ {A = ℕ} 0 1 = cc in omega arith)
  add_expressions-old (x ▹ es) ns s (k ∷ ks) b e =
      rw (add_expression-old x ns s k (b 0 (omega arith)) (cc), add_expressions-old es ns s ks (λ j l. b (suc j) (omega arith)) (cc))
