-- The promises of the arena's calls, over the functions that their contracts cite.
use Rattle.arena.specs.declared.Refusal.TheVariants.{ArenaFull, BadState, TooManyChildren, UnknownExpression}
use Rattle.arena.specs.Refusals.{Added}
use Rattle.std.specs.Prelude.{if◌then◌else◌, Option, None, Some, Err, Ok}
use Prim.Native.Nat.{ℕ, ◌<◌, ◌≤◌}
use mathlib.Core.Bool.{Bool, true, false}
use mathlib.Core.List.{List, [], ◌∷◌, ◌++◌}
use mathlib.Core.Path.{◌≡◌, refl, ap, ◌∙◌}
use native.Mathlib.Omega.{arith}
use borrow.Author.Tests.{ltb-true, ltb-false, lt-ltb, le-ltb, leb-true, le-leb}
use lib.Dec.{ltb, leb}
use lib.ListN.{length, get_or}
use Rattle.laws.specs.Tests.{each}
use Rattle.laws.proofs.Each.{each_holds, each_all}
use Rattle.arena.specs.Node.{Node, column, operation, node_at}
use Rattle.arena.specs.Expression.{Expression, Expressions, col, lit, op, those, over, expressions, expression_at}
use Rattle.arena.specs.Arena.{Allowed, Sound, Extends, Small, Placed, placed, full, find, placed_at, add, add_expression}
use Rattle.arena.specs.declared.Refusal.{Refusal}
use Rattle.arena.specs.Layout.{encode, decode, lawful}
use Rattle.arena.specs.Calls.{Outcome, answered, add_column, add_literal, add_operation, in_cells, lent, added_number}
use Rattle.arena.proofs.Nodes.{find-some, find_none, extends-none, extends-longer, extends-node, AddedNode, add-node, add-old}
use Rattle.arena.proofs.Trees.{those_cong, expression-kept, expression-is}
use Rattle.arena.proofs.Growing.{add-expression, add_expression-old}
use Rattle.arena.proofs.Layouts.{encode-holds, coded-cells, holds-lawful, lawful-holds}
use Rattle.arena.proofs.Lending.{on_none, on-arena}

-- a sound arena stays sound, old nodes keep number and content, a refusal leaves the arena as it was
pub record Kept (ns : List Node) (o : Outcome) : Type 0 where
  pub sound : Sound o.1
  pub extends : Extends ns o.1
  pub refused : (added_number o.0 ≡ 0 → ⊥) → o.1 ≡ ns

-- a call that adds nothing keeps the arena
pub kept-none : (a : Added) (ns : List Node) → Sound ns → Kept ns (a, ns)
kept-none a ns s = record { sound = s; extends = extends-none ns; refused = λ h. refl }

-- a call that answers a number keeps it too, in a sound extension
kept-number : (i : ℕ) (ns ms : List Node) → Sound ms → Extends ns ms → Kept ns (Ok i, ms)
kept-number i ns ms s x = record { sound = s; extends = x; refused = λ h. absurd (h refl) }

-- adding a node that may have the next number keeps the arena
node_kept : (n : Node) (ns : List Node) → Sound ns → Allowed (length ns) n → Kept ns (answered ns (add n ns))
unfolding answered
node_kept n ns s a = go (add n ns) refl
  where
    go : (p : Placed ℕ) → add n ns ≡ p → Kept ns (answered ns p)
    go (placed i ms) e = let m = add-node n ns s a i ms e in kept-number i ns ms m.sound m.extends
    go full e = kept-none (Err ArenaFull) ns s

-- adding a small expression keeps the arena
pub tree_kept : (x : Expression) (ns : List Node) → Sound ns → Small x → Kept ns (answered ns (add_expression x ns))
unfolding answered
tree_kept x ns s a = go (add_expression x ns) refl
  where
    go : (p : Placed ℕ) → add_expression x ns ≡ p → Kept ns (answered ns p)
    go (placed i ms) e = let m = add-expression x ns s a i ms e in kept-number i ns ms m.sound m.extends
    go full e = kept-none (Err ArenaFull) ns s

-- adding a column keeps the arena
pub column-kept : (name index : ℕ) (ns : List Node) → Sound ns → index < 65536 → Kept ns (add_column name index ns)
unfolding add_column add_expression Small
column-kept name index ns s l = tree_kept (col name index) ns s l

-- adding a literal keeps it
pub literal-kept : (value : ℕ) (ns : List Node) → Sound ns → Kept ns (add_literal value ns)
unfolding add_literal add_expression Small
literal-kept value ns s = tree_kept (lit value) ns s tt

-- the children of an operation are all known
abbrev all_known : List ℕ → List Node → Bool
all_known children ns = each (λ k. ltb (get_or children k 0) (length ns)) (length children)

-- an operation over at most 8 known children may have the next number
next-operation : (label : ℕ) (children : List ℕ) (ns : List Node) → all_known children ns ≡ true → length children ≤ 8 → Allowed (length ns) (operation label children)
unfolding Allowed
next-operation label children ns t l =
    (l, λ k b. ltb-true (get_or children k 0) (length ns) (each_holds (λ k. ltb (get_or children k 0) (length ns)) (length children) k t b))

-- adding an operation keeps it
pub operation-kept : (label : ℕ) (children : List ℕ) (ns : List Node) → Sound ns → Kept ns (add_operation label children ns)
unfolding add_operation
operation-kept label children ns s = go (all_known children ns) refl (leb (length children) 8) refl
  where
    go : (a : Bool) → all_known children ns ≡ a → (b : Bool) → leb (length children) 8 ≡ b
        → Kept ns (if a then (if b then answered ns (add (operation label children) ns) else (Err TooManyChildren, ns)) else (Err UnknownExpression, ns))
    go true t true u = node_kept (operation label children) ns s (next-operation label children ns t (leb-true (length children) 8 u))
    go true t false u = kept-none (Err TooManyChildren) ns s
    go false t b u = kept-none (Err UnknownExpression) ns s

-- a refusal is no number
pub not-number : (k : Refusal) (i : ℕ) (ns ms : List Node) → ◌≡◌ {A = Outcome} (Err k, ns) (Ok i, ms) → ⊥
not-number k i ns ms e =
    let a : Err k ≡ Ok i = ap (λ (o : Outcome). o.0) e in
    let z : ◌≡◌ {A = ℕ} 0 1 = cc in omega arith

-- where a number is answered, it was placed
pub was-placed : (ns : List Node) (p : Placed ℕ) (i : ℕ) (ms : List Node) → answered ns p ≡ (Ok i, ms) → p ≡ placed i ms
unfolding answered
was-placed ns (placed j os) i ms e =
    let a : Ok j ≡ Ok i = ap (λ (o : Outcome). o.0) e in
    let b : os ≡ ms = ap (λ (o : Outcome). o.1) e in
    cc
was-placed ns full i ms e = absurd (not-number _ i ns ms e)

-- the number that is answered for a small expression is the expression's
pub tree_is : (x : Expression) (ns : List Node) (i : ℕ) (ms : List Node) → Sound ns → Small x → answered ns (add_expression x ns) ≡ (Ok i, ms)
    → (i < length ms) × (expression_at ms i ≡ x)
tree_is x ns i ms s a e = let m = add-expression x ns s a i ms (was-placed ns (add_expression x ns) i ms e) in (m.below, m.is)

-- an expression once there is found again, in any sound extension
tree_again : (x : Expression) (i : ℕ) (ms : List Node) → (i < length ms) × (expression_at ms i ≡ x) → (os : List Node) → Sound os → Extends ms os
    → answered os (add_expression x os) ≡ (Ok i, os)
unfolding answered
tree_again x i ms h os t y = rw (add_expression-old x os t i (omega (arith, extends-longer y)) (expression-kept y i h.0 ∙ h.1))

-- the number that is answered for a column is the column's
pub column-is : (name index : ℕ) (ns : List Node) (i : ℕ) (ms : List Node) → Sound ns → index < 65536 → add_column name index ns ≡ (Ok i, ms)
    → (i < length ms) × (expression_at ms i ≡ col name index)
unfolding add_column add_expression Small
column-is name index ns i ms s l e = tree_is (col name index) ns i ms s l e

-- the number that is answered for a literal is the literal's
pub literal-is : (value : ℕ) (ns : List Node) (i : ℕ) (ms : List Node) → Sound ns → add_literal value ns ≡ (Ok i, ms)
    → (i < length ms) × (expression_at ms i ≡ lit value)
unfolding add_literal add_expression Small
literal-is value ns i ms s e = tree_is (lit value) ns i ms s tt e

-- what is known where an operation was added
record Operated (label : ℕ) (children : List ℕ) (ns : List Node) (i : ℕ) (ms : List Node) : Type 0 where
  few : length children ≤ 8
  below : (k : ℕ) → k < length children → get_or children k 0 < length ns
  node : AddedNode (operation label children) ns i ms

-- where a number is answered for an operation, its children were few and known, and the node was added
operated : (label : ℕ) (children : List ℕ) (ns : List Node) (i : ℕ) (ms : List Node) → Sound ns → add_operation label children ns ≡ (Ok i, ms) → Operated label children ns i ms
unfolding add_operation Allowed
operated label children ns i ms s e = go (all_known children ns) refl (leb (length children) 8) refl e
  where
    go : (a : Bool) → all_known children ns ≡ a → (b : Bool) → leb (length children) 8 ≡ b
        → ◌≡◌ {A = Outcome} (if a then (if b then answered ns (add (operation label children) ns) else (Err TooManyChildren, ns)) else (Err UnknownExpression, ns)) (Ok i, ms)
        → Operated label children ns i ms
    go true t true u q =
        let a = next-operation label children ns t (leb-true (length children) 8 u) in
        record { few = a.0; below = a.1; node = add-node (operation label children) ns s a i ms (was-placed ns (add (operation label children) ns) i ms q) }
    go true t false u q = absurd (not-number _ i ns ms q)
    go false t b u q = absurd (not-number _ i ns ms q)

-- the number that is answered for an operation is that of the operation over its children's expressions
pub operation-is : (label : ℕ) (children : List ℕ) (ns : List Node) (i : ℕ) (ms : List Node) → Sound ns → add_operation label children ns ≡ (Ok i, ms)
    → (i < length ms) × (expression_at ms i ≡ op label (those (expressions ns) children))
unfolding over
operation-is label children ns i ms s e =
    let o = operated label children ns i ms s e in (
      o.node.below,
      expression-is ms o.node.sound i o.node.below ∙ ap (λ (n : Node). over (expressions ms) n) o.node.is
          ∙ ap (λ (c : Expressions). op label c) (those_cong (expressions ms) (expressions ns) children (λ k l. expression-kept o.node.extends (get_or children k 0) (o.below k l))),
    )

-- a column once added is found again, also in a full arena
pub column_again : (name index : ℕ) (ns : List Node) (i : ℕ) (ms : List Node) → Sound ns → index < 65536 → add_column name index ns ≡ (Ok i, ms)
    → (os : List Node) → Sound os → Extends ms os → add_column name index os ≡ (Ok i, os)
unfolding add_column add_expression Small
column_again name index ns i ms s l e os t y = tree_again (col name index) i ms (tree_is (col name index) ns i ms s l e) os t y

-- so is a literal
pub literal-again : (value : ℕ) (ns : List Node) (i : ℕ) (ms : List Node) → Sound ns → add_literal value ns ≡ (Ok i, ms)
    → (os : List Node) → Sound os → Extends ms os → add_literal value os ≡ (Ok i, os)
unfolding add_literal add_expression Small
literal-again value ns i ms s e os t y = tree_again (lit value) i ms (tree_is (lit value) ns i ms s tt e) os t y

-- so is an operation
pub operation-again : (label : ℕ) (children : List ℕ) (ns : List Node) (i : ℕ) (ms : List Node) → Sound ns → add_operation label children ns ≡ (Ok i, ms)
    → (os : List Node) → Sound os → Extends ms os → add_operation label children os ≡ (Ok i, os)
unfolding add_operation answered
operation-again label children ns i ms s e os t y =
    let o = operated label children ns i ms s e in
    let l = extends-longer y in
    let m = extends-longer o.node.extends in
    rw (
      each_all (λ k. ltb (get_or children k 0) (length os)) (length children) (λ k b. lt-ltb (get_or children k 0) (length os) (let c = o.below k b in omega arith)),
      le-leb (length children) 8 o.few,
      add-old (operation label children) os t i (let c = o.node.below in omega arith) (extends-node y i o.node.below ∙ o.node.is),
    )

-- a call that keeps arenas, on lent cells
module _ (call : List Node → Outcome) (keeps : (ns : List Node) → Sound ns → Kept ns (call ns)) where
  -- the cells of an arena are the cells of an arena afterwards
  pub lent-lawful : (cells : List ℕ) → lawful cells ≡ true → lawful (lent call cells).1 ≡ true
  unfolding in_cells
  lent-lawful cells e =
      let h = lawful-holds cells e in
      let k = keeps (decode cells) h.sound in
      rw (on-arena {A = Added × List ℕ} (Err BadState, cells) (λ ns. in_cells (call ns)) cells e)
      (holds-lawful (encode (call (decode cells)).1) (encode-holds (call (decode cells)).1 k.sound))

  -- a refusal leaves every cell as it was, also where the cells are no arena
  pub lent-refused : (cells : List ℕ) → (added_number (lent call cells).0 ≡ 0 → ⊥) → (lent call cells).1 ≡ cells
  unfolding in_cells
  lent-refused cells q = go (lawful cells) refl
    where
      go : (b : Bool) → lawful cells ≡ b → (lent call cells).1 ≡ cells
      go true e =
          let h = lawful-holds cells e in
          let o = on-arena {A = Added × List ℕ} (Err BadState, cells) (λ ns. in_cells (call ns)) cells e in
          ap (λ (r : Added × List ℕ). r.1) o
          ∙ ap encode ((keeps (decode cells) h.sound).refused (λ z. q (ap (λ (r : Added × List ℕ). added_number r.0) o ∙ z)))
          ∙ coded-cells cells h
      go false e = ap (λ (r : Added × List ℕ). r.1) (on_none {A = Added × List ℕ} (Err BadState, cells) (λ ns. in_cells (call ns)) cells e)

-- a column is refused for want of room only where the arena has 1,024 nodes and none of them is that column
pub column-full : (name index : ℕ) (ns : List Node) → Sound ns → (add_column name index ns).0 ≡ Err ArenaFull
    → (length ns ≡ 1024) × ((i : ℕ) → i < length ns → node_at ns i ≡ column name index → ⊥)
unfolding add_column answered add placed_at
column-full name index ns s e = go (find (column name index) ns) refl e
  where
    new : find (column name index) ns ≡ None → (b : Bool) → ltb (length ns) 1024 ≡ b
        → (answered ns (if b then placed (length ns) (ns ++ (column name index ∷ [])) else full)).0 ≡ Err ArenaFull
        → (length ns ≡ 1024) × ((i : ℕ) → i < length ns → node_at ns i ≡ column name index → ⊥)
    new f true t q = absurd (let z : ◌≡◌ {A = ℕ} 0 1 = cc in omega arith)
    new f false t q = (omega (arith, s.few, ltb-false (length ns) 1024 t), find_none (column name index) ns f)

    go : (o : Option ℕ) → find (column name index) ns ≡ o → (answered ns (placed_at o (column name index) ns)).0 ≡ Err ArenaFull
        → (length ns ≡ 1024) × ((i : ℕ) → i < length ns → node_at ns i ≡ column name index → ⊥)
    go (Some j) f q = absurd (let z : ◌≡◌ {A = ℕ} 0 1 = cc in omega arith)
    go None f q = new f (ltb (length ns) 1024) refl q

-- and there it is refused
pub column_no_room : (name index : ℕ) (ns : List Node) → length ns ≡ 1024 → ((i : ℕ) → i < length ns → node_at ns i ≡ column name index → ⊥) → add_column name index ns ≡ (Err ArenaFull, ns)
unfolding add_column answered add placed_at
column_no_room name index ns l h = go (find (column name index) ns) refl
  where
    go : (o : Option ℕ) → find (column name index) ns ≡ o → answered ns (placed_at o (column name index) ns) ≡ (Err ArenaFull, ns)
    go (Some i) f = let q = find-some (column name index) ns i f in absurd (h i q.0 q.1)
    go None f = rw (le-ltb (length ns) 1024 (omega arith))
