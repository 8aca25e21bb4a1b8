-- Whether an expression can move, by its node's children, and by a table of the nodes before it.
use Prim.Native.Nat.{ℕ, zero, suc, ◌+◌, ◌%◌, ◌<◌}
use mathlib.Core.Bool.{Bool, false, ◌&&◌, and-true, and_assoc}
use mathlib.Core.List.{List, [], ◌∷◌}
use Rattle.std.specs.Prelude.{Option, is_some}
use mathlib.Core.Path.{◌≡◌, refl, sym, ap, ◌∙◌}
use native.Mathlib.Decide.{ℕ_discrete}
use native.Mathlib.Omega.{arith}
use lib.ListN.{length, get_or, set}
use lib.Seq.{get_or-set_same, get_or-set_other}
use Rattle.laws.specs.Tests.{each}
use Rattle.laws.proofs.Each.{each_cong}
use Rattle.arena.specs.Node.{Node, column, literal, operation, node_at, child_numbers}
use Rattle.arena.specs.Expression.{Expression, lit, those, over, expressions, expression_at}
use Rattle.shifting.specs.Shift.{can_move, all_move}
use Rattle.arena.specs.Layout.{cell_of, row_of, node_of, decode}
use Rattle.arena.specs.Inner.{Known}
use Rattle.arena.proofs.Layouts.{node-decode, at-row_of}
use Rattle.arena.proofs.NodeCells.{node-column, node-literal, node-operation}
use Rattle.arena.proofs.Trees.{expression-is}
use Rattle.arena.proofs.Children.{in_arena_lem, child-below}

-- "for all" by its first test
each_first : (p : ℕ → Bool) (n : ℕ) → each p (suc n) ≡ (p 0 && each (λ k. p (suc k)) n)
unfolding each
each_first p zero = sym (and-true (p 0))
each_first p (suc n) = ap (λ (b : Bool). b && p (suc n)) (each_first p n) ∙ and_assoc (p 0) (each (λ k. p (suc k)) n) (p (suc n))

module _ (to : ℕ → Option ℕ) (es : List Expression) where
  -- the expression with number i can move
  abbrev Moves : ℕ → Bool
  Moves i = can_move to (get_or es i (lit 0))

  -- those expressions can move if each can
  all_move_lem : (ks : List ℕ) → all_move to (those es ks) ≡ each (λ k. Moves (get_or ks k 0)) (length ks)
  unfolding those all_move each
  all_move_lem [] = refl
  all_move_lem (k ∷ ks) = ap (λ (b : Bool). Moves k && b) (all_move_lem ks) ∙ sym (each_first (λ j. Moves (get_or (k ∷ ks) j 0)) (length ks))

  -- a column can move if its index can
  over-column : (name index : ℕ) → can_move to (over es (column name index)) ≡ is_some (to index)
  unfolding can_move over
  over-column name index = refl

  -- a literal can, and an operation if its children can
  over-children : (n : Node) → ((name index : ℕ) → n ≡ column name index → ⊥) → can_move to (over es n) ≡ each (λ k. Moves (get_or (child_numbers n) k 0)) (length (child_numbers n))
  unfolding can_move over child_numbers each
  over-children (column name index) h = absurd (h name index refl)
  over-children (literal value) h = refl
  over-children (operation label children) h = all_move_lem children

-- a row of another kind is no column's
no_column : (r : List ℕ) → (get_or r 0 0 ≡ 1 → ⊥) → (name index : ℕ) → node_of r ≡ column name index → ⊥
no_column r h name index e = at (ℕ_discrete (get_or r 0 0) 2)
  where
    at : Dec (get_or r 0 0 ≡ 2) → ⊥
    at (yes q) = let l = node-literal r q in let z : ◌≡◌ {A = ℕ} 0 1 = cc in omega arith
    at (no q) = let o = node-operation r h q in let z : ◌≡◌ {A = ℕ} 0 1 = cc in omega arith

module _ (s : List ℕ) (e : ℕ) (k : Known s e) where
  module _ (to : ℕ → Option ℕ) where
    -- its expression is its node over the others
    is-over : can_move to (expression_at (decode s) e) ≡ can_move to (over (expressions (decode s)) (node_at (decode s) e))
    is-over = ap (can_move to) (expression-is (decode s) k.holds.sound e (in_arena_lem s e k))

    -- a column
    pub column-moves : cell_of s e 0 ≡ 1 → is_some (to (cell_of s e 1 % 65536)) ≡ can_move to (expression_at (decode s) e)
    column-moves q =
        sym (is-over
        ∙ rw (node-decode s e k.below, node-column (row_of s e) (at-row_of s e 0 (omega arith) ∙ q), at-row_of s e 1 (omega arith))
        (over-column to (expressions (decode s)) _ (cell_of s e 1 % 65536)))

    -- any other node, by a table that holds for the nodes before it
    pub children_move_lem : (cell_of s e 0 ≡ 1 → ⊥) → (table : List Bool) → ((j : ℕ) → j < e → get_or table j false ≡ can_move to (expression_at (decode s) j))
        → each (λ i. get_or table (get_or (child_numbers (node_at (decode s) e)) i 0) false) (length (child_numbers (node_at (decode s) e))) ≡ can_move to (expression_at (decode s) e)
    children_move_lem q table h =
        each_cong (λ i. get_or table (get_or (child_numbers (node_at (decode s) e)) i 0) false) (λ i. can_move to (expression_at (decode s) (get_or (child_numbers (node_at (decode s) e)) i 0)))
        (length (child_numbers (node_at (decode s) e))) (λ i l. h (get_or (child_numbers (node_at (decode s) e)) i 0) (child-below s e k i l))
        ∙ sym (is-over ∙ over-children to (expressions (decode s)) (node_at (decode s) e)
        (λ name index t. no_column (row_of s e) (λ z. q (sym (at-row_of s e 0 (omega arith)) ∙ z)) name index (sym (node-decode s e k.below) ∙ t)))

-- a table that holds below i, and the answer for i written into it
pub table_more : (f : ℕ → Bool) (table : List Bool) (i : ℕ) (b : Bool) → i < length table → ((j : ℕ) → j < i → get_or table j false ≡ f j) → b ≡ f i
    → (j : ℕ) → j < i + 1 → get_or (set table i b) j false ≡ f j
table_more f table i b l h e j m = at (ℕ_discrete j i)
  where
    at : Dec (j ≡ i) → get_or (set table i b) j false ≡ f j
    at (yes q) = rw q (get_or-set_same table i b false l ∙ e)
    at (no q) = get_or-set_other table i j b false q ∙ h j (omega arith)
