-- Shifting by a lift: what the walk needs at a column, at a literal and at an operation.
use Rattle.arena.specs.declared.Refusal.TheVariants.{ArenaFull, IndexOutOfRange}
use Rattle.arena.specs.declared.Refusal.{Refusal}
use Rattle.arena.specs.Refusals.{Added}
use Prim.Native.Nat.{ℕ, suc, zero, ◌+◌, ◌-◌, ◌*◌, ◌/◌, ◌%◌, ◌<◌, ◌≤◌}
use mathlib.Core.Bool.{Bool, true, false}
use mathlib.Core.List.{List, [], ◌∷◌}
use Rattle.std.specs.Prelude.{Option, Some, is_some, Err, Ok}
use mathlib.Core.Path.{◌≡◌, refl, sym, ap, ◌∙◌, subst}
use native.Mathlib.Omega.{arith}
use borrow.Author.Tests.{leb-true, ltb-true}
use lib.Dec.{leb, ltb}
use lib.IntN.{ℤ}
use lib.ListN.{length, get_or, set, replicate}
use Rattle.laws.proofs.Booleans.{and_left, and_right, true_not_false}
use Rattle.arena.specs.Node.{Node, column, literal, operation, node_at}
use Rattle.arena.specs.Expression.{Expression, Expressions, col, lit, op, ∅, ◌▹◌, expressions, expression_at, those, over}
use Rattle.arena.specs.Arena.{Sound, Allowed, Small, AllSmall, and_then, add, add_expression}
use Rattle.shifting.specs.Shift.{moved, can_move, all_move, shifted, all_shifted}
use Rattle.arena.specs.Layout.{row, count, cell_of, row_of, node_of, children_of, decode}
use Rattle.arena.specs.Calls.{answered, in_cells}
use Rattle.shifting.specs.Calls.{shifted_outcome}
use Rattle.arena.specs.Inner.{Known, Placeable, told, is_refused, Grew, Walked, map_all, told_all, WalkedAll}
use Rattle.shifting.specs.Inner.{lifted, shifted_by, Ready, ReadyAll}
use Rattle.arena.proofs.Nodes.{extends-none, extends-both, extends-longer}
use Rattle.arena.proofs.Trees.{expression-is, expression-kept, expression-small}
use Rattle.arena.proofs.Growing.{AddedExpressions, add-expressions, add_expression-old}
use Rattle.shifting.proofs.Values.{shifted-small, can_move_cong, shifted_cong}
use Rattle.arena.proofs.Rows.{node_row}
use Rattle.arena.proofs.Layouts.{length-decode, node-decode, at-row_of, coded-cells}
use Rattle.arena.proofs.NodeCells.{node-column, node-literal, node-operation}
use Rattle.arena.proofs.Walking.{PlacedRow, Through, memo-none, memo-kept}

-- an index that moves
pub record Moves (lift index : ℕ) : Type 0 where
  pub low : 65535 ≤ index + lift
  pub high : index + lift < 131071
  pub is : lifted lift index ≡ Some (index + lift - 65535)

pub index-moves : (lift index : ℕ) → is_some (lifted lift index) ≡ true → Moves lift index
unfolding lifted
index-moves lift index e = go (leb 65535 (index + lift)) (ltb (index + lift) 131071) refl refl e
  where
    go : (a b : Bool) → leb 65535 (index + lift) ≡ a → ltb (index + lift) 131071 ≡ b → is_some (lifted lift index) ≡ true → Moves lift index
    go true true p q z = record { low = leb-true 65535 (index + lift) p; high = ltb-true (index + lift) 131071 q; is = rw (p, q) }
    go true false p q z = absurd (true_not_false (sym (rw (p, q)) ∙ z) refl)
    go false b p q z = absurd (true_not_false (sym (rw p) ∙ z) refl)

-- it stays in 16 bits
pub lifted-within : (lift i n : ℕ) → lifted lift i ≡ Some n → n < 65536
lifted-within lift i n e =
    let m = index-moves lift i (ap is_some e) in
    let q : i + lift - 65535 ≡ n = cc m.is in
    omega arith

-- the shifted children are each child shifted
all-shifted : (to : ℕ → Option ℕ) (es : Expressions) → all_shifted to es ≡ map_all (shifted to) es
unfolding all_shifted map_all
all-shifted to ∅ = refl
all-shifted to (e ▹ es) = ap (λ (x : Expressions). shifted to e ▹ x) (all-shifted to es)

-- where all children move, child k does
child-moves : (to : ℕ → Option ℕ) (es : List Expression) (ks : List ℕ) (k : ℕ) → all_move to (those es ks) ≡ true → k < length ks → can_move to (get_or es (get_or ks k 0) (lit 0)) ≡ true
unfolding all_move those
child-moves to es [] k e l = absurd (omega arith)
child-moves to es (c ∷ ks) zero e l = and_left (can_move to (get_or es c (lit 0))) (all_move to (those es ks)) e
child-moves to es (c ∷ ks) (suc k) e l = child-moves to es ks k (and_right (can_move to (get_or es c (lit 0))) (all_move to (those es ks)) e) (omega arith)

module _ (lift : ℕ) (s memo : List ℕ) (e : ℕ) (d : Ready lift s memo e) where
  within : e < length (decode s)
  within = rw (length-decode s) d.known.below

  sound : Sound (decode s)
  sound = d.known.holds.sound

  -- an arena can hold the shifted expression
  pub ready-small : Small (shifted_by lift (expression_at (decode s) e))
  ready-small = shifted-small (lifted lift) (lifted-within lift) (expression_at (decode s) e) (expression-small (decode s) sound e within) d.moves

  -- the expression of the node
  pub ready-is : (n : Node) → node_at (decode s) e ≡ n → expression_at (decode s) e ≡ over (expressions (decode s)) n
  ready-is n q = expression-is (decode s) sound e within ∙ ap (over (expressions (decode s))) q

  -- a literal stays
  pub literal-stays : cell_of s e 0 ≡ 2 → Walked (shifted_by lift) s s memo e (Ok e)
  unfolding told shifted over
  literal-stays q =
      let n : node_at (decode s) e ≡ literal (get_or (row_of s e) 1 0) = node-decode s e d.known.below ∙ node-literal (row_of s e) (at-row_of s e 0 (omega arith) ∙ q) in
      let x : expression_at (decode s) e ≡ lit (get_or (row_of s e) 1 0) = ready-is (literal (get_or (row_of s e) 1 0)) n in
      let y : shifted_by lift (expression_at (decode s) e) ≡ expression_at (decode s) e = ap (shifted_by lift) x ∙ sym x in
      record {
        grew =
            record {
              holds = d.known.holds;
              extends = extends-none (decode s);
              is = sym (add_expression-old (shifted_by lift (expression_at (decode s) e)) (decode s) sound e within (sym y));
            };
        memo_true = d.memo_true;
      }

  -- an operation's children are walked
  pub ready-all : (cell_of s e 0 ≡ 1 → ⊥) → (cell_of s e 0 ≡ 2 → ⊥) → (r : List ℕ) → r ≡ row_of s e → ReadyAll lift s memo r e
  ready-all a b r q =
      let z : (k : ℕ) → get_or (row_of s e) 0 0 ≡ k → cell_of s e 0 ≡ k = λ k w. sym (at-row_of s e 0 (omega arith)) ∙ w in
      let o : node_of (row_of s e) ≡ operation (get_or (row_of s e) 1 0) (children_of (row_of s e)) = node-operation (row_of s e) (λ w. a (z 1 w)) (λ w. b (z 2 w)) in
      record {
        ready = d;
        node = rw q (node-decode s e d.known.below ∙ o);
        row_is = rw q (sym (d.known.holds.coded e d.known.below) ∙ ap row o);
      }

module _ (lift : ℕ) (s memo r : List ℕ) (e : ℕ) (d : ReadyAll lift s memo r e) where
  children-allowed : (length (children_of r) ≤ 8) × ((k : ℕ) → k < length (children_of r) → get_or (children_of r) k 0 < e)
  unfolding Allowed
  children-allowed = subst (Allowed e) d.node (d.ready.known.holds.sound.allowed e (rw (length-decode s) d.ready.known.below))

  -- at most 8 children
  pub children_eight : length (children_of r) ≤ 8
  children_eight = children-allowed.0

  -- a child is lower
  pub child-lower : (k : ℕ) → k < length (children_of r) → get_or (children_of r) k 0 < e
  child-lower = children-allowed.1

  -- so it is in the arena
  pub child-known : (k : ℕ) → k < length (children_of r) → get_or (children_of r) k 0 < length (decode s)
  child-known k l = omega (arith, child-lower k l, length-decode s, d.ready.known.below)

  moves : all_move (lifted lift) (those (expressions (decode s)) (children_of r)) ≡ true
  unfolding can_move over
  moves = sym (ap (can_move (lifted lift)) (ready-is lift s memo e d.ready (operation (get_or r 1 0) (children_of r)) d.node)) ∙ d.ready.moves

  -- child k can be walked when the loop has come to it
  pub child-ready : (t memo₂ r' : List ℕ) (k : ℕ) → Through (shifted_by lift) s t memo₂ r r' k → k < length (children_of r) → Ready lift t memo₂ (get_or (children_of r) k 0)
  child-ready t memo₂ r' k h l =
      record {
        known = record { holds = h.holds; below = omega (arith, child-known k l, extends-longer h.extends, length-decode t) };
        small = d.ready.small;
        moves = ap (can_move (lifted lift)) (expression-kept h.extends (get_or (children_of r) k 0) (child-known k l)) ∙ child-moves (lifted lift) (expressions (decode s)) (children_of r) k moves l;
        memo_true = h.memo_true;
      }

  -- the shifted expression is the operation over the shifted children
  shifted-is : shifted_by lift (expression_at (decode s) e) ≡ op (get_or r 1 0) (map_all (shifted_by lift) (those (expressions (decode s)) (children_of r)))
  unfolding shifted over
  shifted-is = ap (shifted_by lift) (ready-is lift s memo e d.ready (operation (get_or r 1 0) (children_of r)) d.node) ∙ ap (op (get_or r 1 0)) (all-shifted (lifted lift) (those (expressions (decode s)) (children_of r)))

  all_small : AllSmall (map_all (shifted_by lift) (those (expressions (decode s)) (children_of r)))
  unfolding Small
  all_small = (subst Small shifted-is (ready-small lift s memo e d.ready)).1

  module _ (t memo₂ r' : List ℕ) where
    -- no room for the children: no room for the expression
    pub children-full : WalkedAll (shifted_by lift) s t memo₂ r r' false → (k : Refusal) → Walked (shifted_by lift) s t memo₂ e (Err k)
    unfolding told told_all add_expression and_then
    children-full w k =
        record {
          grew = record { holds = w.holds; extends = w.extends; is = sym (ap (λ (x : Expression). add_expression x (decode s)) shifted-is ∙ rw (← w.is)) };
          memo_true = w.memo_true;
        }

    module _ (w : WalkedAll (shifted_by lift) s t memo₂ r r' true) where
      added : AddedExpressions (map_all (shifted_by lift) (those (expressions (decode s)) (children_of r))) (decode s) (children_of r') (decode t)
      unfolding told_all
      added = add-expressions (map_all (shifted_by lift) (those (expressions (decode s)) (children_of r))) (decode s) d.ready.known.holds.sound all_small (children_of r') (decode t) (sym w.is)

      allowed : Allowed (count t) (operation (get_or r 1 0) (children_of r'))
      unfolding Allowed Small
      allowed =
          let c : length (children_of r') ≤ 8 = rw added.counted (subst Small shifted-is (ready-small lift s memo e d.ready)).0 in
          (c, λ k l. rw (length-decode t) at (added.below k l))

      node : node_of r' ≡ operation (get_or r 1 0) (children_of r')
      node = ap node_of (w.row_is refl) ∙ node_row (count t) (operation (get_or r 1 0) (children_of r')) allowed

      -- the operation over the shifted children can be placed
      pub operation-placeable : Placeable t r'
      operation-placeable = record { holds = w.holds; coded = ap row node ∙ sym (w.row_is refl); allowed = subst (Allowed (count t)) (sym node) allowed }

      -- and once it is, the expression is shifted
      pub operation-walked : (u : List ℕ) (a : Added) → PlacedRow r' t u a → Walked (shifted_by lift) s u memo₂ e a
      unfolding told_all add_expression and_then
      operation-walked u a p =
          record {
            grew =
                record {
                  holds = p.holds;
                  extends = extends-both w.extends p.extends;
                  is = p.is ∙ ap (λ (n : Node). add n (decode t)) node ∙ sym (ap (λ (x : Expression). add_expression x (decode s)) shifted-is ∙ rw (← w.is));
                };
            memo_true = memo-kept (shifted_by lift) memo₂ p.extends w.memo_true;
          }

-- a column: the row with the moved index
module _ (lift : ℕ) (s r : List ℕ) (e : ℕ) (known : Known s e) (kind : cell_of s e 0 ≡ 1) (can : can_move (lifted lift) (expression_at (decode s) e) ≡ true) (q : r ≡ row_of s e) where
  abbrev name : ℕ
  name = get_or r 1 0 / 65536

  abbrev index : ℕ
  index = get_or r 1 0 % 65536

  column-node : node_at (decode s) e ≡ column name index
  column-node = rw q (node-decode s e known.below ∙ node-column (row_of s e) (at-row_of s e 0 (omega arith) ∙ kind))

  column-expression : expression_at (decode s) e ≡ col name index
  unfolding over
  column-expression = expression-is (decode s) known.holds.sound e (rw (length-decode s) known.below) ∙ ap (over (expressions (decode s))) column-node

  moving : Moves lift index
  unfolding can_move
  moving = index-moves lift index (sym (ap (can_move (lifted lift)) column-expression) ∙ can)

  -- the moved index lies in 0..65,535
  pub column-moves : Moves lift index
  column-moves = moving

  -- the payload with the moved index
  abbrev pub payload : ℕ
  payload = get_or r 1 0 - index + (index + lift - 65535)

  moved_row : set r 1 payload ≡ row (column name (index + lift - 65535))
  unfolding row
  moved_row =
      let c : r ≡ row (column name index) = q ∙ sym (known.holds.coded e known.below) ∙ ap row (sym (node-decode s e known.below) ∙ column-node) in
      let v : payload ≡ name * 65536 + (index + lift - 65535) = omega (arith, moving.low) in
      ap (λ (l : List ℕ). set l 1 payload) c ∙ rw v

  column-allowed : Allowed (count s) (column name (index + lift - 65535))
  unfolding Allowed
  column-allowed = omega (arith, moving.high)

  moved-node : node_of (set r 1 payload) ≡ column name (index + lift - 65535)
  moved-node = ap node_of moved_row ∙ node_row (count s) (column name (index + lift - 65535)) column-allowed

  -- the moved column can be placed
  pub column-placeable : Placeable s (set r 1 payload)
  column-placeable = record { holds = known.holds; coded = ap row moved-node ∙ sym moved_row; allowed = subst (Allowed (count s)) (sym moved-node) column-allowed }

  -- and once it is, the column is shifted
  pub column-grew : (t : List ℕ) (a : Added) → PlacedRow (set r 1 payload) s t a → Grew (shifted_by lift (expression_at (decode s) e)) s t a
  unfolding add_expression shifted
  column-grew t a p =
      let x : shifted_by lift (expression_at (decode s) e) ≡ col name (index + lift - 65535) = ap (shifted_by lift) column-expression ∙ rw moving.is in
      record { holds = p.holds; extends = p.extends; is = p.is ∙ rw (moved-node, x) }

-- the whole call: an offset, and the lift that stands for it
module _ (s : List ℕ) (e : ℕ) (offset : ℤ) (lift : ℕ) (known : Known s e) (agree : (i : ℕ) → i < 65536 → moved offset i ≡ lifted lift i) where
  small : Small (expression_at (decode s) e)
  small = expression-small (decode s) known.holds.sound e (rw (length-decode s) known.below)

  can-is : can_move (moved offset) (expression_at (decode s) e) ≡ can_move (lifted lift) (expression_at (decode s) e)
  can-is = can_move_cong (moved offset) (lifted lift) agree (expression_at (decode s) e) small

  shift_is : shifted (moved offset) (expression_at (decode s) e) ≡ shifted_by lift (expression_at (decode s) e)
  shift_is = shifted_cong (moved offset) (lifted lift) agree (expression_at (decode s) e) small

  -- a column leaves its bounds
  pub shift-out : can_move (lifted lift) (expression_at (decode s) e) ≡ false → in_cells (shifted_outcome e offset (decode s)) ≡ (Err IndexOutOfRange, s)
  unfolding in_cells shifted_outcome
  shift-out q = rw (can-is ∙ q, coded-cells s known.holds)

  module _ (can : can_move (lifted lift) (expression_at (decode s) e) ≡ true) where
    -- the walk can begin, with an empty memo
    pub shift-ready : lift ≤ 200000 → (n : ℕ) → Ready lift s (replicate {A = ℕ} n 0) e
    shift-ready l n = record { known = known; small = l; moves = can; memo_true = memo-none (shifted_by lift) (decode s) n }

    -- it has answered
    pub shift-done : (t memo : List ℕ) (a : Added) → is_refused a ≡ false → Walked (shifted_by lift) s t memo e a → in_cells (shifted_outcome e offset (decode s)) ≡ (a, t)
    unfolding in_cells shifted_outcome answered told is_refused
    shift-done t memo (Ok i) q w = rw (can-is ∙ can, shift_is, ← w.grew.is, coded-cells t w.grew.holds)
    shift-done t memo (Err k) q w = absurd (true_not_false refl q)

    -- there was no room
    pub shift-full : (t memo : List ℕ) (a : Added) → is_refused a ≡ true → Walked (shifted_by lift) s t memo e a → in_cells (shifted_outcome e offset (decode s)) ≡ (Err ArenaFull, s)
    unfolding in_cells shifted_outcome answered told is_refused
    shift-full t memo (Ok i) q w = absurd (true_not_false q refl)
    shift-full t memo (Err k) q w = rw (can-is ∙ can, shift_is, ← w.grew.is, coded-cells s known.holds)
