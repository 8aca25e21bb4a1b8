-- An operation's row: of a node in the cells, and while the numbers of children are written into it.
use Prim.Native.Nat.{ℕ, suc, ◌+◌, ◌-◌, ◌<◌}
use mathlib.Core.List.{List}
use mathlib.Core.Path.{◌≡◌, refl, sym, ap, ◌∙◌}
use native.Mathlib.Omega.{arith}
use lib.ListN.{length, get_or, set, replicate, length-set}
use lib.Seq.{set-append_left, get_or-set_other}
use Rattle.laws.proofs.Table.{get_or-table}
use Rattle.arena.specs.Node.{operation, node_at}
use Rattle.arena.specs.Layout.{row, count, row_of, children_of, decode as nodes}
use Rattle.arena.specs.Inner.{Holds, operation_row}
use Rattle.arena.proofs.Layouts.{node-decode}
use Rattle.arena.proofs.Walking.{children-count, children-row}

-- the row of a node that is an operation
pub operation-row : (s : List ℕ) (e label : ℕ) (ks : List ℕ) → Holds s → e < count s → node_at (nodes s) e ≡ operation label ks → row_of s e ≡ row (operation label ks)
operation-row s e label ks h l q = sym (h.coded e l) ∙ ap row (sym (node-decode s e l) ∙ q)

-- its label
pub row_label : (label : ℕ) (ks : List ℕ) → get_or (row (operation label ks)) 1 0 ≡ label
unfolding row
row_label label ks = refl

-- a number is written in place of child k
row_written : (label i k : ℕ) (ks : List ℕ) → k < length ks → set (row (operation label ks)) (3 + k) i ≡ row (operation label (set ks k i))
unfolding row
row_written label i k ks l =
    let e : 3 + k ≡ suc (suc (suc k)) = omega arith in
    rw (e, length-set ks k i, set-append_left ks (replicate (8 - length ks) 0) k i l)

-- child k stands at place 3 + k
pub row-child : (r : List ℕ) (k : ℕ) → k < length (children_of r) → get_or r (3 + k) 0 ≡ get_or (children_of r) k 0
unfolding children_of
row-child r k l = sym (get_or-table (λ j. get_or r (3 + j) 0) (get_or r 2 0) k 0 (omega (arith, children-count r)))

module _ (r : List ℕ) (i k : ℕ) (q : r ≡ operation_row r (children_of r)) (l : k < length (children_of r)) where
  -- the row with a number in place of child k
  written : set r (3 + k) i ≡ operation_row r (set (children_of r) k i)
  written = ap (λ (m : List ℕ). set m (3 + k) i) q ∙ row_written (get_or r 1 0) i k (children_of r) l

  -- the children of the row afterwards
  pub children-set : children_of (set r (3 + k) i) ≡ set (children_of r) k i
  children-set = ap children_of written ∙ children-row (get_or r 1 0) (set (children_of r) k i)

  -- the label stays
  pub label-set : get_or (set r (3 + k) i) 1 0 ≡ get_or r 1 0
  label-set = get_or-set_other r (3 + k) 1 i 0 (λ z. omega arith)

  -- and it is an operation's row
  pub row-set : set r (3 + k) i ≡ operation_row (set r (3 + k) i) (children_of (set r (3 + k) i))
  row-set = written ∙ rw (children-set, label-set)
