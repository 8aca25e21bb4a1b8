-- The cells of a node, said of the node.
use Rattle.arena.specs.declared.Read.TheVariants.{Column, Literal, Operation}
use Prim.Native.Nat.{ℕ, ◌+◌, ◌/◌, ◌%◌, ◌<◌, ◌≤◌}
use mathlib.Core.List.{List}
use mathlib.Core.Path.{◌≡◌, refl, sym, ap, ◌∙◌}
use native.Mathlib.Omega.{arith}
use borrow.Author.Tests.{eq-eqb, ne_eqb}
use lib.ListN.{length, get_or}
use Rattle.laws.specs.Lists.{table}
use Rattle.laws.proofs.Table.{length-table, get_or-table}
use Rattle.arena.specs.Node.{Node, column, literal, operation, node_at, child_numbers}
use Rattle.arena.specs.Arena.{Allowed}
use Rattle.arena.specs.Layout.{row, row_of, cell_of, children_of, node_of, decode}
use Rattle.arena.specs.Calls.{read_of}
use Rattle.arena.specs.Inner.{Known, Coded}
use Rattle.arena.proofs.Layouts.{length-decode, node-decode, at-row_of}

-- the node of a row, by its kind
pub node-column : (r : List ℕ) → get_or r 0 0 ≡ 1 → node_of r ≡ column (get_or r 1 0 / 65536) (get_or r 1 0 % 65536)
unfolding node_of
node-column r e = rw (eq-eqb _ _ e)

pub node-literal : (r : List ℕ) → get_or r 0 0 ≡ 2 → node_of r ≡ literal (get_or r 1 0)
unfolding node_of
node-literal r e = rw e

pub node-operation : (r : List ℕ) → (get_or r 0 0 ≡ 1 → ⊥) → (get_or r 0 0 ≡ 2 → ⊥) → node_of r ≡ operation (get_or r 1 0) (children_of r)
unfolding node_of
node-operation r a b = rw (ne_eqb _ _ a, ne_eqb _ _ b)

-- a row's children are its node's
pub children-are : (r : List ℕ) → Coded r → child_numbers (node_of r) ≡ children_of r
unfolding row child_numbers children_of table
children-are r c = go (node_of r) refl c
  where
    cell : (n : Node) → row n ≡ r → (j : ℕ) → get_or r j 0 ≡ get_or (row n) j 0
    cell n e j = ap (λ (l : List ℕ). get_or l j 0) (sym e)

    go : (n : Node) → node_of r ≡ n → row n ≡ r → child_numbers n ≡ children_of r
    go (column name index) q e = rw (cell (column name index) e 2)
    go (literal value) q e = rw (cell (literal value) e 2)
    go (operation label children) q e =
        let k : get_or r 0 0 ≡ 3 = cell (operation label children) e 0 in
        let o : node_of r ≡ operation (get_or r 1 0) (children_of r) = node-operation r (λ z. omega arith) (λ z. omega arith) in
        cc

-- an allowed node has at most 8 children
allowed-few : (i : ℕ) (n : Node) → Allowed i n → length (child_numbers n) ≤ 8
unfolding Allowed child_numbers
allowed-few i (column name index) a = omega arith
allowed-few i (literal value) a = omega arith
allowed-few i (operation label children) a = a.0

module _ (s : List ℕ) (e : ℕ) (k : Known s e) where
  coded : Coded (row_of s e)
  coded = k.holds.coded e k.below

  is : node_at (decode s) e ≡ node_of (row_of s e)
  is = node-decode s e k.below

  at : (j : ℕ) → j < 11 → get_or (row_of s e) j 0 ≡ cell_of s e j
  at j l = at-row_of s e j l

  -- a column
  pub read-column : cell_of s e 0 ≡ 1 → read_of (node_at (decode s) e) ≡ Column (cell_of s e 1 / 65536) (cell_of s e 1 % 65536)
  unfolding read_of
  read-column q = rw (is, node-column (row_of s e) (at 0 (omega arith) ∙ q), at 1 (omega arith))

  -- a literal
  pub read-literal : cell_of s e 0 ≡ 2 → read_of (node_at (decode s) e) ≡ Literal (cell_of s e 1)
  unfolding read_of
  read-literal q = rw (is, node-literal (row_of s e) (at 0 (omega arith) ∙ q), at 1 (omega arith))

  -- how many children
  pub child-count : length (child_numbers (node_at (decode s) e)) ≡ cell_of s e 2
  unfolding children_of
  child-count = rw (is, children-are (row_of s e) coded, length-table (λ k. get_or (row_of s e) (3 + k) 0) (get_or (row_of s e) 2 0)) (at 2 (omega arith))

  -- an operation
  pub read-operation : (cell_of s e 0 ≡ 1 → ⊥) → (cell_of s e 0 ≡ 2 → ⊥) → read_of (node_at (decode s) e) ≡ Operation (cell_of s e 1) (cell_of s e 2)
  unfolding read_of children_of
  read-operation a b =
      rw (is, node-operation (row_of s e) (λ q. a (sym (at 0 (omega arith)) ∙ q)) (λ q. b (sym (at 0 (omega arith)) ∙ q)), at 1 (omega arith), length-table (λ k. get_or (row_of s e) (3 + k) 0) (get_or (row_of s e) 2 0), at 2 (omega arith))

  -- at most 8 children
  pub children-few : cell_of s e 2 ≤ 8
  children-few = rw child-count at (allowed-few e (node_at (decode s) e) (k.holds.sound.allowed e (rw (length-decode s) k.below)))

  -- child k
  pub child-at : (i : ℕ) → i < length (child_numbers (node_at (decode s) e)) → get_or (child_numbers (node_at (decode s) e)) i 0 ≡ cell_of s e (3 + i)
  unfolding children_of
  child-at i l =
      let l' : i < cell_of s e 2 = rw child-count at l in
      let t : i < get_or (row_of s e) 2 0 = rw (at 2 (omega arith)) l' in
      rw (is, children-are (row_of s e) coded, get_or-table (λ k. get_or (row_of s e) (3 + k) 0) (get_or (row_of s e) 2 0) i 0 t) (at (3 + i) (omega (arith, children-few)))
