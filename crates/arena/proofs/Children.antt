-- Numbers below a node's: its children, and a walk's way down.
use Prim.Native.Nat.{ℕ, ◌<◌, ◌≤◌}
use mathlib.Core.List.{List}
use native.Mathlib.Omega.{arith}
use lib.ListN.{length, get_or}
use Rattle.arena.specs.Node.{Node, column, literal, operation, node_at, child_numbers}
use Rattle.arena.specs.Arena.{Allowed}
use Rattle.arena.specs.Layout.{decode}
use Rattle.arena.specs.Inner.{Known}
use Rattle.arena.proofs.Layouts.{length-decode}

-- the children of an allowed node are lower
allowed-child : (i : ℕ) (n : Node) → Allowed i n → (k : ℕ) → k < length (child_numbers n) → get_or (child_numbers n) k 0 < i
unfolding Allowed child_numbers
allowed-child i (column name index) a k l = absurd (omega arith)
allowed-child i (literal value) a k l = absurd (omega arith)
allowed-child i (operation label children) a k l = a.1 k l

module _ (s : List ℕ) (e : ℕ) (k : Known s e) where
  -- its number is one of the arena's
  pub in_arena_lem : e < length (decode s)
  in_arena_lem = omega (arith, length-decode s, k.below)

  -- each child is lower than its parent
  pub child-below : (i : ℕ) → i < length (child_numbers (node_at (decode s) e)) → get_or (child_numbers (node_at (decode s) e)) i 0 < e
  child-below = allowed-child e (node_at (decode s) e) (k.holds.sound.allowed e in_arena_lem)

  -- and so it is a place of a table
  pub child-place : (i : ℕ) → i < length (child_numbers (node_at (decode s) e)) → get_or (child_numbers (node_at (decode s) e)) i 0 < 1024
  child-place i l = omega (arith, child-below i l, k.below, k.holds.few)

-- a lower number is a node's too
pub known-lower : (s : List ℕ) (e i : ℕ) → Known s e → i ≤ e → Known s i
known-lower s e i k l = record { holds = k.holds; below = omega (arith, k.below) }
