-- The number of the check of two groups, a kind and pairs by its tests: which test gives which number.
use Rattle.std.specs.Prelude.{if◌then◌else◌}
use Prim.Native.Nat.{ℕ, ◌%◌, ◌≤◌}
use mathlib.Core.Bool.{Bool, true, false}
use mathlib.Core.List.{List}
use mathlib.Core.Path.{◌≡◌, sym, ap, ◌∙◌}
use native.Mathlib.Omega.{arith}
use borrow.Author.Tests.{ne_eqb, eq-eqb}
use lib.Dec.{ltb, leb}
use lib.ListN.{length, get_or}
use Rattle.laws.specs.Tests.{each}
use Rattle.arena.specs.Node.{Node}
use Rattle.arena.specs.Layout.{count, lawful, decode as nodes}
use Rattle.arena.proofs.Layouts.{length-decode}
use Rattle.classes.specs.Layout.{in_set, lawful_group, members_inside}
use Rattle.classes.specs.declared.Group.{Group}
use Rattle.group_checks.proofs.Checks.{limit-few, group-counts}
use Rattle.shifted_classes.specs.Lent.{paired, sides_below}
use Rattle.joins.specs.Calls.{join_number}
use Rattle.joins.specs.Inner.{sides_number}

-- the check of members and sides, with the node count as the code has it
module _ (cells : List ℕ) (left right : Group) (numbers : List ℕ) (n : ℕ) (e : n ≡ count cells) where
  inside-by : (g : Group) (t : Bool) → each (λ k. ltb (get_or g.members k 0) n) g.used ≡ t → members_inside (nodes cells) g ≡ t
  unfolding members_inside
  inside-by g t h = ap (λ (m : ℕ). each (λ k. ltb (get_or g.members k 0) m) g.used) (length-decode cells ∙ sym e) ∙ h

  below_by : (t : Bool) → each (λ k. ltb (get_or numbers k 0) n) (length numbers) ≡ t → sides_below (length (nodes cells)) numbers ≡ t
  unfolding sides_below
  below_by t h = ap (λ (m : ℕ). each (λ k. ltb (get_or numbers k 0) m) (length numbers)) (length-decode cells ∙ sym e) ∙ h

  pub sides-left : each (λ k. ltb (get_or left.members k 0) n) left.used ≡ false → 1 ≡ sides_number (nodes cells) left right numbers
  unfolding sides_number
  sides-left l = rw (inside-by left false l)

  pub sides-right : each (λ k. ltb (get_or left.members k 0) n) left.used ≡ true → each (λ k. ltb (get_or right.members k 0) n) right.used ≡ false → 1 ≡ sides_number (nodes cells) left right numbers
  unfolding sides_number
  sides-right l r = rw (inside-by left true l, inside-by right false r)

  pub sides-pairs : each (λ k. ltb (get_or left.members k 0) n) left.used ≡ true → each (λ k. ltb (get_or right.members k 0) n) right.used ≡ true
      → (t : Bool) → each (λ k. ltb (get_or numbers k 0) n) (length numbers) ≡ t → (if t then 0 else 1) ≡ sides_number (nodes cells) left right numbers
  unfolding sides_number
  sides-pairs l r t p = rw (inside-by left true l, inside-by right true r, below_by t p)

-- the check of two groups, a kind and pairs
module _ (cells : List ℕ) (left right : Group) (kind : ℕ) (numbers : List ℕ) where
  pub join-kind : leb kind 9 ≡ false → 12 ≡ join_number cells left right kind numbers
  unfolding join_number
  join-kind k = rw k

  pub join-left-set : leb kind 9 ≡ true → in_set left ≡ false → 12 ≡ join_number cells left right kind numbers
  unfolding join_number
  join-left-set k l = rw (k, l)

  pub join-right-set : leb kind 9 ≡ true → in_set left ≡ true → in_set right ≡ false → 12 ≡ join_number cells left right kind numbers
  unfolding join_number
  join-right-set k l r = rw (k, l, r)

  -- once the numbers are in their sets
  module _ (k : leb kind 9 ≡ true) (l : in_set left ≡ true) (r : in_set right ≡ true) where
    pub join-arena : lawful cells ≡ false → 11 ≡ join_number cells left right kind numbers
    unfolding join_number
    join-arena a = rw (k, l, r, a)

    pub join-left : lawful cells ≡ true → lawful_group (nodes cells) left ≡ false → 11 ≡ join_number cells left right kind numbers
    unfolding join_number
    join-left a f = rw (k, l, r, a, f)

    pub join-right : lawful cells ≡ true → lawful_group (nodes cells) left ≡ true → lawful_group (nodes cells) right ≡ false → 11 ≡ join_number cells left right kind numbers
    unfolding join_number
    join-right a f g = rw (k, l, r, a, f, g)

    pub join_odd : lawful cells ≡ true → lawful_group (nodes cells) left ≡ true → lawful_group (nodes cells) right ≡ true → (length numbers % 2 ≡ 0 → ⊥) → 11 ≡ join_number cells left right kind numbers
    unfolding join_number paired
    join_odd a f g p = rw (k, l, r, a, f, g, ne_eqb (length numbers % 2) 0 p)

    pub join-sides : lawful cells ≡ true → lawful_group (nodes cells) left ≡ true → lawful_group (nodes cells) right ≡ true → length numbers % 2 ≡ 0
        → (n : ℕ) → n ≡ sides_number (nodes cells) left right numbers → n ≡ join_number cells left right kind numbers
    unfolding join_number paired sides_number
    join-sides a f g p n e = e ∙ rw (k, l, r, a, f, g, eq-eqb (length numbers % 2) 0 p)

-- a group that passes has at most 256 members
pub used-few : (ns : List Node) (g : Group) → in_set g ≡ true → lawful_group ns g ≡ true → g.used ≤ 256
used-few ns g s l = omega (arith, limit-few g s, (group-counts ns g l).within)
