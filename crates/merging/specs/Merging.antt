-- `new`: a list of classes that may be empty, say nothing or overlap becomes a group.
use Prim.Native.Nat.{ℕ, zero, suc, ◌+◌, ◌-◌, ◌<◌, ◌≤◌}
use Rattle.std.specs.Prelude.{◌&&◌, List, ◌≡◌, ltb, if◌then◌else◌, Option, None, Some}
use Rattle.std.proofs.Math.Path.{ap}
use Rattle.std.proofs.Common.{◌∙◌}
use native.Mathlib.Omega.{arith}
use Rattle.std.proofs.Math.ListN.{length}
use Rattle.classes.specs.Class.{Class}
use Rattle.classes.specs.Group.{class_at, removed, merged_at, length_removed}
use Rattle.classes.proofs.Places.{length-merged_at}
use Rattle.merging.specs.Extending.{missing, contains_any, is_trivial}

-- the class at a place goes if it says nothing: the last moves into its gap
unfoldable pub dropped_at : List Class → ℕ → List Class
dropped_at cs i = if is_trivial (class_at cs i) then removed cs i else cs

-- the classes before a place are looked at, back to front
unfoldable pub drop_below : ℕ → List Class → List Class
drop_below zero cs = cs
drop_below (suc i) cs = drop_below i (dropped_at cs i)

-- the kept list: without the classes that say nothing
unfoldable pub kept_classes : List Class → List Class
kept_classes cs = drop_below (length cs) cs

-- the last class after i, among the first n, that has an expression in common with class i
unfoldable pub meeting_below : List Class → ℕ → ℕ → Option ℕ
meeting_below cs i zero = None
meeting_below cs i (suc j) = if ltb i j && contains_any (class_at cs i) (class_at cs j) then Some j else meeting_below cs i j

-- the last class after i that has an expression in common with class i
unfoldable pub last_meeting : List Class → ℕ → Option ℕ
last_meeting cs i = meeting_below cs i (length cs)

-- class j extends class i and goes: the last moves into its gap
unfoldable pub bridged : List Class → ℕ → ℕ → List Class
bridged cs i j = merged_at (removed cs j) i (missing (class_at cs i) (class_at cs j))

-- and there is one fewer
pub length-bridged : (cs : List Class) (i j : ℕ) → length (bridged cs i j) ≡ length cs - 1
unfolding bridged
length-bridged cs i j = length-merged_at (removed cs j) i (missing (class_at cs i) (class_at cs j)) ∙ length_removed cs j

-- bridging from a place on, for at most n steps: class i takes in what overlaps with it, from the back, until nothing does
unfoldable pub bridge_from : ℕ → ℕ → List Class → List Class
bridge_from zero i cs = cs
bridge_from (suc n) i cs =
    elim (last_meeting cs i) [
      | None ↦ bridge_from n (i + 1) cs
      | Some j ↦ bridge_from n i (bridged cs i j)
    ]

-- bridging from a place to the end: each step passes one class or takes one in, so there are as many as classes from there on
unfoldable pub bridge_rest : ℕ → List Class → List Class
bridge_rest i cs = bridge_from (length cs - i) i cs

-- what it comes to: past the end, and by what overlaps with the class at the place
module _ (i : ℕ) (cs : List Class) where
  pub bridge_end : length cs ≤ i → bridge_rest i cs ≡ cs
  unfolding bridge_rest bridge_from
  bridge_end l = let e : length cs - i ≡ 0 = omega arith in ap (λ (n : ℕ). bridge_from n i cs) e

  pub bridge_next : i < length cs → last_meeting cs i ≡ None → bridge_rest i cs ≡ bridge_rest (i + 1) cs
  unfolding bridge_rest bridge_from
  bridge_next l q =
      let e : length cs - i ≡ suc (length cs - (i + 1)) = omega arith in
      ap (λ (n : ℕ). bridge_from n i cs) e ∙ rw (q, bridge_from)

  pub bridge_meets : (j : ℕ) → i < length cs → last_meeting cs i ≡ Some j → bridge_rest i cs ≡ bridge_rest i (bridged cs i j)
  unfolding bridge_rest bridge_from
  bridge_meets j l q =
      let e : length cs - i ≡ suc (length (bridged cs i j) - i) = omega (arith, length-bridged cs i j) in
      ap (λ (n : ℕ). bridge_from n i cs) e ∙ rw (q, bridge_from)

-- overlapping classes become one, front to back
unfoldable pub bridge_classes : List Class → List Class
bridge_classes cs = bridge_rest 0 cs

-- the group of a list of classes
unfoldable pub from_classes : List Class → List Class
from_classes cs = bridge_classes (kept_classes cs)
