-- A group is a list of classes. What document 01 says of it, in its order: the class of an expression, an equal condition, a constant, a gap, clearing.
use Prim.Native.Nat.{ℕ, zero, suc, ◌+◌, ◌-◌, ◌<◌, ◌≤◌, min, max}
use Rattle.std.specs.Prelude.{Bool, true, false, ◌||◌, ◌≡◌, eqb, get_or, take, if◌then◌else◌, Option, None, Some}
use mathlib.Core.List.{List, [], ◌∷◌, ◌++◌}
use Rattle.std.proofs.Math.Path.{ap}
use Rattle.std.proofs.Common.{◌∙◌, length-take-le}
use native.Mathlib.Omega.{arith}
use Rattle.std.proofs.Math.ListN.{length, set, length-set}
use Rattle.laws.specs.Tests.{first}
use Rattle.arena.specs.Node.{Node, node_at}
use Rattle.classes.specs.Class.{Constant, no_constant, heterogeneous, unknown, known, Class, is_uniform, taken, carried, single, merged, same_constant}

-- an expression is among these
unfoldable pub among : ℕ → List ℕ → Bool
among e [] = false
among e (m ∷ ms) = eqb m e || among e ms

-- the class at a place; past the end, which no call asks for, an empty one
abbrev pub class_at : List Class → ℕ → Class
class_at cs i = get_or cs i (record { members = []; constant = no_constant })

-- the place of the class that holds an expression
unfoldable pub class_of : List Class → ℕ → Option ℕ
class_of cs e = first (λ i. among e (class_at cs i).members) (length cs)

-- two expressions are in one class
unfoldable pub same_class : List Class → ℕ → ℕ → Bool
same_class cs a b = same_place (class_of cs a) (class_of cs b)
  where
    same_place : Option ℕ → Option ℕ → Bool
    same_place None None = false
    same_place None (Some j) = false
    same_place (Some i) None = false
    same_place (Some i) (Some j) = eqb i j

-- one class of a list holds both, also of a list whose classes overlap
pub record Together (cs : List Class) (x y : ℕ) : Type 0 where
  pub place : ℕ
  pub below : place < length cs
  pub left : among x (class_at cs place).members ≡ true
  pub right : among y (class_at cs place).members ≡ true

-- how many members all classes have
unfoldable pub total : List Class → ℕ
total [] = 0
total (c ∷ cs) = length c.members + total cs

-- where a class goes, the last moves into its gap
unfoldable pub removed : List Class → ℕ → List Class
removed cs i = set (take (length cs - 1) cs) i (class_at cs (length cs - 1))

-- and there is one fewer
pub length_removed : (cs : List Class) (i : ℕ) → length (removed cs i) ≡ length cs - 1
unfolding removed
length_removed cs i =
    length-set (take (length cs - 1) cs) i (class_at cs (length cs - 1)) ∙ length-take-le (length cs - 1) cs (omega arith)

-- a class is merged into the one at a place
unfoldable pub merged_at : List Class → ℕ → Class → List Class
merged_at cs i d = set cs i (merged (class_at cs i) d)

-- the class of two expressions, or of one that is named twice
unfoldable pub pair : List Node → ℕ → ℕ → Class
pair ns a b = if eqb a b then single ns a else merged (single ns a) (single ns b)

-- two classes: the higher joins the end of the lower
unfoldable pub joined : List Class → ℕ → ℕ → List Class
joined cs i j = merged_at (removed cs (max i j)) (min i j) (class_at cs (max i j))

-- an equal condition, where the classes of both are known: whether a new class was made, and the classes afterwards
unfoldable pub equated : List Node → List Class → ℕ → ℕ → Option ℕ → Option ℕ → Bool × List Class
equated ns cs a b None None = (true, cs ++ (pair ns a b ∷ []))
equated ns cs a b None (Some j) = (false, merged_at cs j (single ns a))
equated ns cs a b (Some i) None = (false, merged_at cs i (single ns b))
equated ns cs a b (Some i) (Some j) = (false, if eqb i j then cs else joined cs i j)

-- an equal condition of two expressions, by the classes that they are in
unfoldable pub equal_condition : List Node → List Class → ℕ → ℕ → Bool × List Class
equal_condition ns cs a b = equated ns cs a b (class_of cs a) (class_of cs b)

-- the constant that a call gives: a literal's own value, else what was said
unfoldable pub given : List Node → ℕ → Constant → Constant
given ns e said = taken (carried (node_at ns e)) said

-- a constant over the one that a class has
unfoldable pub constant_at : List Class → ℕ → Constant → List Class
constant_at cs i c = set cs i (record { members = (class_at cs i).members; constant = taken (class_at cs i).constant c })

-- the first class with an equal constant, for a uniform one
unfoldable pub class_like : Bool → List Class → Constant → Option ℕ
class_like two cs c = if is_uniform c then first (λ i. same_constant two (class_at cs i).constant c) (length cs) else None

-- a nonmember: to the class that was found, else a new class
unfoldable pub constant_for : List Class → ℕ → Constant → Option ℕ → List Class
constant_for cs e c (Some i) = merged_at cs i (record { members = e ∷ []; constant = no_constant })
constant_for cs e c None = cs ++ (record { members = e ∷ []; constant = c } ∷ [])

-- a constant, where the expression's class is known; `two` says whether two unknown uniforms count as equal
unfoldable pub constant_in : Bool → List Class → ℕ → Constant → Option ℕ → List Class
constant_in two cs e c (Some i) = constant_at cs i c
constant_in two cs e c None = constant_for cs e c (class_like two cs c)

-- a constant that is said of an expression, by the class that it is in
unfoldable pub with_constant : Bool → List Node → List Class → ℕ → Constant → List Class
with_constant two ns cs e said = constant_in two cs e (given ns e said) (class_of cs e)

-- one step of clearing at a place: nothing, the heterogeneous constant dropped, or the class of one member dropped
pub data Cleared : Type 0 where
  kept : Cleared
  dropped : Cleared
  gone : Cleared

-- which of them a class comes to: only a heterogeneous constant is dropped
unfoldable pub cleared_by : Class → Cleared
cleared_by c = cleared_of c.constant
  where
    cleared_of : Constant → Cleared
    cleared_of no_constant = kept
    cleared_of heterogeneous = if eqb (length c.members) 1 then gone else dropped
    cleared_of unknown = kept
    cleared_of (known v) = kept

-- clearing from a place on, for at most n steps: whether anything changed, and the classes afterwards
unfoldable pub clear_from : ℕ → ℕ → Bool → List Class → Bool × List Class
clear_from zero i changed cs = (changed, cs)
clear_from (suc n) i changed cs =
    elim (cleared_by (class_at cs i)) [
      | kept ↦ clear_from n (i + 1) changed cs
      | dropped ↦ clear_from n (i + 1) true (set cs i (record { members = (class_at cs i).members; constant = no_constant }))
      | gone ↦ clear_from n i true (removed cs i)
    ]

-- clearing from a place to the end: each step passes one class or drops one, so there are as many as classes from there on
unfoldable pub clear_rest : ℕ → Bool → List Class → Bool × List Class
clear_rest i changed cs = clear_from (length cs - i) i changed cs

-- what it comes to: past the end, and by the class at the place
module _ (i : ℕ) (changed : Bool) (cs : List Class) where
  pub clear_end : length cs ≤ i → clear_rest i changed cs ≡ (changed, cs)
  unfolding clear_rest clear_from
  clear_end l = let e : length cs - i ≡ 0 = omega arith in ap (λ (n : ℕ). clear_from n i changed cs) e

  pub clear_kept : i < length cs → cleared_by (class_at cs i) ≡ kept → clear_rest i changed cs ≡ clear_rest (i + 1) changed cs
  unfolding clear_rest clear_from
  clear_kept l q =
      let e : length cs - i ≡ suc (length cs - (i + 1)) = omega arith in
      ap (λ (n : ℕ). clear_from n i changed cs) e ∙ rw (q, clear_from)

  pub clear-dropped : i < length cs → cleared_by (class_at cs i) ≡ dropped → clear_rest i changed cs ≡ clear_rest (i + 1) true (set cs i (record { members = (class_at cs i).members; constant = no_constant }))
  unfolding clear_rest clear_from
  clear-dropped l q =
      let ds : List Class = set cs i (record { members = (class_at cs i).members; constant = no_constant }) in
      let e : length cs - i ≡ suc (length ds - (i + 1)) = omega (arith, length-set cs i (record { members = (class_at cs i).members; constant = no_constant })) in
      ap (λ (n : ℕ). clear_from n i changed cs) e ∙ rw (q, clear_from)

  pub clear-gone : i < length cs → cleared_by (class_at cs i) ≡ gone → clear_rest i changed cs ≡ clear_rest i true (removed cs i)
  unfolding clear_rest clear_from
  clear-gone l q =
      let e : length cs - i ≡ suc (length (removed cs i) - i) = omega (arith, length_removed cs i) in
      ap (λ (n : ℕ). clear_from n i changed cs) e ∙ rw (q, clear_from)

-- front to back, over all classes
unfoldable pub cleared : List Class → Bool × List Class
cleared cs = clear_rest 0 false cs
