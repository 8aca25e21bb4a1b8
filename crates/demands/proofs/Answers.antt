-- Facts about "in one class" that hold of every list of classes, and the ways a call can come out.
use Rattle.std.specs.Prelude.{if◌then◌else◌, Option, None, Some}
use Prim.Native.Nat.{ℕ, ◌<◌}
use mathlib.Core.Bool.{Bool, true, false, ◌&&◌}
use mathlib.Core.List.{List, []}
use mathlib.Core.Logic.{◌⊎◌, inl, inr}
use mathlib.Core.Path.{◌≡◌, refl, sym}
use native.Mathlib.Omega.{arith}
use borrow.Author.Tests.{eqb-true, eq-eqb, ltb-true}
use lib.Dec.{eqb, ltb}
use lib.ListN.{length}
use Rattle.laws.specs.Tests.{first, first_from}
use Rattle.laws.proofs.Booleans.{and_left, and_right}
use Rattle.arena.specs.Node.{Node}
use Rattle.classes.specs.declared.Constant.{Constant}
use Rattle.classes.specs.Class.{Class}
use Rattle.classes.specs.Group.{class_of, equal_condition, with_constant, same_class}
use Rattle.classes.specs.Steps.{Outcome, refused, fits, judged}
use Rattle.conditions.specs.Steps.{add_equal, add_constant}
use Rattle.demands.proofs.Step.{With}

-- two expressions have one place
pub record OnePlace (cs : List Class) (x y : ℕ) : Type 0 where
  pub place : ℕ
  pub left : class_of cs x ≡ Some place
  pub right : class_of cs y ≡ Some place

-- in one class is to have one place, and the other way round
pub same_place_lem : (cs : List Class) (x y : ℕ) → same_class cs x y ≡ true → OnePlace cs x y
unfolding same_class
same_place_lem cs x y h = go (class_of cs x) (class_of cs y) refl refl
  where
    go : (o p : Option ℕ) → class_of cs x ≡ o → class_of cs y ≡ p → OnePlace cs x y
    go None None e f = absurd (let z : ◌≡◌ {A = ℕ} 0 1 = cc (rw (e, f) at h) in omega arith)
    go None (Some j) e f = absurd (let z : ◌≡◌ {A = ℕ} 0 1 = cc (rw (e, f) at h) in omega arith)
    go (Some i) None e f = absurd (let z : ◌≡◌ {A = ℕ} 0 1 = cc (rw (e, f) at h) in omega arith)
    go (Some i) (Some j) e f = let q : i ≡ j = eqb-true i j (rw (e, f) at h) in record { place = i; left = e; right = rw q f }

pub place_same : (cs : List Class) (x y : ℕ) → OnePlace cs x y → same_class cs x y ≡ true
unfolding same_class
place_same cs x y p = rw (p.left, p.right) (eq-eqb p.place p.place refl)

pub same_sym : (cs : List Class) (x y : ℕ) → same_class cs x y ≡ true → same_class cs y x ≡ true
same_sym cs x y h = let p = same_place_lem cs x y h in place_same cs y x (record { place = p.place; left = p.right; right = p.left })

pub same_trans : (cs : List Class) (x y z : ℕ) → same_class cs x y ≡ true → same_class cs y z ≡ true → same_class cs x z ≡ true
same_trans cs x y z h k =
    let p = same_place_lem cs x y h in
    let q = same_place_lem cs y z k in
    let e : p.place ≡ q.place = cc in
    place_same cs x z (record { place = p.place; left = p.left; right = cc })

-- no class holds anything
pub same_none : (x y : ℕ) → same_class [] x y ≡ false
unfolding same_class class_of first first_from
same_none x y = refl

-- the same expression or one of its class: an equivalence
pub with_sym : (cs : List Class) (x y : ℕ) → With cs x y → With cs y x
with_sym cs x y (inl e) = inl (sym e)
with_sym cs x y (inr h) = inr (same_sym cs x y h)

pub with_trans : (cs : List Class) (x y z : ℕ) → With cs x y → With cs y z → With cs x z
with_trans cs x y z (inl e) w = rw e w
with_trans cs x y z (inr h) (inl f) = inr (rw f at h)
with_trans cs x y z (inr h) (inr k) = inr (same_trans cs x y z h k)

-- what an equal condition comes to: the classes of the step and the number 0, or the old classes and another number
pub add_equal_cases : (limit : ℕ) (ns : List Node) (a b : ℕ) (cs : List Class)
    → (((add_equal limit ns a b cs).number ≡ 0) × ((add_equal limit ns a b cs).classes ≡ (equal_condition ns cs a b).1))
    ⊎ ((eqb (add_equal limit ns a b cs).number 0 ≡ false) × ((add_equal limit ns a b cs).classes ≡ cs))
unfolding add_equal judged refused
add_equal_cases limit ns a b cs = go (ltb a (length ns) && ltb b (length ns)) (fits limit (equal_condition ns cs a b).1)
  where
    e : Bool × List Class
    e = equal_condition ns cs a b

    out : Bool → Bool → Outcome
    out p q = if p then (if q then record { number = 0; answer = e.0; classes = e.1 } else refused 4 cs) else refused 1 cs

    go : (p q : Bool) → (((out p q).number ≡ 0) × ((out p q).classes ≡ e.1)) ⊎ ((eqb (out p q).number 0 ≡ false) × ((out p q).classes ≡ cs))
    go true true = inl (refl, refl)
    go true false = inr (refl, refl)
    go false q = inr (refl, refl)

-- what holds of the classes before a call, and of its step's where they fit, holds of the classes after it
module _ (P : List Class → Type 0) (limit : ℕ) (cs : List Class) (old : P cs) where
  pub judged-holds : (o : Bool × List Class) → (fits limit o.1 ≡ true → P o.1) → P (judged limit cs o).classes
  unfolding judged refused
  judged-holds o new = go (fits limit o.1) refl
    where
      go : (t : Bool) → fits limit o.1 ≡ t → P (if t then record { number = 0; answer = o.0; classes = o.1 } else refused 4 cs).classes
      go true q = new q
      go false q = old

  pub add_equal-holds : (ns : List Node) (a b : ℕ)
      → (a < length ns → b < length ns → fits limit (equal_condition ns cs a b).1 ≡ true → P (equal_condition ns cs a b).1) → P (add_equal limit ns a b cs).classes
  unfolding add_equal refused
  add_equal-holds ns a b new = go (ltb a (length ns) && ltb b (length ns)) refl
    where
      go : (t : Bool) → (ltb a (length ns) && ltb b (length ns)) ≡ t → P (if t then judged limit cs (equal_condition ns cs a b) else refused 1 cs).classes
      go true q =
          judged-holds (equal_condition ns cs a b)
          (new (ltb-true a (length ns) (and_left (ltb a (length ns)) (ltb b (length ns)) q)) (ltb-true b (length ns) (and_right (ltb a (length ns)) (ltb b (length ns)) q)))
      go false q = old

  pub add_constant-holds : (two : Bool) (ns : List Node) (e : ℕ) (said : Constant)
      → (e < length ns → fits limit (with_constant two ns cs e said) ≡ true → P (with_constant two ns cs e said)) → P (add_constant two limit ns e said cs).classes
  unfolding add_constant refused
  add_constant-holds two ns e said new = go (ltb e (length ns)) refl
    where
      go : (t : Bool) → ltb e (length ns) ≡ t → P (if t then judged limit cs (false, with_constant two ns cs e said) else refused 1 cs).classes
      go true q = judged-holds (false, with_constant two ns cs e said) (new (ltb-true e (length ns) q))
      go false q = old

-- a step that is refused keeps the classes
pub judged-keeps : (l : ℕ) (cs : List Class) (o : Bool × List Class) → ((judged l cs o).number ≡ 0 → ⊥) → (judged l cs o).classes ≡ cs
unfolding judged refused
judged-keeps l cs o = go (fits l o.1)
  where
    go : (b : Bool) → let r : Outcome = (if b then record { number = 0; answer = o.0; classes = o.1 } else refused 4 cs) in (r.number ≡ 0 → ⊥) → r.classes ≡ cs
    go true z = absurd (z refl)
    go false z = refl

-- an equal condition that is refused does too
pub add_equal-keeps : (l : ℕ) (ns : List Node) (a b : ℕ) (cs : List Class) → ((add_equal l ns a b cs).number ≡ 0 → ⊥) → (add_equal l ns a b cs).classes ≡ cs
unfolding add_equal refused
add_equal-keeps l ns a b cs = go (ltb a (length ns) && ltb b (length ns))
  where
    go : (t : Bool) → let r : Outcome = (if t then judged l cs (equal_condition ns cs a b) else refused 1 cs) in (r.number ≡ 0 → ⊥) → r.classes ≡ cs
    go true z = judged-keeps l cs (equal_condition ns cs a b) z
    go false z = refl

-- and a constant that is
pub add_constant-keeps : (two : Bool) (l : ℕ) (ns : List Node) (e : ℕ) (said : Constant) (cs : List Class) → ((add_constant two l ns e said cs).number ≡ 0 → ⊥) → (add_constant two l ns e said cs).classes ≡ cs
unfolding add_constant refused
add_constant-keeps two l ns e said cs = go (ltb e (length ns))
  where
    go : (t : Bool) → let r : Outcome = (if t then judged l cs (false, with_constant two ns cs e said) else refused 1 cs) in (r.number ≡ 0 → ⊥) → r.classes ≡ cs
    go true z = judged-keeps l cs (false, with_constant two ns cs e said) z
    go false z = refl
