-- A call that changes a group, by its tests.
use Prim.Native.Nat.{ℕ, ◌<◌, ◌≤◌, ◌+◌}
use mathlib.Core.Bool.{Bool, true, false, and-false, ◌||◌, ◌&&◌}
use mathlib.Core.List.{List}
use mathlib.Core.Path.{◌≡◌, refl}
use native.Mathlib.Omega.{arith}
use borrow.Author.Tests.{eq-eqb, ne_eqb, lt-ltb, le-ltb, le-leb, leb-true, eqb-true, eqb-false}
use lib.Dec.{leb, eqb}
use lib.ListN.{length}
use Rattle.laws.proofs.Booleans.{and_left, and_right}
use Rattle.arena.specs.declared.Refusal.TheVariants.{BadNumber}
use Rattle.arena.specs.Node.{Node}
use Rattle.classes.specs.declared.Constant.{Constant}
use Rattle.classes.specs.Class.{Class}
use Rattle.classes.specs.Group.{equal_condition, with_constant}
use Rattle.classes.specs.Steps.{refused, judged}
use Rattle.classes.specs.Layout.{constant_from, known_flavour}
use Rattle.classes.specs.Calls.{on_group}
use Rattle.classes.specs.declared.Group.{Group}
use Rattle.classes.proofs.Judging.{handed_back}
use Rattle.conditions.specs.Steps.{add_equal, add_constant}
use Rattle.conditions.specs.Calls.{sayable, on_constant}

-- an equal condition, by its tests
module _ (limit : ℕ) (ns : List Node) (cs : List Class) (a b : ℕ) where
  pub add_left : length ns ≤ a → add_equal limit ns a b cs ≡ refused 1 cs
  unfolding add_equal
  add_left l = rw (le-ltb _ _ l)

  pub add_right : length ns ≤ b → add_equal limit ns a b cs ≡ refused 1 cs
  unfolding add_equal
  add_right l = rw (le-ltb _ _ l, and-false)

  pub add-both : a < length ns → b < length ns → add_equal limit ns a b cs ≡ judged limit cs (equal_condition ns cs a b)
  unfolding add_equal
  add-both l m = rw (lt-ltb _ _ l, lt-ltb _ _ m)

-- a constant, by its test
module _ (limit : ℕ) (ns : List Node) (cs : List Class) (e : ℕ) (said : Constant) where
  pub say-unknown : length ns ≤ e → add_constant true limit ns e said cs ≡ refused 1 cs
  unfolding add_constant
  say-unknown l = rw (le-ltb _ _ l)

  pub say-known : e < length ns → add_constant true limit ns e said cs ≡ judged limit cs (false, with_constant true ns cs e said)
  unfolding add_constant
  say-known l = rw (lt-ltb _ _ l)

-- a flavour that can be said is small
pub said-small : (flavour value : ℕ) → sayable flavour value ≡ true → flavour ≤ 2
unfolding sayable
said-small flavour value s = leb-true flavour 2 (and_left (leb flavour 2) (eqb flavour 2 || eqb value 0) s)

-- a constant that can be said is one of the flavours of a group
pub said-flavour : (flavour value : ℕ) → sayable flavour value ≡ true → known_flavour (flavour + 1) value ≡ true
unfolding sayable known_flavour
said-flavour flavour value s = go (eqb flavour 2) refl
  where
    small : flavour ≤ 2
    small = said-small flavour value s

    rest : (eqb flavour 2 || eqb value 0) ≡ true
    rest = and_right (leb flavour 2) (eqb flavour 2 || eqb value 0) s

    go : (b : Bool) → eqb flavour 2 ≡ b → (leb (flavour + 1) 3 && (eqb (flavour + 1) 3 || eqb value 0)) ≡ true
    go true e = let q : flavour + 1 ≡ 3 = omega (arith, eqb-true flavour 2 e) in rw (le-leb (flavour + 1) 3 (omega (arith, small)), eq-eqb (flavour + 1) 3 q)
    go false e =
        let q : flavour + 1 ≡ 3 → ⊥ = λ z. eqb-false flavour 2 e (omega arith) in
        rw (le-leb (flavour + 1) 3 (omega (arith, small)), ne_eqb (flavour + 1) 3 q) (rw e at rest)

-- a call with a constant, by whether it can be said
module _ (cells : List ℕ) (g : Group) (e flavour value : ℕ) where
  pub constant-said : sayable flavour value ≡ true → on_constant e flavour value cells g ≡ on_group (λ ns cs. add_constant true g.limit ns e (constant_from (flavour + 1) value) cs) cells g
  unfolding on_constant
  constant-said s = rw s

  pub constant_unsaid : sayable flavour value ≡ false → on_constant e flavour value cells g ≡ handed_back BadNumber g
  unfolding on_constant
  constant_unsaid s = rw s
