-- Constants as a group has them: a flavour and a value.
use Prim.Native.Nat.{ℕ, zero, suc, ◌<◌, ◌≤◌}
use mathlib.Core.Bool.{true, false}
use mathlib.Core.Path.{◌≡◌, refl, sym}
use native.Mathlib.Omega.{arith}
use borrow.Author.Tests.{eqb-true, leb-true}
use lib.Dec.{leb}
use Rattle.laws.proofs.Booleans.{true_not_false, and_left}
use Rattle.classes.specs.Class.{Constant, no_constant, heterogeneous, unknown, known, is_uniform}
use Rattle.classes.specs.Layout.{flavour_of, value_of, constant_from, known_flavour}

-- a constant is what its flavour and its value say
pub constant-from : (c : Constant) → constant_from (flavour_of c) (value_of c) ≡ c
unfolding constant_from flavour_of value_of
constant-from no_constant = refl
constant-from heterogeneous = refl
constant-from unknown = refl
constant-from (known v) = refl

-- these are known
pub flavour-known : (c : Constant) → known_flavour (flavour_of c) (value_of c) ≡ true
unfolding known_flavour flavour_of value_of
flavour-known no_constant = refl
flavour-known heterogeneous = refl
flavour-known unknown = refl
flavour-known (known v) = refl

-- a flavour and a value that pass the test are their constant's
pub flavour-back : (f v : ℕ) → known_flavour f v ≡ true → flavour_of (constant_from f v) ≡ f
unfolding known_flavour flavour_of constant_from
flavour-back zero v h = refl
flavour-back (suc zero) v h = refl
flavour-back (suc (suc zero)) v h = refl
flavour-back (suc (suc (suc zero))) v h = refl
flavour-back (suc (suc (suc (suc f)))) v h = absurd (omega (arith, leb-true (suc (suc (suc (suc f)))) 3 (and_left (leb (suc (suc (suc (suc f)))) 3) _ h)))

pub value-back : (f v : ℕ) → known_flavour f v ≡ true → value_of (constant_from f v) ≡ v
unfolding known_flavour value_of constant_from
value-back zero v h = sym (eqb-true v 0 h)
value-back (suc zero) v h = sym (eqb-true v 0 h)
value-back (suc (suc zero)) v h = sym (eqb-true v 0 h)
value-back (suc (suc (suc zero))) v h = refl
value-back (suc (suc (suc (suc f)))) v h = absurd (omega (arith, leb-true (suc (suc (suc (suc f)))) 3 (and_left (leb (suc (suc (suc (suc f)))) 3) _ h)))

-- a uniform constant by its flavour
pub uniform-high : (c : Constant) → 2 ≤ flavour_of c → is_uniform c ≡ true
unfolding flavour_of is_uniform
uniform-high no_constant l = absurd (omega arith)
uniform-high heterogeneous l = absurd (omega arith)
uniform-high unknown l = refl
uniform-high (known v) l = refl

pub uniform-low : (c : Constant) → flavour_of c < 2 → is_uniform c ≡ false
unfolding flavour_of is_uniform
uniform-low no_constant l = refl
uniform-low heterogeneous l = refl
uniform-low unknown l = absurd (omega arith)
uniform-low (known v) l = absurd (omega arith)

-- and its flavour where it is uniform
pub uniform-flavour : (c : Constant) → is_uniform c ≡ true → 2 ≤ flavour_of c
unfolding is_uniform flavour_of
uniform-flavour no_constant h = absurd (true_not_false h refl)
uniform-flavour heterogeneous h = absurd (true_not_false h refl)
uniform-flavour unknown h = omega arith
uniform-flavour (known v) h = omega arith

-- a known flavour of at least 2 says a uniform constant
pub flavour-uniform : (f v : ℕ) → known_flavour f v ≡ true → 2 ≤ f → is_uniform (constant_from f v) ≡ true
flavour-uniform f v h l = uniform-high (constant_from f v) (omega (arith, flavour-back f v h))
