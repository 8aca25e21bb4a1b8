-- A class of expressions that are pushed one after the other: one more, and how many members it has at most.
use Prim.Native.Nat.{ℕ, ◌+◌, ◌≤◌}
use mathlib.Core.List.{List, [], ◌∷◌, ◌++◌}
use mathlib.Core.Path.{◌≡◌, refl}
use native.Mathlib.Omega.{arith}
use lib.ListN.{length, length-append}
use Rattle.arena.specs.Node.{Node}
use Rattle.classes.specs.Class.{Class, single, merged}
use Rattle.classes.proofs.Places.{nothing}
use Rattle.merging.specs.Extending.{without, missing, extended, pushed, pushed_all, class_from}
use Rattle.merging.proofs.Overlaps.{length_without}

-- one more is pushed at the end
pub pushed_more : (ns : List Node) (c : Class) (es : List ℕ) (e : ℕ) → pushed_all ns c (es ++ (e ∷ [])) ≡ pushed ns (pushed_all ns c es) e
unfolding pushed_all
pushed_more ns c [] e = refl
pushed_more ns c (x ∷ es) e = pushed_more ns (pushed ns c x) es e

-- the class of one more expression
pub from_more : (ns : List Node) (es : List ℕ) (e : ℕ) → class_from ns (es ++ (e ∷ [])) ≡ pushed ns (class_from ns es) e
unfolding class_from
from_more ns es e = pushed_more ns nothing es e

-- no expression
pub from-none : (ns : List Node) → class_from ns [] ≡ nothing
unfolding class_from pushed_all
from-none ns = refl

-- each expression brings at most one member
pushed-few : (ns : List Node) (c : Class) (es : List ℕ) → length (pushed_all ns c es).members ≤ length c.members + length es
unfolding pushed_all pushed extended missing merged single
pushed-few ns c [] = omega arith
pushed-few ns c (e ∷ es) =
    omega (arith, pushed-few ns (pushed ns c e) es, length-append c.members (without c.members (e ∷ [])), length_without c.members (e ∷ []))

-- a class of expressions has no more members than there are
pub class-few : (ns : List Node) (es : List ℕ) → length (class_from ns es).members ≤ length es
unfolding class_from
class-few ns es = omega (arith, pushed-few ns nothing es)
