-- The class functions of the text: extend, push, a class of expressions, contains_any, is_trivial.
use Rattle.std.specs.Prelude.{ℕ, Bool, false, not, ◌&&◌, ◌||◌, List, [], ◌∷◌, eqb, length, if◌then◌else◌}
use Rattle.arena.specs.Node.{Node}
use Rattle.classes.specs.declared.Constant.TheVariants.{NoConstant as no_constant}
use Rattle.classes.specs.Class.{Class, single, merged, is_constant}
use Rattle.classes.specs.Group.{among}

-- the second list without what stands in the first
unfoldable pub without : List ℕ → List ℕ → List ℕ
without ms [] = []
without ms (e ∷ es) = if among e ms then without ms es else e ∷ without ms es

-- what class d brings to class c: those of its members that c doesn't have, and its constant
unfoldable pub missing : Class → Class → Class
missing c d = record { members = without c.members d.members; constant = d.constant }

-- class c extended by class d: the missing members at the end, the constant where there is none or a heterogeneous one
unfoldable pub extended : Class → Class → Class
extended c d = merged c (missing c d)

-- an expression pushed to a class that may have it already: a literal gives its constant all the same
unfoldable pub pushed : List Node → Class → ℕ → Class
pushed ns c e = extended c (single ns e)

-- expressions pushed one after the other
unfoldable pub pushed_all : List Node → Class → List ℕ → Class
pushed_all ns c [] = c
pushed_all ns c (e ∷ es) = pushed_all ns (pushed ns c e) es

-- the class of these expressions: its constant is the first literal's, or none
unfoldable pub class_from : List Node → List ℕ → Class
class_from ns es = pushed_all ns (record { members = []; constant = no_constant }) es

-- some number of the first list stands in the second
unfoldable pub any_among : List ℕ → List ℕ → Bool
any_among [] ms = false
any_among (e ∷ es) ms = among e ms || any_among es ms

-- two classes have an expression in common
unfoldable pub contains_any : Class → Class → Bool
contains_any c d = any_among c.members d.members

-- a class says nothing: it is empty, or has one member and no constant
unfoldable pub is_trivial : Class → Bool
is_trivial c = eqb (length c.members) 0 || (eqb (length c.members) 1 && not (is_constant c.constant))
