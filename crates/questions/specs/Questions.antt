-- The two questions. Each is answered for every number of the arena, from the answers for the nodes before it.
use Rattle.std.specs.Prelude.{ℕ, Bool, false, ◌&&◌, ◌||◌, List, eqb, ltb, length, get_or, if◌then◌else◌, Option, None, Some}
use Rattle.laws.specs.Tests.{each}
use Rattle.arena.specs.Node.{Node, node_at, child_numbers, made}
use Rattle.classes.specs.declared.Constant.{Constant}
use Rattle.classes.specs.declared.Constant.TheVariants.{NoConstant as no_constant, Heterogeneous as heterogeneous, Unknown as unknown, Known as known}
use Rattle.classes.specs.Class.{Class, carried, is_constant}
use Rattle.classes.specs.Group.{class_at, class_of, same_class}

-- both have children, equally many, pairwise equal by the answers for lower numbers. Labels are not compared
unfoldable pub children_equal : List (ℕ → Bool) → List ℕ → List ℕ → Bool
children_equal answers js ks = ltb 0 (length js) && eqb (length js) (length ks) && each (λ k. get_or answers (get_or js k 0) (λ b. false) (get_or ks k 0)) (length js)

-- which numbers a node equals: itself, those that are in one class with it (`same`), those with pairwise equal children
unfoldable pub equals : List Node → (ℕ → ℕ → Bool) → List (ℕ → Bool) → ℕ → Node → ℕ → Bool
equals ns same answers a n b = eqb a b || same a b || children_equal answers (child_numbers n) (child_numbers (node_at ns b))

-- the equality question, for any relation that says who is in one class
unfoldable pub equal_by : List Node → (ℕ → ℕ → Bool) → ℕ → ℕ → Bool
equal_by ns same a b = get_or (made (λ answers i n. equals ns same answers i n) ns) a (λ b. false) b

-- the equality question of a group
abbrev pub exprs_equal : List Node → List Class → ℕ → ℕ → Bool
exprs_equal ns cs a b = equal_by ns (same_class cs) a b

-- the constant of the class of an expression, if it has one
unfoldable pub class_constant : List Class → ℕ → Constant
class_constant cs e = constant_of (class_of cs e)
  where
    constant_of : Option ℕ → Constant
    constant_of None = no_constant
    constant_of (Some i) = (class_at cs i).constant

-- it has children and all are constant
unfoldable pub children_constant : List Constant → List ℕ → Bool
children_constant answers ks = ltb 0 (length ks) && each (λ k. is_constant (get_or answers (get_or ks k 0) no_constant)) (length ks)

-- the first of two constants that is one
unfoldable pub or_else : Constant → Constant → Constant
or_else no_constant c = c
or_else heterogeneous c = heterogeneous
or_else unknown c = unknown
or_else (known v) c = known v

-- a literal is uniform; else its class's constant (`own`); else heterogeneous when it has children and all are constant; else none
unfoldable pub constant_of_node : (ℕ → Constant) → List Constant → ℕ → Node → Constant
constant_of_node own answers e n = or_else (carried n) (or_else (own e) (if children_constant answers (child_numbers n) then heterogeneous else no_constant))

-- the constant question, for any account of the classes' constants
unfoldable pub constant_by : List Node → (ℕ → Constant) → ℕ → Constant
constant_by ns own e = get_or (made (λ answers i n. constant_of_node own answers i n) ns) e no_constant

-- the constant question of a group
abbrev pub expr_constant : List Node → List Class → ℕ → Constant
expr_constant ns cs e = constant_by ns (class_constant cs) e
