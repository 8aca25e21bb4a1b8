-- Projecting an expression: a mapped source becomes its first target; else a literal stays; else the first mapping whose source's class holds it gives its first target; else all children must project; a childless node does not.
use Rattle.std.specs.Prelude.{ℕ, List, [], ◌∷◌, map, eqb, get_or, if◌then◌else◌, Option, None, Some}
use Rattle.arena.specs.Node.{Node, column, literal, operation, node_at, made}
use Rattle.arena.specs.Expression.{Expression, Expressions, op, ∅, ◌▹◌, expression_at}
use Rattle.arena.specs.Arena.{Placed, placed, and_then, add_expression}
use Rattle.classes.specs.Class.{Class}
use Rattle.classes.specs.Group.{same_class}
use Rattle.classes.specs.Layout.{is_literal}
use Rattle.mappings.specs.Mapping.{Mapped, target_for}

-- the first of two findings that is one
unfoldable pub or_else : Option ℕ → Option ℕ → Option ℕ
or_else None b = b
or_else (Some i) b = Some i

-- what expression e becomes as a whole: a mapped source its first target; else a literal stays; else the first mapping whose source's class holds it gives its first target
unfoldable pub becomes : List Node → List Class → List Mapped → ℕ → Option ℕ
becomes ns cs ps e =
    or_else (target_for (λ s. eqb s e) ps)
    (or_else (if is_literal (node_at ns e) then Some e else None)
    (target_for (λ s. same_class cs s e) ps))

-- a projection and those of the expressions after it, if there are both
unfoldable pub both_project : Option Expression → Option Expressions → Option Expressions
both_project None xs = None
both_project (Some x) None = None
both_project (Some x) (Some xs) = Some (x ▹ xs)

-- the projections of children, by those of all nodes before, if each has one
unfoldable pub all_project : List (Option Expression) → List ℕ → Option Expressions
all_project xs [] = Some ∅
all_project xs (k ∷ ks) = both_project (get_or xs k None) (all_project xs ks)

-- an operation over the projections of its children
unfoldable pub operation_of : ℕ → Option Expressions → Option Expression
operation_of label None = None
operation_of label (Some xs) = Some (op label xs)

-- all children must project; a childless node does not
unfoldable pub by_children : List (Option Expression) → Node → Option Expression
by_children xs (column name index) = None
by_children xs (literal value) = None
by_children xs (operation label []) = None
by_children xs (operation label (k ∷ ks)) = operation_of label (all_project xs (k ∷ ks))

-- what an expression becomes as a whole, or what its children give
unfoldable pub whole_or : List Node → Option Expression → Option ℕ → Option Expression
whole_or ns x None = x
whole_or ns x (Some i) = Some (expression_at ns i)

-- the projections of all expressions of an arena, by number, for any account of what becomes of a whole expression
unfoldable pub projections_by : List Node → (ℕ → Option ℕ) → List (Option Expression)
projections_by ns to = made (λ xs e n. whole_or ns (by_children xs n) (to e)) ns

-- the projections by a group and a mapping
abbrev pub projections : List Node → List Class → List Mapped → List (Option Expression)
projections ns cs ps = projections_by ns (becomes ns cs ps)

-- the projection of the expression with a number, or that there is none
abbrev pub projection : List Node → List Class → List Mapped → ℕ → Option Expression
projection ns cs ps e = get_or (projections ns cs ps) e None

-- the missing nodes of projections are added, one projection after the other; where there is none, nothing is
unfoldable pub add_projections : List (Option Expression) → List Node → Placed (List (Option ℕ))
add_projections [] ns = placed [] ns
add_projections (None ∷ xs) ns = and_then (add_projections xs ns) (λ ks ms. placed (None ∷ ks) ms)
add_projections (Some x ∷ xs) ns = and_then (add_expression x ns) (λ k ms. and_then (add_projections xs ms) (λ ks os. placed (Some k ∷ ks) os))

-- the projections of expressions with numbers
unfoldable pub project_all : List Node → List Class → List Mapped → List ℕ → Placed (List (Option ℕ))
project_all ns cs ps es = add_projections (map (projection ns cs ps) es) ns
