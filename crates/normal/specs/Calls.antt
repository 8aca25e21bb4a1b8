-- What the public call answers and what it leaves in the arena, over the lent cells and the struct, in document 01's order of refusals.
-- A refusal is a case that hands back what came in.
use Rattle.arena.specs.declared.Refusal.TheVariants.{UnknownExpression}
use Rattle.arena.specs.Refusals.{refusal, Added}
use Rattle.std.specs.Prelude.{ℕ, List, eqb, ltb, length, if◌then◌else◌, Err}
use Rattle.arena.specs.Node.{Node}
use Rattle.arena.specs.Expression.{expression_at, expressions, those}
use Rattle.arena.specs.Arena.{Placed, add_expression, add_expressions}
use Rattle.arena.specs.Layout.{decode as nodes}
use Rattle.arena.specs.Calls.{answered, in_cells}
use Rattle.classes.specs.Class.{Class}
use Rattle.classes.specs.Layout.{decode}
use Rattle.classes.specs.Calls.{group_number}
use Rattle.classes.specs.declared.Group.{Group}
use Rattle.normal.specs.Normal.{normal, normals}

-- a call that adds to a lent arena by a lent group, after the check's number: the refusal and the cells as they were, or its outcome
unfoldable pub on_checked : {A : Type 0} → ℕ → (ℕ → A) → (List Node → List Class → A × List Node) → List ℕ → Group → A × List ℕ
on_checked number refused_by call cells g =
    if eqb number 0 then in_cells (call (nodes cells) (decode g))
    else (refused_by number, cells)

-- the normal form of an expression: 1 where it is unknown, 3 where its missing nodes don't fit
unfoldable pub normalize_expr : ℕ → List Node → List Class → Added × List Node
normalize_expr e ns cs = if ltb e (length ns) then answered ns (add_expression (normal ns cs (expression_at ns e)) ns) else (Err UnknownExpression, ns)

-- the call on lent cells and a lent group
abbrev pub normalized : ℕ → List ℕ → Group → Added × List ℕ
normalized e cells g = on_checked (group_number cells g) (λ k. Err (refusal k)) (normalize_expr e) cells g

-- the normal forms of expressions of the arena: the missing nodes of the first are added, then those of the next
unfoldable pub normal_forms : List Node → List Class → List ℕ → Placed (List ℕ)
normal_forms ns cs es = add_expressions (normals ns cs (those (expressions ns) es)) ns
