-- Document 01's rule for projecting an expression, tried on small arenas: each answer is computed.
use mathlib.Core.List.{List, [], ◌∷◌, ◌++◌}
use Rattle.std.specs.Prelude.{None, Some, Ok}
use mathlib.Core.Path.{◌≡◌, refl}
use Rattle.laws.specs.Lists.{same_numbers}
use Rattle.laws.specs.Tests.{first, first_from}
use Rattle.arena.specs.Node.{Node, column, literal, operation, same_node, made, made_after}
use Rattle.arena.specs.Expression.{col, lit, those, over, expressions}
use Rattle.arena.specs.Arena.{placed, and_then, find, placed_at, add, add_expression, add_expressions}
use Rattle.classes.specs.declared.Constant.TheVariants.{NoConstant as no_constant}
use Rattle.classes.specs.Class.{Class}
use Rattle.classes.specs.Group.{among, class_of, same_class}
use Rattle.classes.specs.Layout.{is_literal}
use Rattle.mappings.specs.Mapping.{Mapped, target_for}
use Rattle.projection_table.specs.Projecting.{or_else, becomes, both_project, all_project, operation_of, by_children, whole_or, projections_by, projection, add_projections, project_all}
use Rattle.projection.specs.Calls.{placed_answer, projected_answer, project_expr}

-- columns a, b, c (0 to 2), a + c (3), b + c (4), literal 7 (5), an operation without children (6), one over it and a (7), columns x and y of the output (8, 9)
abbrev arena : List Node
arena = column 1 0 ∷ column 2 1 ∷ column 3 2 ∷ operation 9 (0 ∷ 2 ∷ []) ∷ operation 9 (1 ∷ 2 ∷ []) ∷ literal 7 ∷ operation 5 [] ∷ operation 6 (0 ∷ 6 ∷ []) ∷ column 8 0 ∷ column 9 1 ∷ []

-- a = b
abbrev classes : List Class
classes = record { members = 0 ∷ 1 ∷ []; constant = no_constant } ∷ []

-- a becomes x and y, c becomes y
abbrev mapping : List Mapped
mapping = record { source = 0; targets = 8 ∷ 9 ∷ [] } ∷ record { source = 2; targets = 9 ∷ [] } ∷ []

-- a mapped source becomes its first target
source-projects : projection arena classes mapping 0 ≡ Some (col 8 0)
unfolding projections_by made made_after whole_or by_children operation_of all_project both_project becomes or_else target_for is_literal same_class class_of first first_from among expressions over those
source-projects = refl

-- what is in one class with a source becomes that source's first target
class-projects : projection arena classes mapping 1 ≡ Some (col 8 0)
unfolding projections_by made made_after whole_or by_children operation_of all_project both_project becomes or_else target_for is_literal same_class class_of first first_from among expressions over those
class-projects = refl

-- a literal stays
literal-stays : projection arena classes mapping 5 ≡ Some (lit 7)
unfolding projections_by made made_after whole_or by_children operation_of all_project both_project becomes or_else target_for is_literal same_class class_of first first_from among expressions over those
literal-stays = refl

-- two sources of one class
abbrev both : List Mapped
both = record { source = 0; targets = 8 ∷ [] } ∷ record { source = 1; targets = 9 ∷ [] } ∷ []

-- a source is looked for before its class: it becomes its own first target
own-before-class : projection arena classes both 1 ≡ Some (col 9 1)
unfolding projections_by made made_after whole_or by_children operation_of all_project both_project becomes or_else target_for is_literal same_class class_of first first_from among expressions over those
own-before-class = refl

-- a class of three, the two sources among them
abbrev three : List Class
three = record { members = 2 ∷ 1 ∷ 0 ∷ []; constant = no_constant } ∷ []

-- the third member becomes the first target of the first of the two in the mapping
first-source : projection arena three both 2 ≡ Some (col 8 0)
unfolding projections_by made made_after whole_or by_children operation_of all_project both_project becomes or_else target_for is_literal same_class class_of first first_from among expressions over those
first-source = refl

-- a literal and an operation are sources
abbrev whole : List Mapped
whole = record { source = 5; targets = 8 ∷ [] } ∷ record { source = 3; targets = 9 ∷ [] } ∷ []

-- a literal that is a source becomes its first target
literal-mapped : projection arena classes whole 5 ≡ Some (col 8 0)
unfolding projections_by made made_after whole_or by_children operation_of all_project both_project becomes or_else target_for is_literal same_class class_of first first_from among expressions over those
literal-mapped = refl

-- so does an operation
operation-mapped : projection arena classes whole 3 ≡ Some (col 9 1)
unfolding projections_by made made_after whole_or by_children operation_of all_project both_project becomes or_else target_for is_literal same_class class_of first first_from among expressions over those
operation-mapped = refl

-- a column that is no source and in no source's class does not project
column_fails : projection arena classes mapping 8 ≡ None
unfolding projections_by made made_after whole_or by_children operation_of all_project both_project becomes or_else target_for is_literal same_class class_of first first_from among expressions over those
column_fails = refl

-- an operation becomes the operation over its children's projections, and its node is added
operation-projects : project_expr 4 mapping arena classes ≡ (Ok (Some 10), arena ++ (operation 9 (8 ∷ 9 ∷ []) ∷ []))
unfolding projections_by made made_after whole_or by_children operation_of all_project both_project becomes or_else target_for is_literal same_class class_of first first_from among expressions over those project_expr projected_answer placed_answer add_expression add_expressions and_then add placed_at find same_node same_numbers
operation-projects = refl

-- a childless node does not project
childless_fails : project_expr 6 mapping arena classes ≡ (Ok None, arena)
unfolding projections_by made made_after whole_or by_children operation_of all_project both_project becomes or_else target_for is_literal same_class class_of first first_from among expressions over those project_expr projected_answer
childless_fails = refl

-- nothing is added for an operation over it
failed-child : project_expr 7 mapping arena classes ≡ (Ok None, arena)
unfolding projections_by made made_after whole_or by_children operation_of all_project both_project becomes or_else target_for is_literal same_class class_of first first_from among expressions over those project_expr projected_answer
failed-child = refl

-- of a list: each its projection, or that there is none
list-projects : project_all arena classes mapping (7 ∷ 3 ∷ 4 ∷ []) ≡ placed (None ∷ Some 10 ∷ Some 10 ∷ []) (arena ++ (operation 9 (8 ∷ 9 ∷ []) ∷ []))
unfolding projections_by made made_after whole_or by_children operation_of all_project both_project becomes or_else target_for is_literal same_class class_of first first_from among expressions over those project_all add_projections add_expression add_expressions and_then add placed_at find same_node same_numbers
list-projects = refl
