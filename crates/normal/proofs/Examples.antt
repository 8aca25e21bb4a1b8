-- The definitions of specs/, tried on small examples by computing them. Document 01's own stand in the crate promises.
use mathlib.Core.List.{List, [], ◌∷◌, ◌++◌}
use mathlib.Core.Path.{◌≡◌, refl}
use Rattle.laws.specs.Lists.{same_numbers}
use Rattle.laws.specs.Tests.{first, first_from}
use Rattle.arena.specs.Node.{Node, column, operation, same_node, made, made_after}
use Rattle.arena.specs.Expression.{col, op, ∅, ◌▹◌, expressions, expression_at, those, over}
use Rattle.arena.specs.Arena.{find}
use Rattle.classes.specs.declared.Constant.TheVariants.{NoConstant as no_constant}
use Rattle.classes.specs.Class.{Class}
use Rattle.classes.specs.Group.{among, class_of}
use Rattle.normal.specs.Normal.{operation_over, both_found, number_of, numbers_of, first_at, first_of, replaced_by, replaced, normal_by, normals_by, normal}
use Rattle.normal.specs.Missing.{parts, all_parts, same_expression, same_expressions, is_among, with_missing}

-- a, b and c are the columns 0 to 2; 3 is f(b), 4 is g(f(b), c)
abbrev arena : List Node
arena = column 0 0 ∷ column 1 1 ∷ column 2 2 ∷ operation 1 (1 ∷ []) ∷ operation 2 (3 ∷ 2 ∷ []) ∷ []

-- [a,b],[f(b),c]
abbrev group : List Class
group = record { members = 0 ∷ 1 ∷ []; constant = no_constant } ∷ record { members = 3 ∷ 2 ∷ []; constant = no_constant } ∷ []

-- children first: g(f(b), c) becomes g(f(a), f(b))
nested : normal arena group (expression_at arena 4) ≡ op 2 (op 1 (col 0 0 ▹ ∅) ▹ op 1 (col 1 1 ▹ ∅) ▹ ∅)
unfolding normal_by normals_by replaced replaced_by number_of numbers_of operation_over both_found find first first_from same_node same_numbers first_of first_at class_of among expressions made made_after over those
nested = refl

-- of g(f(a), f(b)) the parts f(a) and g(f(a), f(b)) are missing, in this order
nested-missing : with_missing (expressions arena) (parts (op 2 (op 1 (col 0 0 ▹ ∅) ▹ op 1 (col 1 1 ▹ ∅) ▹ ∅)))
    ≡ expressions arena ++ (op 1 (col 0 0 ▹ ∅) ∷ op 2 (op 1 (col 0 0 ▹ ∅) ▹ op 1 (col 1 1 ▹ ∅) ▹ ∅) ∷ [])
unfolding with_missing parts all_parts is_among same_expression same_expressions expressions made made_after over those
nested-missing = refl
