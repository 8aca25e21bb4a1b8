-- Projecting a group, tried on small arenas: each answer is computed.
use Prim.Native.Nat.{ℕ}
use mathlib.Core.Bool.{true}
use mathlib.Core.List.{List, [], ◌∷◌, ◌++◌}
use Rattle.std.specs.Prelude.{None, Some}
use mathlib.Core.Path.{◌≡◌, refl}
use Rattle.laws.specs.Lists.{same_numbers}
use Rattle.laws.specs.Tests.{each, first, first_from}
use Rattle.arena.specs.Node.{Node, column, literal, operation, child_numbers, same_node, made, made_after}
use Rattle.arena.specs.Expression.{those, over, expressions}
use Rattle.arena.specs.Arena.{placed, and_then, find, placed_at, add, add_expression, add_expressions}
use Rattle.classes.specs.declared.Constant.{Constant}
use Rattle.classes.specs.declared.Constant.TheVariants.{NoConstant as no_constant, Heterogeneous as heterogeneous, Unknown as unknown, Known as known}
use Rattle.classes.specs.Class.{Class, is_constant, is_uniform, taken, carried, single, merged, same_constant}
use Rattle.classes.specs.Group.{among, class_of, same_class, total, removed, merged_at, given, constant_at, class_like, constant_for, constant_in, with_constant}
use Rattle.classes.specs.Good.{flat}
use Rattle.classes.specs.Steps.{fits}
use Rattle.classes.specs.Layout.{is_literal, fresh}
use Rattle.questions.specs.Questions.{class_constant, children_constant, or_else as constant_or_else, constant_of_node, constant_by}
use Rattle.normal.specs.Normal.{operation_over, both_found, number_of, numbers_of, first_at, first_of, replaced_by, replaced, normal_by, normals_by}
use Rattle.merging.specs.Extending.{without, missing, extended, pushed, pushed_all, class_from, any_among, contains_any, is_trivial}
use Rattle.merging.specs.Merging.{dropped_at, drop_below, kept_classes, meeting_below, last_meeting, bridged, bridge_from, bridge_rest, bridge_classes, from_classes}
use Rattle.mappings.specs.Mapping.{Mapped, sources, target_for}
use Rattle.projection_table.specs.Projecting.{or_else, becomes, both_project, all_project, operation_of, by_children, whole_or, projections_by, add_projections, project_all}
use Rattle.group_projection.specs.Group.{projected_numbers, there, projected_classes, targets_of, source_classes, telling, projected_list, new_constants, constants_said, projected_group}

-- columns a, b, c, d (0 to 3), a + c (4), b + c (5), literal 7 (6), an operation over d (7), columns x, y and z of the output (8 to 10)
abbrev arena : List Node
arena = column 1 0 ∷ column 2 1 ∷ column 3 2 ∷ column 4 3 ∷ operation 9 (0 ∷ 2 ∷ []) ∷ operation 9 (1 ∷ 2 ∷ []) ∷ literal 7 ∷ operation 5 (3 ∷ []) ∷ column 8 0 ∷ column 9 1 ∷ column 10 2 ∷ []

-- a class
abbrev class : List ℕ → Constant → Class
class ms c = record { members = ms; constant = c }

-- a source and its targets
abbrev to : ℕ → List ℕ → Mapped
to e ts = record { source = e; targets = ts }

-- ---- the text's own example: a = b, a + c becomes x and b + c becomes y

-- the classes
abbrev equal : List Class
equal = class (0 ∷ 1 ∷ []) no_constant ∷ []

-- the mapping
abbrev sums : List Mapped
sums = to 4 (8 ∷ []) ∷ to 5 (9 ∷ []) ∷ []

-- neither a nor b projects; both sources have the normal form a + c, which is there
sums-numbers : projected_numbers arena equal sums ≡ placed ((None ∷ None ∷ []), (4 ∷ 4 ∷ [])) arena
unfolding projected_numbers project_all add_projections projections_by made made_after whole_or by_children operation_of all_project both_project becomes or_else target_for is_literal same_class class_of first first_from among flat sources expressions over those normal_by normals_by number_of numbers_of operation_over both_found replaced replaced_by first_of first_at add_expression add_expressions and_then add placed_at find same_node same_numbers
sums-numbers = refl

-- so x = y
sums-equal : projected_group arena equal sums (None ∷ None ∷ []) (4 ∷ 4 ∷ []) ≡ Some (class (8 ∷ 9 ∷ []) no_constant ∷ [])
unfolding projected_group projected_list projected_classes source_classes targets_of telling there new_constants constants_said with_constant constant_in constant_at constant_for class_like given fresh each class_from pushed_all pushed extended merged missing without among single carried taken is_uniform is_constant is_trivial same_constant fits total from_classes kept_classes drop_below dropped_at removed bridge_classes bridge_rest bridge_from last_meeting meeting_below bridged merged_at contains_any any_among class_of first first_from constant_by constant_of_node class_constant children_constant constant_or_else made made_after child_numbers
sums-equal = refl

-- ---- members that project: a + c = b + c, and a becomes x, b becomes y, c becomes z

-- the classes
abbrev sum : List Class
sum = class (4 ∷ 5 ∷ []) no_constant ∷ []

-- the mapping
abbrev columns : List Mapped
columns = to 0 (8 ∷ []) ∷ to 1 (9 ∷ []) ∷ to 2 (10 ∷ []) ∷ []

-- the arena with x + z and y + z
abbrev wider : List Node
wider = arena ++ (operation 9 (8 ∷ 10 ∷ []) ∷ operation 9 (9 ∷ 10 ∷ []) ∷ [])

-- both are added, and each source is its own normal form
members-numbers : projected_numbers arena sum columns ≡ placed ((Some 11 ∷ Some 12 ∷ []), (0 ∷ 1 ∷ 2 ∷ [])) wider
unfolding projected_numbers project_all add_projections projections_by made made_after whole_or by_children operation_of all_project both_project becomes or_else target_for is_literal same_class class_of first first_from among flat sources expressions over those normal_by normals_by number_of numbers_of operation_over both_found replaced replaced_by first_of first_at add_expression add_expressions and_then add placed_at find same_node same_numbers
members-numbers = refl

-- so x + z = y + z
members-equal : projected_group wider sum columns (Some 11 ∷ Some 12 ∷ []) (0 ∷ 1 ∷ 2 ∷ []) ≡ Some (class (11 ∷ 12 ∷ []) no_constant ∷ [])
unfolding projected_group projected_list projected_classes source_classes targets_of telling there new_constants constants_said with_constant constant_in constant_at constant_for class_like given fresh each class_from pushed_all pushed extended merged missing without among single carried taken is_uniform is_constant is_trivial same_constant fits total from_classes kept_classes drop_below dropped_at removed bridge_classes bridge_rest bridge_from last_meeting meeting_below bridged merged_at contains_any any_among class_of first first_from constant_by constant_of_node class_constant children_constant constant_or_else made made_after child_numbers
members-equal = refl

-- ---- two unknown uniforms: a becomes x and b becomes y

-- the classes: a has one value throughout and b has one, and neither is known
abbrev unknowns : List Class
unknowns = class (0 ∷ []) unknown ∷ class (1 ∷ []) unknown ∷ []

-- the mapping
abbrev pair : List Mapped
pair = to 0 (8 ∷ []) ∷ to 1 (9 ∷ []) ∷ []

-- `new` makes such a group
new-unknowns : from_classes unknowns ≡ unknowns
unfolding from_classes kept_classes drop_below dropped_at is_trivial is_constant removed bridge_classes bridge_rest bridge_from last_meeting meeting_below contains_any any_among among
new-unknowns = refl

-- each member projects, and each source is its own normal form
unknowns-numbers : projected_numbers arena unknowns pair ≡ placed ((Some 8 ∷ Some 9 ∷ []), (0 ∷ 1 ∷ [])) arena
unfolding projected_numbers project_all add_projections projections_by made made_after whole_or by_children operation_of all_project both_project becomes or_else target_for is_literal same_class class_of first first_from among flat sources expressions over those normal_by normals_by number_of numbers_of operation_over both_found replaced replaced_by first_of first_at add_expression add_expressions and_then add placed_at find same_node same_numbers
unknowns-numbers = refl

-- no class says anything, and then the constants bring x and y together, though nothing said that they are equal
unknowns_together : projected_group arena unknowns pair (Some 8 ∷ Some 9 ∷ []) (0 ∷ 1 ∷ []) ≡ Some (class (8 ∷ 9 ∷ []) unknown ∷ [])
unfolding projected_group projected_list projected_classes source_classes targets_of telling there new_constants constants_said with_constant constant_in constant_at constant_for class_like given fresh each class_from pushed_all pushed extended merged missing without among single carried taken is_uniform is_constant is_trivial same_constant fits total from_classes kept_classes drop_below dropped_at removed bridge_classes bridge_rest bridge_from last_meeting meeting_below bridged merged_at contains_any any_among class_of first first_from constant_by constant_of_node class_constant children_constant constant_or_else made made_after child_numbers
unknowns_together = refl

-- another way to such a group: the constants are said of a and of b while they are in classes of their own
said-unknowns : with_constant true arena (with_constant true arena (class (0 ∷ 2 ∷ []) no_constant ∷ class (1 ∷ 3 ∷ []) no_constant ∷ []) 0 unknown) 1 unknown
    ≡ class (0 ∷ 2 ∷ []) unknown ∷ class (1 ∷ 3 ∷ []) unknown ∷ []
unfolding with_constant constant_in constant_at given taken carried is_uniform class_of first first_from among
said-unknowns = refl

-- there too x and y come together
said_together : projected_group arena (class (0 ∷ 2 ∷ []) unknown ∷ class (1 ∷ 3 ∷ []) unknown ∷ []) pair (Some 8 ∷ Some 8 ∷ Some 9 ∷ Some 9 ∷ []) (0 ∷ 1 ∷ []) ≡ Some (class (8 ∷ 9 ∷ []) unknown ∷ [])
unfolding projected_group projected_list projected_classes source_classes targets_of telling there new_constants constants_said with_constant constant_in constant_at constant_for class_like given fresh each class_from pushed_all pushed extended merged missing without among single carried taken is_uniform is_constant is_trivial same_constant fits total from_classes kept_classes drop_below dropped_at removed bridge_classes bridge_rest bridge_from last_meeting meeting_below bridged merged_at contains_any any_among class_of first first_from constant_by constant_of_node class_constant children_constant constant_or_else made made_after child_numbers
said_together = refl

-- ---- the constants of sources

-- d has a value a partition
abbrev varying : List Class
varying = class (3 ∷ []) heterogeneous ∷ []

-- a source with two targets gives both its constant: they are one class
two-targets : projected_group arena varying (to 3 (8 ∷ 9 ∷ []) ∷ []) (Some 8 ∷ []) (3 ∷ []) ≡ Some (class (8 ∷ 9 ∷ []) heterogeneous ∷ [])
unfolding projected_group projected_list projected_classes source_classes targets_of telling there new_constants constants_said with_constant constant_in constant_at constant_for class_like given fresh each class_from pushed_all pushed extended merged missing without among single carried taken is_uniform is_constant is_trivial same_constant fits total from_classes kept_classes drop_below dropped_at removed bridge_classes bridge_rest bridge_from last_meeting meeting_below bridged merged_at contains_any any_among class_of first first_from constant_by constant_of_node class_constant children_constant constant_or_else made made_after child_numbers
two-targets = refl

-- each target's constant is said: (8, heterogeneous), then (9, heterogeneous)
two_said : new_constants arena varying (to 3 (8 ∷ 9 ∷ []) ∷ []) ≡ (8, heterogeneous) ∷ (9, heterogeneous) ∷ []
unfolding new_constants is_constant constant_by constant_of_node class_constant children_constant constant_or_else carried made made_after child_numbers class_of first first_from among
two_said = refl

-- an operation over d is constant by its child, so its target is
child-constant : projected_group arena varying (to 7 (9 ∷ []) ∷ []) (None ∷ []) (7 ∷ []) ≡ Some (class (9 ∷ []) heterogeneous ∷ [])
unfolding projected_group projected_list projected_classes source_classes targets_of telling there new_constants constants_said with_constant constant_in constant_at constant_for class_like given fresh each class_from pushed_all pushed extended merged missing without among single carried taken is_uniform is_constant is_trivial same_constant fits total from_classes kept_classes drop_below dropped_at removed bridge_classes bridge_rest bridge_from last_meeting meeting_below bridged merged_at contains_any any_among class_of first first_from constant_by constant_of_node class_constant children_constant constant_or_else made made_after child_numbers
child-constant = refl

-- a literal source gives its value
literal-constant : projected_group arena [] (to 6 (8 ∷ []) ∷ []) [] (6 ∷ []) ≡ Some (class (8 ∷ []) (known 7) ∷ [])
unfolding projected_group projected_list projected_classes source_classes targets_of telling there new_constants constants_said with_constant constant_in constant_at constant_for class_like given fresh each class_from pushed_all pushed extended merged missing without among single carried taken is_uniform is_constant is_trivial same_constant fits total from_classes kept_classes drop_below dropped_at removed bridge_classes bridge_rest bridge_from last_meeting meeting_below bridged merged_at contains_any any_among class_of first first_from constant_by constant_of_node class_constant children_constant constant_or_else made made_after child_numbers
literal-constant = refl
