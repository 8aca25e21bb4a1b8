-- Document 01's small examples hold.
use mathlib.Core.List.{map}
use mathlib.Core.Path.{◌≡◌, refl}
use Rattle.laws.specs.Lists.{same_numbers}
use Rattle.laws.specs.Tests.{each, first, first_from}
use Rattle.arena.specs.Node.{child_numbers, same_node, made, made_after}
use Rattle.arena.specs.Expression.{expressions, those, over}
use Rattle.arena.specs.Arena.{and_then, find, placed_at, add, add_expression, add_expressions}
use Rattle.arena.specs.Calls.{answered}
use Rattle.classes.specs.Class.{is_constant, is_uniform, taken, carried, single, merged, same_constant}
use Rattle.classes.specs.Group.{among, class_of, total, removed, merged_at, pair, joined, equated, equal_condition, given, constant_at, class_like, constant_for, constant_in, with_constant, same_class}
use Rattle.classes.specs.Steps.{fits, judged}
use Rattle.conditions.specs.Steps.{add_equal, add_constant}
use Rattle.questions.specs.Questions.{children_equal, equals, equal_by, class_constant, children_constant, or_else, constant_of_node, constant_by}
use Rattle.questions.specs.Calls.{equal_answer, constant_answer}
use Rattle.normal.specs.Normal.{operation_over, both_found, number_of, numbers_of, first_at, first_of, replaced_by, replaced, normal_by, normals_by}
use Rattle.normal.specs.Calls.{normalize_expr}
use Rattle.orderings.specs.Ordering.{same_key, expr_of, has_expr, pushed, extended}
use Rattle.orderings.specs.Lists.{suffixed, suffixed_all, join_suffix}
use Rattle.orderings.specs.Calls.{listed, fits as list_fits}
use Rattle.reduction.specs.Reduction.{meets, overlap, removed as cut_out, resolved_by, resolve, second, compared, round_from, round_rest, round, pass_from, pass_rest, pass, keys_in, passes_from, passes_rest, reduced}
use Rattle.reduction.specs.Calls.{reduced_list}
use Rattle.dependencies.specs.Map.{place_of, with_dependency, inserted_at, inserted}
use Rattle.enumeration.specs.Walk.{go_on, is_seen, over_dependencies, at_target, at_entry, at_place, constructed, pairs, construct_orderings, over_start, prefix_orderings}
use Rattle.enumeration.specs.Bounds.{fitting}
use Rattle.dependency_orderings.specs.Output.{written_all}
use Rattle.dependency_orderings.specs.Calls.{writes, answered as answered_with, walk_answer}
use Rattle.promises.specs.Paper.{Asked, Told, told, form_told, paper}

-- P1 to P13: in every row of the table the definitions answer as the paper says
pub paper-holds : map (λ (row : Asked × Told). told row.0) paper ≡ map (λ (row : Asked × Told). row.1) paper
unfolding told form_told same_numbers each first first_from child_numbers same_node made made_after expressions those over and_then find placed_at add add_expression add_expressions answered is_constant is_uniform taken carried single merged same_constant among class_of total removed merged_at pair joined equated equal_condition given constant_at class_like constant_for constant_in with_constant same_class fits judged add_equal add_constant children_equal equals equal_by class_constant children_constant or_else constant_of_node constant_by equal_answer constant_answer operation_over both_found number_of numbers_of first_at first_of replaced_by replaced normal_by normals_by normalize_expr same_key expr_of has_expr pushed extended suffixed suffixed_all join_suffix listed list_fits meets overlap cut_out resolved_by resolve second compared round_from round_rest round pass_from pass_rest pass keys_in passes_from passes_rest reduced reduced_list place_of with_dependency inserted_at inserted go_on is_seen over_dependencies at_target at_entry at_place constructed pairs construct_orderings over_start prefix_orderings fitting written_all writes answered_with walk_answer
paper-holds = refl
