-- The definitions of specs/, tried on document 01's example and on small input by computing them.
use Prim.Native.Nat.{ℕ}
use mathlib.Core.List.{List, [], ◌∷◌, ◌++◌}
use mathlib.Core.Path.{◌≡◌, refl}
use Rattle.laws.specs.Lists.{table, same_numbers}
use Rattle.laws.specs.Tests.{each, first, first_from}
use Rattle.lines.specs.Text.{digits, decimal, spaced, line}
use Rattle.arena.specs.Node.{child_numbers, same_node, made, made_after}
use Rattle.arena.specs.Expression.{expressions, those, over}
use Rattle.arena.specs.Arena.{and_then, find, placed_at, add, add_expression, add_expressions}
use Rattle.arena.specs.Calls.{answered, add_column, add_operation}
use Rattle.classes.specs.Class.{carried, taken, single, merged}
use Rattle.classes.specs.Group.{among, class_of, total, pair, equated, equal_condition, same_class}
use Rattle.questions.specs.Questions.{children_equal, equals, equal_by}
use Rattle.classes.specs.Steps.{fits, judged}
use Rattle.conditions.specs.Steps.{add_equal}
use Rattle.questions.specs.Calls.{equal_answer}
use Rattle.normal.specs.Normal.{operation_over, both_found, number_of, numbers_of, first_at, first_of, replaced_by, replaced, normal_by, normals_by}
use Rattle.normal.specs.Calls.{normalize_expr}
use Rattle.records.specs.Fields.{field, wide_field, fields}
use Rattle.records.specs.Record.{is_whole, record_size, body_of, column_in, operation_in, equal_pair_in, normal_form_in, equality_in, record_in, read_record}
use Rattle.session_steps.specs.State.{start, step, on_nodes, on_classes, with_nodes, with_classes, added_reply, normal_reply, equality_reply, unless, after}
use Rattle.transcript.specs.Session.{before, read_from, read_all, bit, reply_text, replies, stop_text, end_text, script_text, session_text}

-- no input: `end 0 0 0`
nothing : session_text [] ≡ 101 ∷ 110 ∷ 100 ∷ 32 ∷ 48 ∷ 32 ∷ 48 ∷ 32 ∷ 48 ∷ 10 ∷ []
unfolding session_text script_text read_all read_from replies after stop_text end_text start total line spaced decimal digits
nothing = refl

-- a header that is cut: `r 1 9`, then `end 0 0 0`
cut-header : session_text (4 ∷ 0 ∷ 1 ∷ []) ≡ 114 ∷ 32 ∷ 49 ∷ 32 ∷ 57 ∷ 10 ∷ 101 ∷ 110 ∷ 100 ∷ 32 ∷ 48 ∷ 32 ∷ 48 ∷ 32 ∷ 48 ∷ 10 ∷ []
unfolding session_text script_text read_all read_from read_record is_whole replies after stop_text end_text start total line spaced decimal digits
cut-header = refl

-- a number in decimal
thousand : decimal 1023 ≡ 49 ∷ 48 ∷ 50 ∷ 51 ∷ []
unfolding decimal digits
thousand = refl

-- document 01's input: two columns, an operation over the second, an equal pair, a normal form, an equality question
abbrev input : List ℕ
input =
    (4 ∷ 0 ∷ 1 ∷ 0 ∷ 0 ∷ 0 ∷ 0 ∷ 0 ∷ []) ++ ((4 ∷ 0 ∷ 1 ∷ 0 ∷ 1 ∷ 0 ∷ 1 ∷ 0 ∷ [])
    ++ ((6 ∷ 0 ∷ 3 ∷ 0 ∷ 7 ∷ 0 ∷ 0 ∷ 0 ∷ 1 ∷ 0 ∷ []) ++ ((4 ∷ 0 ∷ 4 ∷ 0 ∷ 0 ∷ 0 ∷ 1 ∷ 0 ∷ [])
    ++ ((2 ∷ 0 ∷ 6 ∷ 0 ∷ 2 ∷ 0 ∷ []) ++ (4 ∷ 0 ∷ 7 ∷ 0 ∷ 0 ∷ 0 ∷ 1 ∷ 0 ∷ [])))))

-- its text: `n 2 3`, `q 0 1 1`, `end 1 2 0`
example : session_text input
    ≡ (110 ∷ 32 ∷ 50 ∷ 32 ∷ 51 ∷ 10 ∷ []) ++ ((113 ∷ 32 ∷ 48 ∷ 32 ∷ 49 ∷ 32 ∷ 49 ∷ 10 ∷ []) ++ (101 ∷ 110 ∷ 100 ∷ 32 ∷ 49 ∷ 32 ∷ 50 ∷ 32 ∷ 48 ∷ 10 ∷ []))
unfolding session_text script_text read_all read_from before read_record is_whole record_size body_of record_in column_in operation_in equal_pair_in normal_form_in equality_in field wide_field fields table replies reply_text bit after stop_text end_text start step on_nodes on_classes with_nodes with_classes added_reply normal_reply equality_reply unless add_column add_operation answered add placed_at find first first_from same_node same_numbers each and_then add_expression add_expressions add_equal judged fits equal_condition equated class_of pair single merged carried taken among total equal_answer equal_by equals children_equal same_class child_numbers normalize_expr normal_by normals_by replaced replaced_by number_of numbers_of operation_over both_found first_of first_at expressions made made_after over those line spaced decimal digits
example = refl
