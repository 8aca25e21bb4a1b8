-- The definitions of specs/, tried on small lists and joins by computing them.
use Rattle.std.specs.Prelude.{Err}
use Prim.Native.Nat.{ℕ}
use mathlib.Core.List.{List, [], ◌∷◌, ◌++◌}
use mathlib.Core.Path.{◌≡◌, refl}
use Rattle.laws.specs.Tests.{first, first_from}
use Rattle.laws.specs.Parts.{parts, parts_from}
use Rattle.laws.specs.Lists.{table}
use Rattle.arena.specs.Node.{Node, column, literal, made, made_after, same_node}
use Rattle.arena.specs.Expression.{expressions, over, those}
use Rattle.arena.specs.Arena.{and_then, find, placed_at, add, add_expression}
use Rattle.shifting.specs.Shift.{within, moved, can_move, shifted}
use Rattle.classes.specs.declared.Constant.TheVariants.{NoConstant as no_constant, Heterogeneous as heterogeneous, Unknown as unknown, Known as known}
use Rattle.classes.specs.Class.{Class, is_uniform, taken, carried, single, merged, is_constant}
use Rattle.classes.specs.Group.{among, class_of, total, removed, merged_at, joined, equated, equal_condition}
use Rattle.classes.specs.Good.{flat}
use Rattle.classes.specs.Steps.{fits}
use Rattle.classes.specs.Layout.{constant_from, flavour_of, value_of, padded, sum_to, class_in, encode, decode}
use Rattle.merging.specs.Extending.{without, missing, extended, pushed, pushed_all, class_from, any_among, contains_any, is_trivial}
use Rattle.merging.specs.Merging.{dropped_at, drop_below, kept_classes, meeting_below, last_meeting, bridged, bridge_from, bridge_rest, bridge_classes, from_classes}
use Rattle.lent_classes.specs.Lent.{next_class, class_lent, classes_lent}
use Rattle.arena.specs.declared.Refusal.TheVariants.{IndexOutOfRange}
use Rattle.arena.specs.Refusals.{refusal}
use Rattle.merging.specs.Calls.{made_group, refused_group, made_or_refused}
use Rattle.joins.specs.Kinds.{join_kind}
use Rattle.shifted_classes.specs.Shifting.{all_move, shifted_numbers, shifted_classes}
use Rattle.joins.specs.Joining.{with_rights, equated_all, joined_classes, to_shift, joined_over}
use Rattle.joins.specs.Calls.{join_placed, join_shifted, join_by}

-- a class without a constant
abbrev plain : List ℕ → Class
plain ms = record { members = ms; constant = no_constant }

-- a class with a heterogeneous constant
abbrev varying : List ℕ → Class
varying ms = record { members = ms; constant = heterogeneous }

-- [x,y],[x]: the class of one goes, and x stays where it is
one-goes : from_classes (plain (0 ∷ 1 ∷ []) ∷ plain (0 ∷ []) ∷ []) ≡ plain (0 ∷ 1 ∷ []) ∷ []
unfolding from_classes kept_classes drop_below dropped_at is_trivial is_constant removed bridge_classes bridge_rest bridge_from last_meeting meeting_below
one-goes = refl

-- [x] heterogeneous and [x]: the constant stays, in either order
constant-stays : from_classes (varying (0 ∷ []) ∷ plain (0 ∷ []) ∷ []) ≡ varying (0 ∷ []) ∷ []
unfolding from_classes kept_classes drop_below dropped_at is_trivial is_constant removed bridge_classes bridge_rest bridge_from last_meeting meeting_below
constant-stays = refl

-- the class without a constant first
constant_stays_too : from_classes (plain (0 ∷ []) ∷ varying (0 ∷ []) ∷ []) ≡ varying (0 ∷ []) ∷ []
unfolding from_classes kept_classes drop_below dropped_at is_trivial is_constant removed bridge_classes bridge_rest bridge_from last_meeting meeting_below
constant_stays_too = refl

-- back to front, the last moves into each gap
gaps : kept_classes (plain (0 ∷ []) ∷ plain (1 ∷ 2 ∷ []) ∷ plain [] ∷ plain (3 ∷ 4 ∷ []) ∷ plain (5 ∷ 6 ∷ []) ∷ []) ≡ plain (3 ∷ 4 ∷ []) ∷ plain (1 ∷ 2 ∷ []) ∷ plain (5 ∷ 6 ∷ []) ∷ []
unfolding kept_classes drop_below dropped_at is_trivial is_constant removed
gaps = refl

-- a chain over classes that are no neighbours: the last that overlaps is taken in first, and the scan begins again
chain : from_classes (plain (0 ∷ 1 ∷ []) ∷ plain (5 ∷ 6 ∷ []) ∷ plain (2 ∷ 3 ∷ []) ∷ plain (1 ∷ 2 ∷ []) ∷ []) ≡ plain (0 ∷ 1 ∷ 2 ∷ 3 ∷ []) ∷ plain (5 ∷ 6 ∷ []) ∷ []
unfolding from_classes kept_classes drop_below dropped_at is_trivial bridge_classes bridge_rest bridge_from last_meeting meeting_below bridged removed merged_at merged missing without among contains_any any_among taken
chain = refl

-- numbers as a list of classes
lent : classes_lent (1 ∷ 0 ∷ 1 ∷ 4 ∷ 0 ∷ 0 ∷ 0 ∷ 3 ∷ 7 ∷ 2 ∷ 5 ∷ 6 ∷ []) ≡ varying (4 ∷ []) ∷ plain [] ∷ record { members = 5 ∷ 6 ∷ []; constant = known 7 } ∷ []
unfolding classes_lent class_lent parts parts_from next_class table constant_from
lent = refl

-- columns 0 and 1 of the left side; of the right side columns 2, 3 and 4, with indices 0, 1 and 2 before the shift; literal 7
abbrev arena : List Node
arena = column 0 0 ∷ column 1 1 ∷ column 2 0 ∷ column 3 1 ∷ column 4 2 ∷ literal 7 ∷ []

-- the left classes
abbrev lefts : List Class
lefts = plain (0 ∷ 1 ∷ []) ∷ []

-- the right classes, each with a constant
abbrev rights : List Class
rights = varying (2 ∷ 3 ∷ []) ∷ record { members = 4 ∷ []; constant = unknown } ∷ record { members = 5 ∷ []; constant = known 7 } ∷ []

-- Left, over two left columns: the right constants go with the shift, the literal's is its own, the class of one says nothing any more, and its shifted node is there all the same
left_join : join_by (encode 256 lefts) (encode 256 rights) 1 2 ((1, 2) ∷ []) arena
    ≡ (made_group (plain (0 ∷ 1 ∷ []) ∷ plain (6 ∷ 7 ∷ []) ∷ record { members = 5 ∷ []; constant = known 7 } ∷ []), arena ++ (column 2 2 ∷ column 3 3 ∷ column 4 4 ∷ []))
unfolding join_by join_kind join_shifted join_placed made_or_refused joined_over joined_classes equated_all equal_condition equated class_of first first_from joined to_shift flat all_move shifted_numbers can_move shifted moved within expressions made made_after over those add_expression and_then add placed_at find same_node shifted_classes class_from pushed_all pushed extended merged missing without among single carried taken is_uniform with_rights fits total from_classes kept_classes drop_below dropped_at is_trivial is_constant removed bridge_classes bridge_rest bridge_from last_meeting meeting_below bridged merged_at contains_any any_among decode encode class_in padded flavour_of value_of constant_from sum_to table
left_join = refl

-- Inner, over two left columns: the pair of 1 and 2, whose shifted node is 6, brings the two classes together
inner_join : join_by (encode 256 lefts) (encode 256 (varying (2 ∷ 3 ∷ []) ∷ [])) 0 2 ((1, 2) ∷ []) arena
    ≡ (made_group (plain (0 ∷ 1 ∷ 6 ∷ 7 ∷ []) ∷ []), arena ++ (column 2 2 ∷ column 3 3 ∷ []))
unfolding join_by join_kind join_shifted join_placed made_or_refused joined_over joined_classes equated_all equal_condition equated class_of first first_from joined to_shift flat all_move shifted_numbers can_move shifted moved within expressions made made_after over those add_expression and_then add placed_at find same_node shifted_classes class_from pushed_all pushed extended merged missing without among single carried taken is_uniform with_rights fits total from_classes kept_classes drop_below dropped_at is_trivial is_constant removed bridge_classes bridge_rest bridge_from last_meeting meeting_below bridged merged_at contains_any any_among decode encode class_in padded flavour_of value_of constant_from sum_to table
inner_join = refl

-- over 65,535 left columns index 1 leaves its range: 10, the left group as it was, and the arena
join-leaves : join_by (encode 5 lefts) (encode 256 rights) 2 65535 [] arena ≡ (record { answer = Err IndexOutOfRange; group = encode 5 lefts }, arena)
unfolding join_by join_kind join_shifted refused_group refusal to_shift flat all_move can_move moved within expressions made made_after over decode encode class_in padded flavour_of value_of constant_from sum_to table
join-leaves = refl

-- LeftSemi keeps the left classes and RightMark the right ones, each as they are but with limit 256
left_semi : join_by (encode 5 lefts) (encode 7 rights) 4 2 ((1, 2) ∷ []) arena ≡ (made_group lefts, arena)
unfolding join_by join_kind decode encode class_in padded flat flavour_of value_of constant_from sum_to table
left_semi = refl

-- the right side
right-mark : join_by (encode 5 lefts) (encode 7 rights) 9 2 ((1, 2) ∷ []) arena ≡ (made_group rights, arena)
unfolding join_by join_kind decode encode class_in padded flat flavour_of value_of constant_from sum_to table
right-mark = refl
