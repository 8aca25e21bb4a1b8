-- The definitions of specs/, tried on small examples by computing them.
use Prim.Native.Nat.{ℕ}
use mathlib.Core.List.{List, [], ◌∷◌}
use Rattle.std.specs.Prelude.{None, Some}
use mathlib.Core.Path.{◌≡◌, refl}
use lib.ListN.{drop}
use Rattle.laws.specs.Lists.{table}
use Rattle.records.specs.Fields.{field, wide_field, fields}
use Rattle.records.specs.Record.{column, literal, operation, equal_pair, constant, normal_form_of, equality_of, one_ordering, is_whole, record_size, body_of, column_in, literal_in, operation_in, equal_pair_in, constant_in, normal_form_in, equality_in, keys_in, ordering_in, record_in, read_record}
use Rattle.records.specs.Chosen.{is_group_record, group_part, side_of, part_of, chosen_part, number_of, chosen_number}

-- document 01's input
abbrev input : List ℕ
input = 4 ∷ 0 ∷ 1 ∷ 0 ∷ 0 ∷ 0 ∷ 0 ∷ 0 ∷ 4 ∷ 0 ∷ 1 ∷ 0 ∷ 1 ∷ 0 ∷ 1 ∷ 0 ∷ 6 ∷ 0 ∷ 3 ∷ 0 ∷ 7 ∷ 0 ∷ 0 ∷ 0 ∷ 1 ∷ 0 ∷ 4 ∷ 0 ∷ 4 ∷ 0 ∷ 0 ∷ 0 ∷ 1 ∷ 0 ∷ 2 ∷ 0 ∷ 6 ∷ 0 ∷ 2 ∷ 0 ∷ 4 ∷ 0 ∷ 7 ∷ 0 ∷ 0 ∷ 0 ∷ 1 ∷ 0 ∷ []

-- record by record, and where the next one starts
first_read : read_record input ≡ Some (column 0 0)
unfolding read_record is_whole body_of record_in column_in field
first_read = refl

first-size : record_size input ≡ 8
unfolding record_size field
first-size = refl

second-read : read_record (drop 8 input) ≡ Some (column 1 1)
unfolding read_record is_whole body_of record_in column_in field
second-read = refl

third-read : read_record (drop 16 input) ≡ Some (operation 7 (1 ∷ []))
unfolding read_record is_whole body_of record_in operation_in wide_field fields field table
third-read = refl

third-size : record_size (drop 16 input) ≡ 10
unfolding record_size field
third-size = refl

fourth-read : read_record (drop 26 input) ≡ Some (equal_pair 0 1)
unfolding read_record is_whole body_of record_in equal_pair_in field
fourth-read = refl

fifth_read : read_record (drop 34 input) ≡ Some (normal_form_of 2)
unfolding read_record is_whole body_of record_in normal_form_in field
fifth_read = refl

fifth_size : record_size (drop 34 input) ≡ 6
unfolding record_size field
fifth_size = refl

sixth_read : read_record (drop 40 input) ≡ Some (equality_of 0 1)
unfolding read_record is_whole body_of record_in equality_in field
sixth_read = refl

-- nothing is left
all_read : drop 48 input ≡ []
all_read = refl

-- the other kinds: a literal, a constant, an ordering of two keys
literal-read : read_record (4 ∷ 0 ∷ 2 ∷ 0 ∷ 1 ∷ 2 ∷ 3 ∷ 4 ∷ []) ≡ Some (literal 67305985)
unfolding read_record is_whole body_of record_in literal_in wide_field field
literal-read = refl

constant-read : read_record (8 ∷ 0 ∷ 5 ∷ 0 ∷ 1 ∷ 0 ∷ 2 ∷ 0 ∷ 9 ∷ 0 ∷ 0 ∷ 0 ∷ []) ≡ Some (constant 1 2 9)
unfolding read_record is_whole body_of record_in constant_in wide_field field
constant-read = refl

ordering-read : read_record (8 ∷ 0 ∷ 8 ∷ 0 ∷ 1 ∷ 0 ∷ 0 ∷ 0 ∷ 2 ∷ 0 ∷ 3 ∷ 0 ∷ []) ≡ Some (one_ordering ((1, 0) ∷ (2, 3) ∷ []))
unfolding read_record is_whole body_of record_in ordering_in keys_in field table
ordering-read = refl

-- malformed: a kind 9, a kind 16, a cut header, a cut body, a column of three bytes
kind-9 : read_record (4 ∷ 0 ∷ 9 ∷ 0 ∷ 0 ∷ 0 ∷ 0 ∷ 0 ∷ []) ≡ None
unfolding read_record is_whole body_of record_in field
kind-9 = refl

kind-16 : read_record (2 ∷ 0 ∷ 16 ∷ 0 ∷ 0 ∷ 0 ∷ []) ≡ None
unfolding read_record is_whole body_of record_in field
kind-16 = refl

header-cut : read_record (4 ∷ 0 ∷ 1 ∷ []) ≡ None
unfolding read_record is_whole field
header-cut = refl

body_cut : read_record (4 ∷ 0 ∷ 1 ∷ 0 ∷ 0 ∷ 0 ∷ 0 ∷ []) ≡ None
unfolding read_record is_whole field
body_cut = refl

three-bytes : read_record (3 ∷ 0 ∷ 1 ∷ 0 ∷ 0 ∷ 0 ∷ 0 ∷ []) ≡ None
unfolding read_record is_whole body_of record_in column_in field
three-bytes = refl

-- two group records, each with one byte after it: LeftSemi keeps the first, RightMark the second, without what stands after
abbrev one : List ℕ
one = 2 ∷ 0 ∷ 16 ∷ 0 ∷ 0 ∷ 0 ∷ 5 ∷ []

abbrev other : List ℕ
other = 3 ∷ 0 ∷ 16 ∷ 0 ∷ 7 ∷ 7 ∷ 7 ∷ 5 ∷ []

left-kept : chosen_part 4 one other ≡ 2 ∷ 0 ∷ 16 ∷ 0 ∷ 0 ∷ 0 ∷ []
unfolding chosen_part part_of side_of group_part is_group_record is_whole record_size field
left-kept = refl

right_kept : chosen_part 9 one other ≡ 3 ∷ 0 ∷ 16 ∷ 0 ∷ 7 ∷ 7 ∷ 7 ∷ []
unfolding chosen_part part_of side_of group_part is_group_record is_whole record_size field
right_kept = refl

-- 12 for kind 3 and kind 10, 9 for a column's record
kind_3 : chosen_number 3 one other ≡ 12
unfolding chosen_number number_of side_of
kind_3 = refl

kind-10 : chosen_number 10 one other ≡ 12
unfolding chosen_number number_of side_of
kind-10 = refl

no_group-record : chosen_number 4 input other ≡ 9
unfolding chosen_number number_of side_of is_group_record is_whole field
no_group-record = refl
