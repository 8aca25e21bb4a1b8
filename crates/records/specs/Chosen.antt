-- For join kinds 4 to 9: which of two lent group records a join keeps, as a part of the caller's bytes. The body is not read.
use Rattle.std.specs.Prelude.{ℕ, Bool, ◌&&◌, List, [], eqb, ltb, take, if◌then◌else◌, Option, None, Some}
use Rattle.records.specs.Fields.{field}
use Rattle.records.specs.Record.{is_whole, record_size}

-- a group record by its header alone: whole, and of kind 16
unfoldable pub is_group_record : List ℕ → Bool
is_group_record bytes = is_whole bytes && eqb (field bytes 2) 16

-- the 4 header bytes and the body, nothing after; the empty part where it is none
unfoldable pub group_part : List ℕ → List ℕ
group_part bytes = if is_group_record bytes then take (record_size bytes) bytes else []

-- the side that a join kind keeps whole: LeftSemi, LeftAnti and LeftMark the left one, RightSemi, RightAnti and RightMark the right one; no other kind keeps one
unfoldable pub side_of : {A : Type 0} → ℕ → A → A → Option A
side_of kind left right =
    if ltb kind 4 then None else
    (if ltb kind 7 then Some left else
    (if ltb kind 10 then Some right else None))

-- the part that is handed back
unfoldable pub part_of : Option (List ℕ) → List ℕ
part_of None = []
part_of (Some bytes) = group_part bytes

unfoldable pub chosen_part : ℕ → List ℕ → List ℕ → List ℕ
chosen_part kind left right = part_of (side_of kind left right)

-- what an empty part stands for: 12 for a kind under 4 or over 9, 9 for a record that is none; 0 where there is a part
unfoldable pub number_of : Option (List ℕ) → ℕ
number_of None = 12
number_of (Some bytes) = if is_group_record bytes then 0 else 9

unfoldable pub chosen_number : ℕ → List ℕ → List ℕ → ℕ
chosen_number kind left right = number_of (side_of kind left right)
