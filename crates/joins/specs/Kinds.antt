-- The ten kinds of join: 0 Inner, 1 Left, 2 Full, 3 Right, 4 LeftSemi, 5 LeftAnti, 6 LeftMark, 7 RightSemi, 8 RightAnti, 9 RightMark.
use Rattle.std.specs.Prelude.{ℕ, ◌||◌, eqb, leb}
use Rattle.joins.specs.declared.JoinKind.{JoinKind}

-- what a kind keeps: left but for the right kinds, right but for the left ones; the first four shift the right side, and Inner uses the pairs
unfoldable pub join_kind : ℕ → JoinKind
join_kind kind = record { left = leb kind 6; right = leb kind 3 || leb 7 kind; shifted = leb kind 3; pairs = eqb kind 0 }
