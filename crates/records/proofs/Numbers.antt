-- The number of a refusal that `chosen_number` and `group_number` answer stands in the table of refusals.
use Rattle.std.proofs.Common.{ℕ, List, refl}
use Rattle.std.specs.Prelude.{Option, None, Some}
use Rattle.arena.specs.Refusals.{refusal, outcome}
use Rattle.arena.proofs.Refusals.{Listed, listed-if}
use Rattle.records.specs.Chosen.{is_group_record, side_of, number_of, chosen_number}

-- of one side
pub number_of-listed : (side : Option (List ℕ)) → Listed (number_of side)
unfolding number_of outcome refusal
number_of-listed None = refl
number_of-listed (Some bytes) = listed-if (is_group_record bytes) 0 9 refl refl

-- and of the side that a kind keeps
pub chosen_number-listed : (kind : ℕ) (left right : List ℕ) → Listed (chosen_number kind left right)
unfolding chosen_number
chosen_number-listed kind left right = number_of-listed (side_of kind left right)
