-- The definitions of shifting, tried on a small arena by computing them.
use Rattle.arena.specs.declared.Refusal.TheVariants.{IndexOutOfRange}
use Rattle.std.specs.Prelude.{Err, Ok}
use mathlib.Core.List.{[], ◌∷◌, ◌++◌}
use mathlib.Core.Path.{◌≡◌, refl}
use lib.IntN.{pos, negsuc}
use Rattle.laws.specs.Tests.{first, first_from}
use Rattle.laws.specs.Lists.{same_numbers}
use Rattle.arena.specs.Node.{column, operation, same_node, made, made_after}
use Rattle.arena.specs.Expression.{expressions, over, those}
use Rattle.arena.specs.Arena.{and_then, find, placed_at, add, add_expression, add_expressions}
use Rattle.shifting.specs.Shift.{within, moved, can_move, all_move, shifted, all_shifted}
use Rattle.arena.specs.Calls.{answered}
use Rattle.shifting.specs.Calls.{shifted_outcome, add_offset}
use Rattle.arena.proofs.Examples.{three}

-- shifted by 5: the moved columns first, left to right, then the operation over them
shift_five : add_offset 2 (pos 5) three ≡ (Ok 5, three ++ (column 0 5 ∷ column 1 6 ∷ operation 7 (3 ∷ 4 ∷ 3 ∷ []) ∷ []))
unfolding add_offset shifted_outcome can_move all_move shifted all_shifted moved within expressions made made_after over those add_expression add_expressions and_then add placed_at find first first_from same_node same_numbers answered
shift_five = refl

-- by 0 it is the old number; below 0 it is refused
shift_none : add_offset 2 (pos 0) three ≡ (Ok 2, three)
unfolding add_offset shifted_outcome can_move all_move shifted all_shifted moved within expressions made made_after over those add_expression add_expressions and_then add placed_at find first first_from same_node same_numbers answered
shift_none = refl

shift-below : add_offset 2 (negsuc 0) three ≡ (Err IndexOutOfRange, three)
unfolding add_offset shifted_outcome can_move all_move shifted all_shifted moved within expressions made made_after over those add_expression add_expressions and_then add placed_at find first first_from same_node same_numbers answered
shift-below = refl
