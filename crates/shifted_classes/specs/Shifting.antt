-- The right side of a join shifted behind the left one: which expressions can move, their numbers, and the shifted classes.
use Rattle.std.specs.Prelude.{ℕ, Bool, true, ◌&&◌, List, [], ◌∷◌, length, take, drop, Option}
use Rattle.arena.specs.Node.{Node}
use Rattle.arena.specs.Expression.{expression_at}
use Rattle.arena.specs.Arena.{Placed, placed, and_then, add_expression}
use Rattle.shifting.specs.Shift.{can_move, shifted}
use Rattle.classes.specs.Class.{Class}
use Rattle.merging.specs.Extending.{class_from}

-- every one of these expressions can move
unfoldable pub all_move : (ℕ → Option ℕ) → List Node → List ℕ → Bool
all_move to ns [] = true
all_move to ns (e ∷ es) = can_move to (expression_at ns e) && all_move to ns es

-- the numbers of these expressions shifted, over the arena ns as it was and ms as it has grown: the missing nodes are added one expression after the other
unfoldable pub shifted_numbers : (ℕ → Option ℕ) → List Node → List ℕ → List Node → Placed (List ℕ)
shifted_numbers to ns [] ms = placed [] ms
shifted_numbers to ns (e ∷ es) ms =
    and_then (add_expression (shifted to (expression_at ns e)) ms) (λ k os. and_then (shifted_numbers to ns es os) (λ ks ps. placed (k ∷ ks) ps))

-- shifted classes, from the numbers of their members shifted in class order: each is built from its own, so it has its first literal's constant or none
unfoldable pub shifted_classes : List Node → List Class → List ℕ → List Class
shifted_classes ns [] ks = []
shifted_classes ns (c ∷ cs) ks = class_from ns (take (length c.members) ks) ∷ shifted_classes ns cs (drop (length c.members) ks)
