-- Shifting a list of orderings by a signed offset: every key's expression is shifted, options stay, and the missing nodes are added one key after the other.
use Rattle.std.specs.Prelude.{ℕ, ◌+◌, ◌*◌, Bool, true, ◌&&◌, List, [], ◌∷◌, Option}
use Rattle.arena.specs.Node.{Node}
use Rattle.arena.specs.Expression.{expression_at}
use Rattle.arena.specs.Arena.{Placed, placed, and_then, add_expression}
use Rattle.shifting.specs.Shift.{can_move, shifted}
use Rattle.orderings.specs.Ordering.{expr_of, options_of, built}

-- every key's expression can move
unfoldable pub keys_move : (ℕ → Option ℕ) → List Node → List ℕ → Bool
keys_move to ns [] = true
keys_move to ns (k ∷ ks) = can_move to (expression_at ns (expr_of k)) && keys_move to ns ks

-- every key's expression of every ordering can move
unfoldable pub lists_move : (ℕ → Option ℕ) → List Node → List (List ℕ) → Bool
lists_move to ns [] = true
lists_move to ns (o ∷ os) = keys_move to ns o && lists_move to ns os

-- the shifted keys of one ordering, over the arena ns as it was and ms as it has grown
unfoldable pub shifted_keys : (ℕ → Option ℕ) → List Node → List ℕ → List Node → Placed (List ℕ)
shifted_keys to ns [] ms = placed [] ms
shifted_keys to ns (k ∷ ks) ms =
    and_then (add_expression (shifted to (expression_at ns (expr_of k))) ms)
    (λ e os. and_then (shifted_keys to ns ks os) (λ rest ps. placed ((e * 4 + options_of k) ∷ rest) ps))

-- the shifted orderings, each built from its shifted keys
unfoldable pub shifted_lists : (ℕ → Option ℕ) → List Node → List (List ℕ) → List Node → Placed (List (List ℕ))
shifted_lists to ns [] ms = placed [] ms
shifted_lists to ns (o ∷ os) ms =
    and_then (shifted_keys to ns o ms)
    (λ ks ps. and_then (shifted_lists to ns os ps) (λ rest qs. placed (built ks ∷ rest) qs))
