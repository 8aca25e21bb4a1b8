-- Joining two groups: the right side shifted behind the left one, `new` over both, and for Inner the pairs as equal conditions.
use Rattle.std.specs.Prelude.{ℕ, List, [], ◌∷◌, ◌++◌, map, length, drop, if◌then◌else◌, Option, None, Some}
use Rattle.arena.specs.Node.{Node}
use Rattle.classes.specs.Class.{Class}
use Rattle.classes.specs.Group.{equal_condition}
use Rattle.classes.specs.Good.{flat}
use Rattle.classes.specs.Steps.{fits}
use Rattle.merging.specs.Merging.{from_classes}
use Rattle.shifted_classes.specs.Shifting.{shifted_classes}

-- pairs with other right sides
unfoldable pub with_rights : List (ℕ × ℕ) → List ℕ → List (ℕ × ℕ)
with_rights [] ks = []
with_rights (p ∷ ps) [] = []
with_rights (p ∷ ps) (k ∷ ks) = (p.0, k) ∷ with_rights ps ks

-- pairs as equal conditions, one after the other, up to 256 members and 64 classes after each; none where one exceeds them
unfoldable pub equated_all : List Node → List (ℕ × ℕ) → List Class → Option (List Class)
equated_all ns [] cs = Some cs
equated_all ns (p ∷ ps) cs = if fits 256 (equal_condition ns cs p.0 p.1).1 then equated_all ns ps (equal_condition ns cs p.0 p.1).1 else None

-- `new` over a list and then the pairs; none where the list or a step exceeds the bounds
unfoldable pub joined_classes : List Node → List Class → List (ℕ × ℕ) → Option (List Class)
joined_classes ns cs ps = if fits 256 cs then equated_all ns ps (from_classes cs) else None

-- the expressions that are shifted: the right members in class order, then the right sides of the pairs that are used
unfoldable pub to_shift : List Class → List (ℕ × ℕ) → List ℕ
to_shift rs ps = flat rs ++ map (λ (p : ℕ × ℕ). p.1) ps

-- left and shifted right classes joined over the numbers ks of what was shifted
unfoldable pub joined_over : List Node → List Class → List Class → List (ℕ × ℕ) → List ℕ → Option (List Class)
joined_over ns ls rs ps ks = joined_classes ns (ls ++ shifted_classes ns rs ks) (with_rights ps (drop (length (flat rs)) ks))
