-- What the inner functions ask and promise each other. The public contract cites nothing of this file.
use Rattle.std.specs.Prelude.{ℕ, ◌≤◌, Bool, true, Ok, Err, ◌&&◌, List, [], ◌≡◌, length, if◌then◌else◌, Option, None, Some}
use Rattle.arena.specs.declared.Refusal.{Refusal}
use Rattle.arena.specs.declared.Refusal.TheVariants.{GroupFull}
use Rattle.arena.specs.Node.{Node}
use Rattle.arena.specs.Arena.{Placed, placed, full}
use Rattle.arena.specs.Layout.{decode as nodes}
use Rattle.arena.specs.Inner.{Holds}
use Rattle.shifting.specs.Inner.{lifted}
use Rattle.classes.specs.Class.{Class}
use Rattle.classes.specs.Layout.{decode, members_inside}
use Rattle.classes.specs.Inner.{Held}
use Rattle.classes.specs.declared.Group.{Group}
use Rattle.classes.specs.declared.Changed.{Changed}
use Rattle.merging.specs.Calls.{made_group}
use Rattle.merging.specs.Inner.{AllBelow}
use Rattle.shifted_classes.specs.Lent.{sides_below, pairs_lent}
use Rattle.shifted_classes.specs.Shifting.{all_move, shifted_numbers}
use Rattle.shifted_classes.specs.Inner.{rights_lent}
use Rattle.joins.specs.Joining.{with_rights, equated_all, to_shift}
use Rattle.joins.specs.Calls.{join_placed}

-- members and sides are in the arena: 0, else 1
unfoldable pub sides_number : List Node → Group → Group → List ℕ → ℕ
sides_number ns left right numbers = if members_inside ns left && members_inside ns right && sides_below (length ns) numbers then 0 else 1

-- the numbers that were placed; none where there was no room
unfoldable pub numbers_of : Placed (List ℕ) → List ℕ
numbers_of (placed ks ns) = ks
numbers_of full = []

-- the numbers of the expressions es shifted, in an arena that has them
abbrev pub rights_in : ℕ → List ℕ → List ℕ → List ℕ
rights_in lift s es = numbers_of (shifted_numbers (lifted lift) (nodes s) es (nodes s))

-- the arena has the shifted expressions already
abbrev pub There : ℕ → List ℕ → List ℕ → Type 0
There lift s es = shifted_numbers (lifted lift) (nodes s) es (nodes s) ≡ placed (rights_in lift s es) (nodes s)

-- the classes as a group that was made, or 4 with the group as it was
unfoldable pub made_or : Group → Option (List Class) → Changed
made_or g (Some cs) = made_group cs
made_or g None = record { answer = Err GroupFull; group = g }

-- a group after lent pairs with their right sides shifted
unfoldable pub equated_of : ℕ → List ℕ → Group → List ℕ → Changed
equated_of lift s g numbers = made_or g (equated_all (nodes s) (with_rights (pairs_lent numbers) (rights_in lift s (rights_lent numbers))) (decode g))

-- two groups and pairs that are checked
pub record BothHeld (s : List ℕ) (left right : Group) (numbers : List ℕ) : Type 0 where
  pub holds : Holds s
  pub left-held : Held (nodes s) left
  pub right-held : Held (nodes s) right
  pub sides : AllBelow (length (nodes s)) numbers

-- the same, and everything that is to be shifted can move by a lift
pub record JoinReady (lift : ℕ) (s : List ℕ) (left right : Group) (numbers : List ℕ) : Type 0 where
  pub held : BothHeld s left right numbers
  pub small : lift ≤ 200000
  pub moves : all_move (lifted lift) (nodes s) (to_shift (decode right) (pairs_lent numbers)) ≡ true

-- what a join by a lift promises: what document 01 says of it; after a refusal the arena may have grown
pub record Joined (lift : ℕ) (s t : List ℕ) (left right : Group) (numbers : List ℕ) (r : Changed) : Type 0 where
  pub holds : Holds t
  pub done : (b : Bool) → r.answer ≡ Ok b → (r, nodes t) ≡ join_placed left (decode right) (pairs_lent numbers) (nodes s) (shifted_numbers (lifted lift) (nodes s) (to_shift (decode right) (pairs_lent numbers)) (nodes s))
  pub refused : (why : Refusal) → r.answer ≡ Err why → (record { answer = Err why; group = left }, nodes s) ≡ join_placed left (decode right) (pairs_lent numbers) (nodes s) (shifted_numbers (lifted lift) (nodes s) (to_shift (decode right) (pairs_lent numbers)) (nodes s))
