-- What the public call answers and what it leaves in the arena, in document 01's order of refusals.
-- A refusal is a case that hands back what came in.
use Rattle.std.specs.Prelude.{ℕ, Err, ◌&&◌, List, [], ◌++◌, eqb, leb, pos, length, if◌then◌else◌}
use Rattle.arena.specs.Refusals.{refusal}
use Rattle.arena.specs.Node.{Node}
use Rattle.arena.specs.Arena.{Placed, placed, full}
use Rattle.shifting.specs.Shift.{moved}
use Rattle.arena.specs.Layout.{lawful, decode as nodes}
use Rattle.arena.specs.Calls.{in_cells}
use Rattle.classes.specs.Class.{Class}
use Rattle.classes.specs.Layout.{decode, in_set, lawful_group, members_inside}
use Rattle.classes.specs.declared.Group.{Group}
use Rattle.classes.specs.declared.Changed.{Changed}
use Rattle.merging.specs.Calls.{made_group, refused_group, made_or_refused}
use Rattle.shifted_classes.specs.Lent.{paired, sides_below, pairs_lent}
use Rattle.joins.specs.Kinds.{join_kind}
use Rattle.shifted_classes.specs.Shifting.{all_move, shifted_numbers}
use Rattle.joins.specs.Joining.{to_shift, joined_over}

-- the check of two lent groups, a kind and pairs: 12 for the kind or either group, 11 for the arena, either group or a left side alone, then 1 for a member of either or a side, else 0
unfoldable pub join_number : List ℕ → Group → Group → ℕ → List ℕ → ℕ
join_number cells left right kind numbers =
    if leb kind 9 && in_set left && in_set right then
    (if lawful cells && (lawful_group (nodes cells) left && lawful_group (nodes cells) right && paired numbers) then
    (if members_inside (nodes cells) left && members_inside (nodes cells) right && sides_below (length (nodes cells)) numbers then 0 else 1)
    else 11)
    else 12

-- the joined classes once the nodes are there, or 3, and then the left group and the arena are as they were
unfoldable pub join_placed : Group → List Class → List (ℕ × ℕ) → List Node → Placed (List ℕ) → Changed × List Node
join_placed left rs ps ns (placed ks ms) = made_or_refused left ns ms (joined_over ms (decode left) rs ps ks)
join_placed left rs ps ns full = refused_group 3 left ns

-- a join that shifts the right side by the number of left columns: 10 where a column leaves 0..65,535
unfoldable pub join_shifted : Group → List Class → ℕ → List (ℕ × ℕ) → List Node → Changed × List Node
join_shifted left rs size ps ns =
    if all_move (moved (pos size)) ns (to_shift rs ps) then join_placed left rs ps ns (shifted_numbers (moved (pos size)) ns (to_shift rs ps) ns)
    else refused_group 10 left ns

-- a join by its kind: shifted, or the classes of the sides that are kept as they are
unfoldable pub join_by : Group → Group → ℕ → ℕ → List (ℕ × ℕ) → List Node → Changed × List Node
join_by left right kind size ps ns =
    if (join_kind kind).shifted then join_shifted left (decode right) size (if (join_kind kind).pairs then ps else []) ns
    else (made_group ((if (join_kind kind).left then decode left else []) ++ (if (join_kind kind).right then decode right else [])), ns)

-- the call on lent cells
unfoldable pub join_answer : List ℕ → Group → Group → ℕ → ℕ → List ℕ → Changed × List ℕ
join_answer cells left right kind size numbers =
    if eqb (join_number cells left right kind numbers) 0 then in_cells (join_by left right kind size (pairs_lent numbers) (nodes cells))
    else (record { answer = Err (refusal (join_number cells left right kind numbers)); group = left }, cells)
