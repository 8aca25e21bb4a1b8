-- The check of a list of classes that is lent, in document 01's order of refusals.
use Rattle.std.specs.Prelude.{ℕ, ◌&&◌, List, length, if◌then◌else◌}
use Rattle.arena.specs.Layout.{lawful, decode as nodes}
use Rattle.classes.specs.Steps.{fits}
use Rattle.lent_classes.specs.Lent.{flavours_known, whole, members_apart, literals_uniform, members_below, classes_lent}

-- the check of a list of classes lent as numbers: 12, 11 for the arena or the list, 1, 4 for the list as it comes, else 0
unfoldable pub new_number : List ℕ → List ℕ → ℕ
new_number cells numbers =
    if flavours_known numbers then
    (if lawful cells && (whole numbers && members_apart numbers && literals_uniform (nodes cells) numbers) then
    (if members_below (length (nodes cells)) numbers then
    (if fits 256 (classes_lent numbers) then 0 else 4)
    else 1)
    else 11)
    else 12
