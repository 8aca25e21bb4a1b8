-- The check of everything that a projection is lent: an arena, a group and a mapping.
use Rattle.std.specs.Prelude.{ℕ, ◌&&◌, List, eqb, length, if◌then◌else◌}
use Rattle.arena.specs.Layout.{decode as nodes}
use Rattle.classes.specs.Layout.{in_set}
use Rattle.classes.specs.Calls.{group_number}
use Rattle.classes.specs.declared.Group.{Group}
use Rattle.mappings.specs.Mapping.{mapping_below}
use Rattle.mappings.specs.Lent.{targets_given, lawful_mapping, mapping_lent}

-- 12 for an empty target list or in the group, 11 for the mapping, the arena or the group, then 1 for a member, a source or a target, else 0
unfoldable pub project_number : List ℕ → Group → List ℕ → ℕ
project_number cells g numbers =
    if targets_given numbers && in_set g then
    (if lawful_mapping numbers then
    (if eqb (group_number cells g) 0 then
    (if mapping_below (length (nodes cells)) (mapping_lent numbers) then 0 else 1)
    else group_number cells g)
    else 11)
    else 12
