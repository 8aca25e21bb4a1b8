-- What the public call answers and what it leaves in the arena, over the lent cells, the struct and the lent mapping, in document 01's order of refusals.
-- A refusal is a case that hands back what came in.
use Rattle.std.specs.Prelude.{ℕ, List, eqb, if◌then◌else◌, Option, Err}
use Rattle.arena.specs.Refusals.{refusal}
use Rattle.arena.specs.Node.{Node}
use Rattle.arena.specs.Arena.{Placed, placed, full}
use Rattle.arena.specs.Layout.{decode as nodes}
use Rattle.arena.specs.Calls.{in_cells}
use Rattle.classes.specs.Layout.{decode}
use Rattle.classes.specs.declared.Group.{Group}
use Rattle.classes.specs.declared.Changed.{Changed}
use Rattle.merging.specs.Calls.{refused_group, made_or_refused}
use Rattle.mappings.specs.Mapping.{Mapped}
use Rattle.mappings.specs.Lent.{mapping_lent}
use Rattle.mappings.specs.Calls.{project_number}
use Rattle.group_projection.specs.Group.{projected_numbers, projected_group}

-- the projected group once the nodes are there, or 3, and then the group and the arena are as they were
unfoldable pub project_placed : List Mapped → Group → List Node → Placed (List (Option ℕ) × List ℕ) → Changed × List Node
project_placed ps g ns (placed kj os) = made_or_refused g ns os (projected_group os (decode g) ps kj.0 kj.1)
project_placed ps g ns full = refused_group 3 g ns

-- the projection of a group by a mapping
unfoldable pub project_by : List Mapped → Group → List Node → Changed × List Node
project_by ps g ns = project_placed ps g ns (projected_numbers ns (decode g) ps)

-- the call on lent cells
unfoldable pub project_answer : List ℕ → Group → List ℕ → Changed × List ℕ
project_answer cells g numbers =
    if eqb (project_number cells g numbers) 0 then in_cells (project_by (mapping_lent numbers) g (nodes cells))
    else (record { answer = Err (refusal (project_number cells g numbers)); group = g }, cells)
