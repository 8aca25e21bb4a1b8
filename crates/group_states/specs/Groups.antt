-- A group in 451 cells: limit, classes, members; for each of 64 classes its size, its flavour, its value; 256 places for members.
use Rattle.std.specs.Prelude.{ℕ, List, ◌∷◌, ◌++◌, get_or}
use Rattle.classes.specs.declared.Group.{Group}
use Rattle.classes.specs.declared.Changed.{Changed}
use Rattle.states.specs.Cells.{part, told}

-- the struct in the cells
unfoldable pub group_from : List ℕ → Group
group_from cells =
    record {
      limit = get_or cells 0 0;
      count = get_or cells 1 0;
      used = get_or cells 2 0;
      sizes = part cells 3 64;
      flavours = part cells 67 64;
      values = part cells 131 64;
      members = part cells 195 256;
    }

-- the cells of a struct
unfoldable pub group_cells : Group → List ℕ
group_cells g = g.limit ∷ g.count ∷ g.used ∷ (g.sizes ++ (g.flavours ++ (g.values ++ g.members)))

-- what a call that hands back a group returns, and the cells afterwards: a refusal leaves them as they were
unfoldable pub stored_group : List ℕ → Changed → ℕ × List ℕ
stored_group cells c = told (λ _. group_cells c.group) cells c.answer
