-- What the functions that write a group ask: every number fits its cell.
use Rattle.classes.specs.Calls.{changed_number}
use Rattle.std.specs.Prelude.{ℕ, ◌<◌, List, ◌≡◌, get_or}
use Rattle.classes.specs.declared.Group.{Group}
use Rattle.classes.specs.declared.Changed.{Changed}

-- every number of a list is below a bound
abbrev pub AllBelow : ℕ → List ℕ → Type 0
AllBelow bound xs = (k : ℕ) → get_or xs k 0 < bound

-- a group's limit, counts and sizes fit 32 bits
pub record GroupFits (g : Group) : Type 0 where
  pub limit : g.limit < 4294967296
  pub count : g.count < 4294967296
  pub used : g.used < 4294967296
  pub sizes : AllBelow 4294967296 g.sizes

-- so do those of a group that is handed back, unless it is refused
abbrev pub FitsIfDone : Changed → Type 0
FitsIfDone c = changed_number c ≡ 0 → GroupFits c.group
