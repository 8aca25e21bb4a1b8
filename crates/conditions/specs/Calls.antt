-- A call with a constant, over the lent cells and the struct. An equal condition and clearing are a call on a lent group (`onGroup`) with their step.
use Rattle.std.specs.Prelude.{ℕ, ◌+◌, Bool, true, ◌&&◌, ◌||◌, List, eqb, leb, if◌then◌else◌, Err}
use Rattle.arena.specs.declared.Refusal.TheVariants.{BadNumber}
use Rattle.classes.specs.Layout.{constant_from}
use Rattle.classes.specs.Calls.{on_group}
use Rattle.classes.specs.declared.Group.{Group}
use Rattle.classes.specs.declared.Changed.{Changed}
use Rattle.conditions.specs.Steps.{add_constant}

-- a constant that a call says: flavour 0 heterogeneous, 1 unknown, 2 known; a value other than 0 only where it is known
unfoldable pub sayable : ℕ → ℕ → Bool
sayable flavour value = leb flavour 2 && (eqb flavour 2 || eqb value 0)

-- a call with a constant: 12 for one that is outside its set comes first
unfoldable pub on_constant : ℕ → ℕ → ℕ → List ℕ → Group → Changed
on_constant e flavour value cells g =
    if sayable flavour value then on_group (λ ns cs. add_constant true g.limit ns e (constant_from (flavour + 1) value) cs) cells g
    else record { answer = Err BadNumber; group = g }
