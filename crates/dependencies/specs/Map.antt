-- A dependency map: its keys in order of arrival, each with a target, if it has one, and the keys that it depends on.
-- A key is an expression and options 0 to 3, as one number: expression · 4 + options.
use Rattle.std.specs.Prelude.{ℕ, Bool, ◌&&◌, List, [], ◌∷◌, ◌++◌, eqb, leb, length, get_or, set, if◌then◌else◌, Option, None, Some}
use Rattle.laws.specs.Tests.{each, first}
use Rattle.classes.specs.Group.{among}

-- a key of the map, its target, and what it depends on
pub record Dependent : Type 0 where
  pub key : ℕ
  pub target : Option ℕ
  pub dependencies : List ℕ

-- the entry at a place; past the end, which no call asks for, an empty one
abbrev pub entry_at : List Dependent → ℕ → Dependent
entry_at ds i = get_or ds i (record { key = 0; target = None; dependencies = [] })

-- the place of a key
unfoldable pub place_of : List Dependent → ℕ → Option ℕ
place_of ds k = first (λ i. eqb (entry_at ds i).key k) (length ds)

-- a dependency is added once
unfoldable pub with_dependency : List ℕ → Option ℕ → List ℕ
with_dependency ks None = ks
with_dependency ks (Some k) = if among k ks then ks else ks ++ (k ∷ [])

-- an insert, where the place of the key is known: a key that is there keeps its first target
unfoldable pub inserted_at : List Dependent → ℕ → Option ℕ → Option ℕ → Option ℕ → List Dependent
inserted_at ds k target dependency (Some i) =
    set ds i (record { key = (entry_at ds i).key; target = (entry_at ds i).target; dependencies = with_dependency (entry_at ds i).dependencies dependency })
inserted_at ds k target dependency None = ds ++ (record { key = k; target = target; dependencies = with_dependency [] dependency } ∷ [])

-- an insert of a key with its target and a dependency, if there are such
unfoldable pub inserted : List Dependent → ℕ → Option ℕ → Option ℕ → List Dependent
inserted ds k target dependency = inserted_at ds k target dependency (place_of ds k)

-- at most 64 keys with at most 16 dependencies each (else 5)
unfoldable pub fits : List Dependent → Bool
fits ds = leb (length ds) 64 && each (λ i. leb (length (entry_at ds i).dependencies) 16) (length ds)
