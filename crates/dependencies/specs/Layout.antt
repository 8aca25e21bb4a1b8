-- How a dependency map lies in its struct, and which structs are one. The one file that speaks of the struct.
-- A place for each of 64 keys: the key, whether it has a target, the target, the number of its dependencies and 16 places for them. Every unused place is 0.
use Rattle.std.specs.Prelude.{ℕ, ◌+◌, ◌-◌, Bool, true, false, not, ◌&&◌, ◌||◌, List, [], ◌++◌, map, eqb, ltb, leb, length, get_or, replicate, if◌then◌else◌, Option, None, Some}
use Rattle.laws.specs.Lists.{table}
use Rattle.laws.specs.Tests.{each}
use Rattle.classes.specs.Layout.{fresh}
use Rattle.orderings.specs.Ordering.{expr_of}
use Rattle.dependencies.specs.Map.{Dependent}
use Rattle.dependencies.specs.declared.DependencyNode.{DependencyNode}
use Rattle.dependencies.specs.declared.DependencyMap.{DependencyMap}

-- there is a target
unfoldable pub is_there : Option ℕ → Bool
is_there None = false
is_there (Some t) = true

-- the number of a target; 0 where there is none
unfoldable pub number_or0 : Option ℕ → ℕ
number_or0 None = 0
number_or0 (Some t) = t

-- an entry as its struct
unfoldable pub row : Dependent → DependencyNode
row d =
    record {
      key = d.key;
      projected = is_there d.target;
      target = number_or0 d.target;
      size = length d.dependencies;
      dependencies = d.dependencies ++ replicate (16 - length d.dependencies) 0;
    }

-- the entry in such a struct
unfoldable pub entry_of : DependencyNode → Dependent
entry_of r =
    record {
      key = r.key;
      target = if r.projected then Some r.target else None;
      dependencies = table (λ k. get_or r.dependencies k 0) r.size;
    }

-- an unused place
abbrev pub unused : DependencyNode
unused = row (record { key = 0; target = None; dependencies = [] })

-- a map as its struct
unfoldable pub encode : List Dependent → DependencyMap
encode ds = record { count = length ds; list = map row ds ++ replicate (64 - length ds) unused }

-- place i of a struct
abbrev pub place_in : DependencyMap → ℕ → DependencyNode
place_in m i = get_or m.list i unused

-- the map in a struct
unfoldable pub decode : DependencyMap → List Dependent
decode m = table (λ i. entry_of (place_in m i)) m.count

-- the places for dependencies after those that are used are 0
unfoldable pub rest_unused : DependencyNode → Bool
rest_unused r = each (λ k. eqb (get_or r.dependencies (r.size + k) 0) 0) (16 - r.size)

-- an entry: at most 16 dependencies, none twice, a target number only where there is a target, unused places 0
unfoldable pub lawful_entry : DependencyNode → Bool
lawful_entry r = leb r.size 16 && each (λ k. fresh r.dependencies k) r.size && (r.projected || eqb r.target 0) && rest_unused r

-- an unused place: everything 0
unfoldable pub unused_entry : DependencyNode → Bool
unused_entry r = eqb r.key 0 && not r.projected && eqb r.target 0 && eqb r.size 0 && rest_unused r

-- the key at a place does not stand before it
unfoldable pub fresh_key : DependencyMap → ℕ → Bool
fresh_key m k = each (λ i. not (eqb (place_in m i).key (place_in m k).key)) k

-- document 01's rule 11 for a lent map (else 11): at most 64 keys, none twice, each entry lawful, the other places unused
unfoldable pub lawful_map : DependencyMap → Bool
lawful_map m =
    leb m.count 64
    && each (λ i. lawful_entry (place_in m i)) m.count
    && each (λ i. fresh_key m i) m.count
    && each (λ i. unused_entry (place_in m (m.count + i))) (64 - m.count)

-- the expressions of an entry's key, target and dependencies are among the first n
unfoldable pub entry_inside : ℕ → DependencyNode → Bool
entry_inside n r = ltb (expr_of r.key) n && ltb (expr_of r.target) n && each (λ k. ltb (expr_of (get_or r.dependencies k 0)) n) r.size

-- so are those of all entries (else 1), after 11. A target that is not there is 0, the first expression
unfoldable pub keys_inside : ℕ → DependencyMap → Bool
keys_inside n m = each (λ i. entry_inside n (place_in m i)) m.count
