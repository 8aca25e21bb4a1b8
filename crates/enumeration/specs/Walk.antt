-- The walk over a dependency map: which orderings lead to a key, each pair of target and dependency expanded once.
use Rattle.std.specs.Prelude.{ℕ, zero, suc, ◌+◌, Bool, false, ◌&&◌, ◌||◌, List, [], ◌∷◌, ◌++◌, map, eqb, length, if◌then◌else◌, Option, None, Some}
use Rattle.orderings.specs.Ordering.{pushed}
use Rattle.dependencies.specs.Map.{Dependent, entry_at, place_of}

-- what a walk comes to: the orderings that were found and the pairs of target and dependency that were expanded; or it stops with 6 or 7
pub data Walk : Type 0 where
  found : List (List ℕ) → List (ℕ × ℕ) → Walk
  stopped : ℕ → Walk

-- a walk goes on after another, unless that stopped
unfoldable pub go_on : Walk → (List (List ℕ) → List (ℕ × ℕ) → Walk) → Walk
go_on (found os seen) f = f os seen
go_on (stopped k) f = stopped k

-- a pair was expanded
unfoldable pub is_seen : ℕ → ℕ → List (ℕ × ℕ) → Bool
is_seen t d [] = false
is_seen t d (p ∷ ps) = (eqb p.0 t && eqb p.1 d) || is_seen t d ps

-- over the dependencies of a target, by an account `at` of the walk from each: a pair that was expanded gives nothing, another is expanded, and the target is pushed to what is found
unfoldable pub over_dependencies : (ℕ → List (ℕ × ℕ) → Walk) → ℕ → List ℕ → List (ℕ × ℕ) → Walk
over_dependencies at t [] seen = found [] seen
over_dependencies at t (d ∷ ds) seen =
    if is_seen t d seen then over_dependencies at t ds seen
    else go_on (at d (seen ++ ((t, d) ∷ []))) (λ os s. go_on (over_dependencies at t ds s) (λ ps u. found (map (λ (o : List ℕ). pushed o t) os ++ ps) u))

-- at a key with a target: the target alone where it depends on nothing
unfoldable pub at_target : (ℕ → List (ℕ × ℕ) → Walk) → ℕ → List ℕ → List (ℕ × ℕ) → Walk
at_target at t [] seen = found ((t ∷ []) ∷ []) seen
at_target at t (d ∷ ds) seen = over_dependencies at t (d ∷ ds) seen

-- at an entry: 7 where it has no target
unfoldable pub at_entry : (ℕ → List (ℕ × ℕ) → Walk) → Option ℕ → List ℕ → List (ℕ × ℕ) → Walk
at_entry at None ds seen = stopped 7
at_entry at (Some t) ds seen = at_target at t ds seen

-- at a place of the map: 6 where the key has none
unfoldable pub at_place : (ℕ → List (ℕ × ℕ) → Walk) → List Dependent → Option ℕ → List (ℕ × ℕ) → Walk
at_place at m None seen = stopped 6
at_place at m (Some i) seen = at_entry at (entry_at m i).target (entry_at m i).dependencies seen

-- the walk from a key, through at most n pairs one below the other. Each pair is expanded once, so a map with fewer pairs never uses n up: every larger n gives the same (proofs/WalkLaws.antt, never-left and walk-from)
unfoldable pub constructed : ℕ → List Dependent → ℕ → List (ℕ × ℕ) → Walk
constructed zero m k seen = stopped 0
constructed (suc n) m k seen = at_place (constructed n m) m (place_of m k) seen

-- how many pairs of target and dependency a map has at most
unfoldable pub pairs : List Dependent → ℕ
pairs [] = 0
pairs (d ∷ ds) = length d.dependencies + pairs ds

-- the walk from a key: each pair is expanded once, so no way down is longer than there are pairs
unfoldable pub construct_orderings : List Dependent → ℕ → List (ℕ × ℕ) → Walk
construct_orderings m k seen = constructed (suc (pairs m)) m k seen

-- from each of some keys, one after the other, by one account of the pairs
unfoldable pub over_start : List Dependent → List ℕ → List (ℕ × ℕ) → Walk
over_start m [] seen = found [] seen
over_start m (d ∷ ds) seen = go_on (construct_orderings m d seen) (λ os s. go_on (over_start m ds s) (λ ps u. found (os ++ ps) u))

-- the prefix orderings of a key: it must be in the map (6) but needs no target
unfoldable pub prefix_orderings : List Dependent → ℕ → Walk
prefix_orderings m k = start_at (place_of m k)
  where
    start_at : Option ℕ → Walk
    start_at None = stopped 6
    start_at (Some i) = over_start m (entry_at m i).dependencies []
