-- What the inner functions ask and promise each other. The public contracts cite nothing of this file.
-- The table of the projections is carried along: the crate projection_table says what its entries mean.
use Rattle.arena.specs.Refusals.{Added}
use Rattle.std.specs.Prelude.{ℕ, zero, suc, ◌+◌, ◌<◌, ◌≤◌, Bool, true, false, List, [], ◌∷◌, map, ◌≡◌, length, get_or, set, take, drop, Option, None, Some, Err, Ok}
use Rattle.arena.specs.Node.{Node}
use Rattle.arena.specs.Expression.{Expression, Expressions}
use Rattle.arena.specs.Arena.{Extends, Placed, placed, full, add_expression, add_expressions}
use Rattle.arena.specs.Layout.{children_of, decode as nodes}
use Rattle.arena.specs.Inner.{Holds, told, operation_row}
use Rattle.arena.specs.declared.Refusal.TheVariants.{ArenaFull}
use Rattle.projection.specs.Calls.{Projected}
use Rattle.projection_table.specs.Inner.{Tabled}
use Rattle.projection_table.specs.Projecting.{all_project, add_projections}

-- an entry as a projection that was placed
unfoldable pub answer_of : ℕ → Option ℕ
answer_of zero = None
answer_of (suc zero) = None
answer_of (suc (suc i)) = Some i

-- old nodes and their projections to which a table fits
pub record Fits (os : List Node) (xs : List (Option Expression)) (ns : List Node) (table : List ℕ) : Type 0 where
  pub extends : Extends os ns
  pub says : Tabled os xs ns table

-- what the walk at node e asks: the table fits some old nodes, e is one of them and has a projection
pub record Ready (s table : List ℕ) (e : ℕ) : Type 0 where
  pub olds : List Node
  pub all : List (Option Expression)
  pub holds : Holds s
  pub fits : Fits olds all (nodes s) table
  pub below : e < length olds
  pub projects : get_or table e 0 ≡ 0 → ⊥

-- from one table to the next, only entries that were open changed
abbrev pub Settling : List ℕ → List ℕ → Type 0
Settling table table' = (j : ℕ) → (get_or table j 0 ≡ 1 → ⊥) → get_or table' j 0 ≡ get_or table j 0

-- the projection of node e was added, or there was no room; the table fits what it did before
pub record Added-as (os : List Node) (xs : List (Option Expression)) (s t table' : List ℕ) (e : ℕ) (answer : Added) : Type 0 where
  pub fits : Fits os xs (nodes t) table'
  pub expression : Expression
  pub known : get_or xs e None ≡ Some expression
  pub is : told answer (nodes t) ≡ add_expression expression (nodes s)

-- what the walk at node e promises, whichever old nodes and projections the table fitted
pub record Walked (s table t table' : List ℕ) (e : ℕ) (answer : Added) : Type 0 where
  pub holds : Holds t
  pub extends : Extends (nodes s) (nodes t)
  pub settling : Settling table table'
  pub settled : (i : ℕ) → answer ≡ Ok i → get_or table' e 0 ≡ i + 2
  pub added : (os : List Node) (xs : List (Option Expression)) → Fits os xs (nodes s) table → e < length os → Added-as os xs s t table' e answer

-- what the walk over the children of node e asks from child k on: r is the operation's row, whose children from k on are still those of the node
pub record ReadyFrom (s table r : List ℕ) (e k : ℕ) : Type 0 where
  pub olds : List Node
  pub all : List (Option Expression)
  pub holds : Holds s
  pub fits : Fits olds all (nodes s) table
  pub below : e < length olds
  pub row_is : r ≡ operation_row r (children_of r)
  pub few : length (children_of r) ≤ 8
  pub within : k ≤ length (children_of r)
  pub children : (j : ℕ) → k ≤ j → j < length (children_of r) → get_or (children_of r) j 0 < e
  pub project : (j : ℕ) → k ≤ j → j < length (children_of r) → get_or table (get_or (children_of r) j 0) 0 ≡ 0 → ⊥

-- the numbers of the children that were projected, from k on, as a placing
unfoldable pub told_from : Bool → ℕ → List ℕ → List Node → Placed (List ℕ)
told_from true k r ns = placed (drop k (children_of r)) ns
told_from false k r ns = full

-- the projections of the children from k on were added, or there was no room
pub record AddedFrom (os : List Node) (xs : List (Option Expression)) (s t table' r r' : List ℕ) (k : ℕ) (ok : Bool) : Type 0 where
  pub fits : Fits os xs (nodes t) table'
  pub expressions : Expressions
  pub known : all_project xs (drop k (children_of r)) ≡ Some expressions
  pub is : told_from ok k r' (nodes t) ≡ add_expressions expressions (nodes s)

-- what the walk over the children of a node promises from child k on: in the row the numbers of their projections, and nothing else changed
pub record WalkedFrom (s table r t table' r' : List ℕ) (e k : ℕ) (ok : Bool) : Type 0 where
  pub holds : Holds t
  pub extends : Extends (nodes s) (nodes t)
  pub settling : Settling table table'
  pub row_is : r' ≡ operation_row r (children_of r')
  pub sized : length (children_of r') ≡ length (children_of r)
  pub front : take k (children_of r') ≡ take k (children_of r)
  pub added : (os : List Node) (xs : List (Option Expression)) → Fits os xs (nodes s) table → e < length os → AddedFrom os xs s t table' r r' k ok

-- the table with an answer for node e
unfoldable pub settled_as : List ℕ → ℕ → Added → List ℕ
settled_as table e (Ok i) = set table e (i + 2)
settled_as table e (Err k) = table

-- what the caller is told of a walk from the cells s to the cells t: its answer; or, where there was no room, 3 and the cells as they were
unfoldable pub restored_as : List ℕ → List ℕ → Added → Projected × List ℕ
restored_as s t (Ok i) = (Ok (Some i), t)
restored_as s t (Err k) = (Err ArenaFull, s)

-- the answers that a table has for expressions
abbrev pub answers_in : List ℕ → List ℕ → List (Option ℕ)
answers_in table es = map (λ (e : ℕ). answer_of (get_or table e 0)) es

-- the answers of the list as a placing
unfoldable pub told_answers : Bool → List (Option ℕ) → List Node → Placed (List (Option ℕ))
told_answers true ks ns = placed ks ns
told_answers false ks ns = full

-- the projections of a list were added, or there was no room; the table has the answers
pub record AddedAll (os : List Node) (xs : List (Option Expression)) (s t table' es : List ℕ) (ok : Bool) : Type 0 where
  pub fits : Fits os xs (nodes t) table'
  pub is : told_answers ok (answers_in table' es) (nodes t) ≡ add_projections (map (λ (e : ℕ). get_or xs e None) es) (nodes s)

-- what the walk at one expression of a list asks
pub record ReadyOne (s table : List ℕ) (e : ℕ) : Type 0 where
  pub olds : List Node
  pub all : List (Option Expression)
  pub holds : Holds s
  pub fits : Fits olds all (nodes s) table
  pub below : e < length olds

-- what it promises: as for the list of this expression alone
pub record WalkedOne (s table t table' : List ℕ) (e : ℕ) (ok : Bool) : Type 0 where
  pub holds : Holds t
  pub extends : Extends (nodes s) (nodes t)
  pub settling : Settling table table'
  pub settled : ok ≡ true → get_or table' e 0 ≡ 1 → ⊥
  pub added : (os : List Node) (xs : List (Option Expression)) → Fits os xs (nodes s) table → e < length os → AddedAll os xs s t table' (e ∷ []) ok

-- what the walk over a list of expressions asks
pub record ReadyAll (s table es : List ℕ) : Type 0 where
  pub olds : List Node
  pub all : List (Option Expression)
  pub holds : Holds s
  pub fits : Fits olds all (nodes s) table
  pub below : (k : ℕ) → k < length es → get_or es k 0 < length olds

-- what the walk over a list of expressions promises
pub record WalkedAll (s table t table' es : List ℕ) (ok : Bool) : Type 0 where
  pub holds : Holds t
  pub extends : Extends (nodes s) (nodes t)
  pub added : (os : List Node) (xs : List (Option Expression)) → Fits os xs (nodes s) table → ((k : ℕ) → k < length es → get_or es k 0 < length os) → AddedAll os xs s t table' es ok
