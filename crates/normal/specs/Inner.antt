-- What the inner functions ask and promise each other. The public contracts (Calls) cite nothing of this file.
use Rattle.arena.specs.declared.Refusal.TheVariants.{ArenaFull}
use Rattle.arena.specs.Refusals.{Added}
use Rattle.std.specs.Prelude.{ℕ, ◌<◌, ◌≤◌, List, ◌≡◌, ltb, get_or, take, if◌then◌else◌, Err}
use Rattle.arena.specs.Node.{Node, operation, node_at}
use Rattle.arena.specs.Expression.{Expression}
use Rattle.arena.specs.Layout.{count, children_of, decode}
use Rattle.arena.specs.Inner.{Holds, Memo, is_refused, operation_row}
use Rattle.classes.specs.Class.{Class}
use Rattle.normal.specs.Normal.{first_of, normal_by}

-- a table holds what replaces each of the first n numbers
abbrev pub Firsts : List Class → ℕ → List ℕ → Type 0
Firsts cs n firsts = (e : ℕ) → e < n → get_or firsts e 0 ≡ first_of cs e

-- what replaces a number, by such a table for the numbers below old; a number that was added is in no class
unfoldable pub replacement : ℕ → List ℕ → ℕ → ℕ
replacement old firsts i = if ltb i old then get_or firsts i 0 else i

-- the nodes that were there before the walk
abbrev pub olds : ℕ → List ℕ → List Node
olds old s = take old (decode s)

-- the rewriting that the walk does: the normal form over the nodes that were there before it
abbrev pub rewriting : ℕ → List ℕ → List ℕ → Expression → Expression
rewriting old firsts s x = normal_by (olds old s) (λ e. get_or firsts e 0) x

-- what the walk asks at node e
pub record Ready (old : ℕ) (firsts s memo : List ℕ) (e : ℕ) : Type 0 where
  pub holds : Holds s
  pub there : old ≤ count s
  pub inside : (k : ℕ) → k < old → get_or firsts k 0 < old
  pub below : e < old
  pub memo_true : Memo (rewriting old firsts s) (decode s) memo

-- what the walk over the children of node e asks: node e is an operation, and r its row
pub record ReadyAll (old : ℕ) (firsts s memo r : List ℕ) (e : ℕ) : Type 0 where
  pub ready : Ready old firsts s memo e
  pub node : node_at (decode s) e ≡ operation (get_or r 1 0) (children_of r)
  pub row_is : r ≡ operation_row r (children_of r)

-- what the caller is told of a walk from the cells s to the cells t: its answer; or, where there was no room, 3 and the cells as they were
unfoldable pub settled_by : List ℕ → List ℕ → Added → Added × List ℕ
settled_by s t answer = if is_refused answer then (Err ArenaFull, s) else (answer, t)
