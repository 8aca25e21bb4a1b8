-- What the inner functions ask and promise each other. The public contracts (Calls) cite nothing of this file.
use Rattle.arena.specs.declared.Refusal.TheVariants.{ArenaFull}
use Rattle.arena.specs.Refusals.{Added}
use Rattle.std.specs.Prelude.{ℕ, ◌+◌, ◌-◌, ◌*◌, ◌<◌, ◌≤◌, Bool, true, false, List, ◌≡◌, ltb, length, get_or, set, if◌then◌else◌, Err, Ok}
use Rattle.std.proofs.Math.Seq.{paste}
use Rattle.arena.specs.Node.{Node, operation}
use Rattle.arena.specs.Expression.{Expression, Expressions, ∅, ◌▹◌, expression_at, expressions, those}
use Rattle.arena.specs.Arena.{Sound, Allowed, Extends, Placed, placed, full, add_expression, add_expressions}
use Rattle.arena.specs.Layout.{row, count, row_of, node_of, children_of, decode}

-- a row is the layout of a node
abbrev pub Coded : List ℕ → Type 0
Coded r = row (node_of r) ≡ r

-- the cells are the layout of a sound arena
pub record Holds (cells : List ℕ) : Type 0 where
  pub sized : length cells ≡ 11265
  pub few : count cells ≤ 1024
  pub coded : (i : ℕ) → i < count cells → Coded (row_of cells i)
  pub rest : (k : ℕ) → 1 + 11 * count cells ≤ k → k < 11265 → get_or cells k 0 ≡ 0
  pub sound : Sound (decode cells)

-- a number of a node in the cells
pub record Known (cells : List ℕ) (e : ℕ) : Type 0 where
  pub holds : Holds cells
  pub below : e < count cells

-- a row may be added to the cells
pub record Placeable (cells r : List ℕ) : Type 0 where
  pub holds : Holds cells
  pub coded : Coded r
  pub allowed : Allowed (count cells) (node_of r)

-- the cells with a row as the next node, if one is left
unfoldable pub appended : List ℕ → List ℕ → Added × List ℕ
appended cells r =
    if ltb (count cells) 1024 then (Ok (count cells), set (paste cells (1 + 11 * count cells) r 11) 0 (count cells + 1))
    else (Err ArenaFull, cells)

-- an answer and the arena as a placing
unfoldable pub told : Added → List Node → Placed ℕ
told (Ok i) ns = placed i ns
told (Err k) ns = full

-- an answer is a refusal
unfoldable pub is_refused : Added → Bool
is_refused (Ok i) = false
is_refused (Err k) = true

-- from the cells s to the cells t an expression was added, or there was no room; whichever, t is an arena that extends s
pub record Grew (x : Expression) (s t : List ℕ) (answer : Added) : Type 0 where
  pub holds : Holds t
  pub extends : Extends (decode s) (decode t)
  pub is : told answer (decode t) ≡ add_expression x (decode s)

-- where the memo of a walk F has an entry for a number, the entry less one is the number of what F makes of the expression
pub record Noted (F : Expression → Expression) (ns : List Node) (e entry : ℕ) : Type 0 where
  pub known : e < length ns
  pub old : entry - 1 < length ns
  pub is : expression_at ns (entry - 1) ≡ F (expression_at ns e)

-- what the memo says is true. A place with 0 says nothing
abbrev pub Memo : (Expression → Expression) → List Node → List ℕ → Type 0
Memo F ns memo = (e : ℕ) → (get_or memo e 0 ≡ 0 → ⊥) → Noted F ns e (get_or memo e 0)

-- the memo with an answer for e
unfoldable pub noted : List ℕ → ℕ → Added → List ℕ
noted memo e (Ok i) = set memo e (i + 1)
noted memo e (Err k) = memo

-- what a walk F promises at node e: its expression was added, and the memo is true
pub record Walked (F : Expression → Expression) (s t memo : List ℕ) (e : ℕ) (answer : Added) : Type 0 where
  pub grew : Grew (F (expression_at (decode s) e)) s t answer
  pub memo_true : Memo F (decode t) memo

-- F of each expression
unfoldable pub map_all : (Expression → Expression) → Expressions → Expressions
map_all F ∅ = ∅
map_all F (e ▹ es) = F e ▹ map_all F es

-- a walk over the children in a row as a placing: the numbers in the row afterwards, or no room
unfoldable pub told_all : Bool → List ℕ → List Node → Placed (List ℕ)
told_all true r ns = placed (children_of r) ns
told_all false r ns = full

-- the row of an operation with the label and the children that r has
abbrev pub operation_row : List ℕ → List ℕ → List ℕ
operation_row r children = row (operation (get_or r 1 0) children)

-- what a walk F over the children in the row r promises: what F makes of them was added, and r' is the operation's row over that
pub record WalkedAll (F : Expression → Expression) (s t memo r r' : List ℕ) (all : Bool) : Type 0 where
  pub holds : Holds t
  pub extends : Extends (decode s) (decode t)
  pub memo_true : Memo F (decode t) memo
  pub is : told_all all r' (decode t) ≡ add_expressions (map_all F (those (expressions (decode s)) (children_of r))) (decode s)
  pub row_is : all ≡ true → r' ≡ operation_row r (children_of r')
