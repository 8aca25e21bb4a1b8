-- What the inner functions ask and promise each other, and what a step promises to the loop over the records.
use Rattle.arena.specs.declared.Refusal.{Refusal}
use Rattle.arena.specs.Refusals.{Added, outcome, refusal as refusal_of}
use Rattle.std.specs.Prelude.{ℕ, List, [], ◌∷◌, ◌≡◌, length, Result, Ok, Err}
use Rattle.arena.specs.Node.{Node}
use Rattle.arena.specs.Layout.{decode as nodes_in}
use Rattle.arena.specs.Inner.{Holds}
use Rattle.classes.specs.Layout.{decode}
use Rattle.classes.specs.Inner.{Held}
use Rattle.orderings.specs.Layout.{encode as encode_list, decode as orderings_in}
use Rattle.orderings.specs.Inner.{Held as HeldList}
use Rattle.orderings.specs.declared.Listed.{Listed}
use Rattle.records.specs.Record.{Record}
use Rattle.session_steps.specs.State.{State, Reply, quiet, normal_form, equality, refusal, step}
use Rattle.session_steps.specs.declared.holding.Stepped.{Stepped}
use Rattle.session_steps.specs.declared.holding.Holding.{Holding}
use Rattle.session_steps.specs.declared.holding.Said.{Said}
use Rattle.session_steps.specs.declared.holding.Said.TheVariants.{Quiet, NormalForm, Equality}

-- a reply as the answer that the functions hand on
unfoldable pub said_of : Reply → Result Said Refusal
said_of quiet = Ok Quiet
said_of (normal_form e r) = Ok (NormalForm e r)
said_of (equality a b v) = Ok (Equality a b v)
said_of (refusal number) = Err (refusal_of number)

-- an answer of which only a refusal is told
unfoldable pub told : {A : Type 0} → Result A Refusal → Result Said Refusal
told (Ok a) = Ok Quiet
told (Err k) = Err k

-- an answer about nodes as what is said of it
unfoldable pub said_by : (Added → Reply) → Added × List Node → Result Said Refusal × List Node
said_by reply o = (said_of (reply o.0), o.1)

-- a number and a list of orderings as the struct that is handed back
unfoldable pub listed_of : ℕ × List (List ℕ) → Listed
listed_of o = record { done = outcome o.0; list = encode_list o.1 }

-- expression and options of each key, one after the other
unfoldable pub pairs_of : List (ℕ × ℕ) → List ℕ
pairs_of [] = []
pairs_of (p ∷ ps) = p.0 ∷ p.1 ∷ pairs_of ps

-- keys as a list that is lent: their count first
unfoldable pub lent_keys : List (ℕ × ℕ) → List ℕ
lent_keys keys = length keys ∷ pairs_of keys

-- the cells and the struct hold a session's state: each part is checked, and the group's limit is 256
pub record Fit (cells : List ℕ) (h : Holding) : Type 0 where
  pub arena : Holds cells
  pub group : Held (nodes_in cells) h.group
  pub limit : h.group.limit ≡ 256
  pub list : HeldList h.list

-- the state that they hold
unfoldable pub state_of : List ℕ → Holding → State
state_of cells h = record { nodes = nodes_in cells; classes = decode h.group; orderings = orderings_in h.list }

-- what a step promises: the answer is the definition's, and so is the state afterwards, which is fit again
pub record Went (cells : List ℕ) (h : Holding) (x : Record) (cells' : List ℕ) (r : Stepped) : Type 0 where
  pub fit : Fit cells' r.holding
  pub said-is : r.said ≡ said_of (step x (state_of cells h)).0
  pub state-is : state_of cells' r.holding ≡ (step x (state_of cells h)).1
