-- What the inner functions ask and promise each other. The public contracts cite nothing of this file.
use Rattle.std.specs.Prelude.{ℕ, ◌<◌, ◌≤◌, Bool, true, false, ◌&&◌, List, [], ◌∷◌, ◌++◌, ◌≡◌, length, get_or, take, drop, if◌then◌else◌, Result, Ok, Err}
use Rattle.arena.specs.Node.{Node}
use Rattle.arena.specs.Arena.{Extends, Placed, placed, full, and_then}
use Rattle.arena.specs.Layout.{count as cell_count, decode as nodes}
use Rattle.arena.specs.Inner.{Holds, Memo}
use Rattle.shifting.specs.Inner.{lifted, shifted_by}
use Rattle.orderings.specs.Ordering.{expr_of, built}
use Rattle.orderings.specs.Lists.{extended_all, output_ordering, suffixed, suffixed_all, ordering_at}
use Rattle.ordering_joins.specs.Offset.{keys_move, lists_move, shifted_keys, shifted_lists}
use Rattle.orderings.specs.Layout.{keys_of, encode, decode}
use Rattle.orderings.specs.declared.Ordering.{Ordering}
use Rattle.orderings.specs.declared.Orderings.{Orderings}
use Rattle.arena.specs.declared.Refusal.{Refusal}
use Rattle.arena.specs.declared.Refusal.TheVariants.{TooLarge}
use Rattle.orderings.specs.Inner.{HeldOrdering, Held, ShortOrdering, Short, all_short}

-- the joined ordering of all: the first i of them are joined, and the others are to be
pub record Collecting (g : Orderings) (i : ℕ) (out : Ordering) : Type 0 where
  pub below : i ≤ g.count
  pub short : ShortOrdering out
  pub goes : output_ordering (decode g) ≡ extended_all (keys_of out) (drop i (decode g))

-- the first i orderings of a list, each extended by one, at the end of another list
pub record Suffixing (out g : Orderings) (p : Ordering) (i : ℕ) (list : Orderings) : Type 0 where
  pub below : i ≤ g.count
  pub short : Short list
  pub made : decode list ≡ decode out ++ suffixed (take i (decode g)) (keys_of p)

-- all orderings of a list, extended by each of the first j of another
pub record Joined (g h : Orderings) (j : ℕ) (list : Orderings) : Type 0 where
  pub below : j ≤ h.count
  pub short : Short list
  pub made : decode list ≡ suffixed_all (decode g) (take j (decode h))

-- a list that was made, if none of its orderings has more than 16 keys
unfoldable pub made_short : List (List ℕ) → Result Orderings Refusal
made_short os = if all_short os then Ok (encode os) else Err TooLarge

-- the keys of an ordering have a place in a table of nodes
pub record LowKeys (o : Ordering) : Type 0 where
  pub held : HeldOrdering o
  pub low : (k : ℕ) → k < length (keys_of o) → expr_of (get_or (keys_of o) k 0) < 1024

-- the keys of a list have a place in a table of nodes
pub record LowList (g : Orderings) : Type 0 where
  pub held : Held g
  pub low : (i k : ℕ) → i < length (decode g) → k < length (ordering_at (decode g) i) → expr_of (get_or (ordering_at (decode g) i) k 0) < 1024

-- every key's expression can move, by a table of the nodes
unfoldable pub keys_tabled : List Bool → List ℕ → Bool
keys_tabled table [] = true
keys_tabled table (k ∷ ks) = get_or table (expr_of k) false && keys_tabled table ks

-- every key's expression of every ordering can move, by the table
unfoldable pub lists_tabled : List Bool → List (List ℕ) → Bool
lists_tabled table [] = true
lists_tabled table (o ∷ os) = keys_tabled table o && lists_tabled table os

-- the keys of an ordering are nodes in the cells
pub record KeysThere (cells : List ℕ) (o : Ordering) : Type 0 where
  pub holds : Holds cells
  pub held : HeldOrdering o
  pub there : (k : ℕ) → k < length (keys_of o) → expr_of (get_or (keys_of o) k 0) < cell_count cells

-- the keys of a list are nodes in the cells
pub record ListThere (cells : List ℕ) (g : Orderings) : Type 0 where
  pub holds : Holds cells
  pub held : Held g
  pub there : (i k : ℕ) → i < length (decode g) → k < length (ordering_at (decode g) i) → expr_of (get_or (ordering_at (decode g) i) k 0) < cell_count cells

-- what the shift of an ordering's keys asks: they are there, and can move
pub record ReadyKeys (lift : ℕ) (s memo : List ℕ) (o : Ordering) : Type 0 where
  pub keys : KeysThere s o
  pub small : lift ≤ 200000
  pub moves : keys_move (lifted lift) (nodes s) (keys_of o) ≡ true
  pub memo_true : Memo (shifted_by lift) (nodes s) memo

-- an ordering that was extended and the arena as a placing
unfoldable pub told_keys : Result Ordering Refusal → List Node → Placed (List ℕ)
told_keys (Ok out) ns = placed (keys_of out) ns
told_keys (Err e) ns = full

-- what it promises: the ordering is built from the shifted keys, whose missing nodes were added; or there was no room
pub record ShiftedKeys (lift : ℕ) (s t memo : List ℕ) (o : Ordering) (one : Result Ordering Refusal) : Type 0 where
  pub holds : Holds t
  pub extends : Extends (nodes s) (nodes t)
  pub memo_true : Memo (shifted_by lift) (nodes t) memo
  pub short : (out : Ordering) → one ≡ Ok out → ShortOrdering out
  pub is : told_keys one (nodes t) ≡ and_then (shifted_keys (lifted lift) (nodes s) (keys_of o) (nodes s)) (λ ks ps. placed (built ks) ps)

-- what the shift of a list asks: the same for all its orderings
pub record ReadyLists (lift : ℕ) (s memo : List ℕ) (g : Orderings) : Type 0 where
  pub list : ListThere s g
  pub small : lift ≤ 200000
  pub moves : lists_move (lifted lift) (nodes s) (decode g) ≡ true
  pub memo_true : Memo (shifted_by lift) (nodes s) memo

-- a list that was made and the arena as a placing
unfoldable pub told_lists : Result Orderings Refusal → List Node → Placed Orderings
told_lists (Ok list) ns = placed list ns
told_lists (Err e) ns = full

-- what it promises: the list of the shifted orderings; or there was no room
pub record ShiftedLists (lift : ℕ) (s t : List ℕ) (g : Orderings) (r : Result Orderings Refusal) : Type 0 where
  pub holds : Holds t
  pub extends : Extends (nodes s) (nodes t)
  pub is : told_lists r (nodes t) ≡ and_then (shifted_lists (lifted lift) (nodes s) (decode g) (nodes s)) (λ os ps. placed (encode os) ps)
