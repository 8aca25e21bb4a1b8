-- What the inner functions ask and promise each other. The public contracts (Calls) cite nothing of this file.
use Rattle.std.specs.Prelude.{ℕ, ◌+◌, ◌*◌, ◌/◌, ◌<◌, ◌≤◌, Bool, ◌&&◌, ◌||◌, List, [], ◌∷◌, ◌≡◌, ltb, leb, length, get_or, take, set, if◌then◌else◌, Result, Ok, Err}
use Rattle.arena.specs.declared.Refusal.{Refusal}
use Rattle.arena.specs.Node.{Node, node_at}
use Rattle.arena.specs.Expression.{expressions, those}
use Rattle.arena.specs.Arena.{Extends, Placed, placed, full, and_then, add_expressions}
use Rattle.arena.specs.Layout.{count, decode}
use Rattle.arena.specs.Inner.{Holds, Memo, map_all}
use Rattle.classes.specs.Layout.{is_literal}
use Rattle.normal.specs.Inner.{rewriting}
use Rattle.sort_keys.specs.Keys.{Key, exprs_of, with_exprs}
use Rattle.sort_keys.specs.Layout.{keys_of, sorted}
use Rattle.sort_keys.specs.declared.Sorted.{Sorted}

-- the keys that are lent: each one's expression is an old node, its options are 0 to 3
pub record KeysKnown (old : ℕ) (numbers : List ℕ) : Type 0 where
  pub below : (k : ℕ) → k < length numbers / 2 → get_or numbers (2 * k) 0 < old
  pub options : (k : ℕ) → k < length numbers / 2 → get_or numbers (2 * k + 1) 0 ≤ 3

-- what the walk over keys asks
pub record ReadyKeys (old : ℕ) (firsts s memo numbers : List ℕ) : Type 0 where
  pub holds : Holds s
  pub there : old ≤ count s
  pub inside : (k : ℕ) → k < old → get_or firsts k 0 < old
  pub memo_true : Memo (rewriting old firsts s) (decode s) memo
  pub keys : KeysKnown old numbers

-- an expression is a uniform constant, by a table of the flavours of the old nodes' classes: a literal, or an old node whose class has a uniform constant
unfoldable pub uniform_by : List Node → ℕ → List ℕ → ℕ → Bool
uniform_by ns old marks e = is_literal (node_at ns e) || (ltb e old && leb 2 (get_or marks e 0))

-- the keys with one more at their end; a seventeenth is not written
unfoldable pub pushed : Sorted → ℕ → ℕ → Sorted
pushed out e options =
    if leb 16 out.size then out
    else record { size = out.size + 1; keys = set out.keys out.size (e * 4 + options) }

-- the keys with one more, if it is not a uniform constant
unfoldable pub kept_key : List Node → ℕ → List ℕ → Sorted → ℕ → ℕ → Sorted
kept_key ns old marks out e options = if uniform_by ns old marks e then out else pushed out e options

-- the keys of a list without those whose expressions pass a test
unfoldable pub without : (ℕ → Bool) → List Key → List Key
without p [] = []
without p (k ∷ ks) = if p k.expr then without p ks else k ∷ without p ks

-- the keys of a list that are no uniform constants, by such a table
abbrev pub kept_of : List Node → ℕ → List ℕ → List Key → List Key
kept_of ns old marks ks = without (uniform_by ns old marks) ks

-- an answer with keys and the arena as a placing
unfoldable pub told_sorted : Result Sorted Refusal → List Node → Placed Sorted
told_sorted (Ok out) ns = placed out ns
told_sorted (Err e) ns = full

-- what the walk over keys promises: the normal forms were added, and the first 16 of the kept keys are answered; or there was no room
pub record SortedAll (old : ℕ) (firsts marks s t numbers : List ℕ) (out : Result Sorted Refusal) : Type 0 where
  pub holds : Holds t
  pub extends : Extends (decode s) (decode t)
  pub is : told_sorted out (decode t)
      ≡ and_then (add_expressions (map_all (rewriting old firsts s) (those (expressions (decode s)) (exprs_of (keys_of numbers)))) (decode s))
      (λ es ms. placed (sorted (take 16 (kept_of ms old marks (with_exprs es (keys_of numbers))))) ms)
