-- What each public call answers and what it leaves in the arena, over the lent cells and the struct, in document 01's order of refusals.
-- A refusal is a case that hands back what came in.
use Rattle.arena.specs.declared.Refusal.{Refusal}
use Rattle.arena.specs.declared.Refusal.TheVariants.{UnknownExpression, ArenaFull, TooLarge}
use Rattle.arena.specs.Refusals.{Added, refusal, number_of}
use Rattle.std.specs.Prelude.{ℕ, ◌&&◌, List, ltb, leb, length, get_or, if◌then◌else◌, Result, Ok, Err}
use Rattle.laws.specs.Tests.{each}
use Rattle.arena.specs.Node.{Node}
use Rattle.arena.specs.Arena.{Placed, placed, full}
use Rattle.classes.specs.Class.{Class}
use Rattle.classes.specs.Layout.{in_set}
use Rattle.classes.specs.Calls.{group_number}
use Rattle.classes.specs.declared.Group.{Group}
use Rattle.normal.specs.Calls.{on_checked, normalize_expr, normal_forms}
use Rattle.sort_keys.specs.Keys.{Key, exprs_of, with_exprs, sorting}
use Rattle.sort_keys.specs.Layout.{keys_of, options_known, none_cut, sorted}
use Rattle.sort_keys.specs.declared.SortKey.{SortKey}
use Rattle.sort_keys.specs.declared.Sorted.{Sorted}

-- what the normal form of a sort key answers: the key
abbrev pub KeyIs : Type 0
KeyIs = Result SortKey Refusal

-- what the normal forms of sort keys answer: the keys
abbrev pub SortedIs : Type 0
SortedIs = Result Sorted Refusal

-- an answer as a key with the options that it had
unfoldable pub key_is : ℕ → Added → KeyIs
key_is options (Ok e) = Ok (record { expr = e; options = options })
key_is options (Err k) = Err k

-- the normal form of a sort key
unfoldable pub normalize_sort_expr : ℕ → ℕ → List Node → List Class → KeyIs × List Node
normalize_sort_expr e options ns cs = (key_is options (normalize_expr e ns cs).0, (normalize_expr e ns cs).1)

-- the check of what is lent with a key: 12 for options over 3 comes first
unfoldable pub key_number : ℕ → List ℕ → Group → ℕ
key_number options cells g = if leb options 3 then group_number cells g else 12

-- the call on lent cells and a lent group
abbrev pub normalized_key : ℕ → ℕ → List ℕ → Group → KeyIs × List ℕ
normalized_key e options cells g = on_checked (key_number options cells g) (λ k. Err (refusal k)) (normalize_sort_expr e options) cells g

-- the keys with normal forms that were placed, without those that order nothing; 3 where there was no room, 5 where more than 16 keys were given
unfoldable pub sorted_by : List Key → List Node → List Class → Placed (List ℕ) → SortedIs × List Node
sorted_by ks ns cs (placed es ms) = if leb (length ks) 16 then (Ok (sorted (sorting ms cs (with_exprs es ks))), ms) else (Err TooLarge, ns)
sorted_by ks ns cs full = (Err ArenaFull, ns)

-- the normal forms of sort keys; 1 where an expression is unknown
unfoldable pub normalize_sort_exprs : List Key → List Node → List Class → SortedIs × List Node
normalize_sort_exprs ks ns cs =
    if each (λ k. ltb (get_or (exprs_of ks) k 0) (length ns)) (length ks) then sorted_by ks ns cs (normal_forms ns cs (exprs_of ks))
    else (Err UnknownExpression, ns)

-- the check of what is lent with keys: 12 for options over 3 or in the group, 11 for a key that is cut, then the group's
unfoldable pub keys_number : List ℕ → List ℕ → Group → ℕ
keys_number numbers cells g =
    if options_known numbers && in_set g then
    (if none_cut numbers then group_number cells g else 11)
    else 12

-- the call on lent cells, a lent group and lent keys
abbrev pub normalized_keys : List ℕ → List ℕ → Group → SortedIs × List ℕ
normalized_keys numbers cells g = on_checked (keys_number numbers cells g) (λ k. Err (refusal k)) (normalize_sort_exprs (keys_of numbers)) cells g

-- document 01's number of each answer: 0 is done
abbrev pub key_is_number : KeyIs → ℕ
key_is_number answer = number_of answer
