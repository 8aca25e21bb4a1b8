-- What each public call answers and what it leaves in the output, over the lent cells and the struct, in document 01's order of refusals.
-- A refusal is a case that hands back what came in.
use Rattle.std.specs.Prelude.{ℕ, ◌+◌, ◌*◌, ◌/◌, ◌&&◌, List, [], ◌++◌, map, eqb, ltb, leb, length, get_or, drop, if◌then◌else◌, Result, Ok, Err}
use Rattle.laws.specs.Tests.{each}
use Rattle.arena.specs.Layout.{count}
use Rattle.arena.specs.Refusals.{refusal}
use Rattle.arena.specs.declared.Refusal.{Refusal}
use Rattle.arena.specs.declared.Refusal.TheVariants.{TooLarge, OutputShort}
use Rattle.sort_keys.specs.Layout.{keys_of, options_known, none_cut, packed}
use Rattle.dependencies.specs.Layout.{decode}
use Rattle.dependencies.specs.Calls.{map_number}
use Rattle.dependencies.specs.declared.DependencyMap.{DependencyMap}
use Rattle.enumeration.specs.Walk.{Walk, found, stopped, prefix_orderings}
use Rattle.enumeration.specs.Bounds.{fitting}
use Rattle.products.specs.Generate.{once_each, Lists, lists, stops, contributing, generated}
use Rattle.dependency_orderings.specs.Output.{written_all}
use Rattle.dependency_orderings.specs.declared.Enumerated.{Enumerated}

-- what an enumeration answers, and what it leaves in the output
abbrev pub Answer : Type 0
Answer = Result Enumerated Refusal × List ℕ

-- orderings that are written from the output's first place on; the output past the last is unchanged
unfoldable pub writes : List (List ℕ) → List ℕ → Answer
writes os out = (Ok (record { count = length os; used = length (written_all os) }), written_all os ++ drop (length (written_all os)) out)

-- the answer with some orderings: 5 where they are over a bound, 8 where the output is too short
unfoldable pub answered : List (List ℕ) → List ℕ → Answer
answered os out =
    if fitting os then
    (if leb (length (written_all os)) (length out) then writes os out else (Err OutputShort, out))
    else (Err TooLarge, out)

-- the answer with what a walk came to: 6 or 7 where it stopped
unfoldable pub walk_answer : Walk → List ℕ → Answer
walk_answer (stopped k) out = (Err (refusal k), out)
walk_answer (found os seen) out = answered os out

-- the check of what is lent with a key: 12 for its options, 11 for the arena or the map, 1 for an expression, else 0
unfoldable pub prefix_number : List ℕ → DependencyMap → ℕ → ℕ → ℕ
prefix_number cells m e options =
    if leb options 3 then
    (if eqb (map_number cells m) 0 then (if ltb e (count cells) then 0 else 1)
    else map_number cells m)
    else 12

-- the prefix orderings of a key, into lent output
unfoldable pub prefix_answer : List ℕ → DependencyMap → ℕ → ℕ → List ℕ → Answer
prefix_answer cells m e options out =
    if eqb (prefix_number cells m e options) 0 then walk_answer (prefix_orderings (decode m) (e * 4 + options)) out
    else (Err (refusal (prefix_number cells m e options)), out)

-- the check of what is lent with keys: 12 for their options, 11 for a key that is cut, the arena or the map, 1 for an expression, else 0
unfoldable pub generate_number : List ℕ → DependencyMap → List ℕ → ℕ
generate_number cells m numbers =
    if options_known numbers then
    (if none_cut numbers then
    (if eqb (map_number cells m) 0 then
    (if each (λ k. ltb (get_or numbers (2 * k) 0) (count cells)) (length numbers / 2) then 0 else 1)
    else map_number cells m)
    else 11)
    else 12

-- the answer with what the walks of n different keys came to: 6 or 7 where one stopped; then 5 where more than 16 different keys are given or more than 6 contribute
unfoldable pub gathered_answer : Lists → ℕ → List ℕ → Answer
gathered_answer (stops k) n out = (Err (refusal k), out)
gathered_answer (lists ls) n out =
    if leb n 16 && leb (length ls) 6 then answered (generated ls) out
    else (Err TooLarge, out)

-- the keys that are given, each as one number, a repeat counted once
abbrev pub different : List ℕ → List ℕ
different numbers = once_each [] (map packed (keys_of numbers))

-- the orderings of the keys that are given, into lent output
unfoldable pub generate_answer : List ℕ → DependencyMap → List ℕ → List ℕ → Answer
generate_answer cells m numbers out =
    if eqb (generate_number cells m numbers) 0 then gathered_answer (contributing (decode m) (different numbers)) (length (different numbers)) out
    else (Err (refusal (generate_number cells m numbers)), out)
