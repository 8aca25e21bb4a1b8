-- Which numbers the calls on dependency maps give.
use Prim.Native.Nat.{ℕ}
use mathlib.Core.Bool.{◌&&◌}
use mathlib.Core.List.{List, [], ◌∷◌}
use mathlib.Core.Path.{refl}
use lib.Dec.{eqb, ltb, leb}
use Rattle.std.specs.Prelude.{Option}
use Rattle.arena.specs.Refusals.{number_of}
use Rattle.arena.specs.Layout.{lawful, count}
use Rattle.classes.specs.Group.{among}
use Rattle.dependencies.specs.Map.{Dependent, fits}
use Rattle.dependencies.specs.Layout.{lawful_map, keys_inside}
use Rattle.dependencies.specs.Calls.{map_number, options_known, given_below, insert_number, judged, insert_answer}
use Rattle.dependencies.specs.declared.DependencyMap.{DependencyMap}
use Rattle.dependencies.specs.declared.Inserted.{Inserted}
use Rattle.dependencies.specs.declared.Key.{Key}
use Rattle.dependencies.proofs.MapCalls.{insert_number-listed}
use Rattle.dependency_orderings.specs.Calls.{prefix_answer, generate_answer}
use Rattle.enumeration_laws.proofs.Answers.{prefix-numbers, generate_numbers}
use Rattle.states.specs.Maps.{stored_map}
use Rattle.answers.specs.Answers.{on_first, enumerated_in}
use Rattle.promises.proofs.Numbers.{OneOf, done, either, unless-zero, as-refusal, all_among, wider, two_steps}
use Rattle.promises.proofs.NumbersOfAnswers.{told_number}

-- the check of a map
pub map-number : (cells : List ℕ) (m : DependencyMap) → OneOf (11 ∷ 1 ∷ []) (map_number cells m)
unfolding map_number
map-number cells m = two_steps (lawful cells && lawful_map m) (keys_inside (count cells) m)

-- the check of what an insert is lent and given
insert-check-number : (cells : List ℕ) (m : DependencyMap) (e options : ℕ) (target dependency : Option Key) → OneOf (12 ∷ 11 ∷ 1 ∷ []) (insert_number cells m e options target dependency)
unfolding insert_number all_among among
insert-check-number cells m e options target dependency =
    let P : ℕ → Type 0 = OneOf (12 ∷ 11 ∷ 1 ∷ []) in
    either P (leb options 3 && options_known target && options_known dependency)
    (either P (eqb (map_number cells m) 0)
    (either P (ltb e (count cells) && given_below (count cells) target && given_below (count cells) dependency) done (record { is = refl }))
    (wider (map-number cells m) refl))
    (record { is = refl })

-- the numbers of an insert
abbrev insert_numbers : List ℕ
insert_numbers = 12 ∷ 11 ∷ 1 ∷ 5 ∷ []

-- the number that a map is handed back with
abbrev Inserts : Inserted → Type 0
Inserts i = OneOf insert_numbers (number_of i.done)

-- a map that was made, or one that is too large
map-judged-number : (m : DependencyMap) (ds : List Dependent) → Inserts (judged m ds)
unfolding judged among
map-judged-number m ds = either Inserts (fits ds) done (record { is = refl })

-- an insert
pub insert-number : (old cells : List ℕ) (m : DependencyMap) (e options : ℕ) (target dependency : Option Key) → OneOf insert_numbers (stored_map old (insert_answer cells m e options target dependency)).0
unfolding stored_map insert_answer all_among among
insert-number old cells m e options target dependency =
    told_number _ old (insert_answer cells m e options target dependency).done
    (unless-zero Inserts (insert_number cells m e options target dependency) (map-judged-number m _)
    (as-refusal (insert_number-listed cells m e options target dependency) (wider (insert-check-number cells m e options target dependency) refl)))

-- the numbers of an enumeration
abbrev enumeration_numbers : List ℕ
enumeration_numbers = 12 ∷ 11 ∷ 1 ∷ 6 ∷ 7 ∷ 5 ∷ 8 ∷ []

-- the prefix orderings of a key
pub prefix-number : (old cells : List ℕ) (m : DependencyMap) (e options : ℕ) (output : List ℕ) → OneOf enumeration_numbers (on_first (enumerated_in old) (prefix_answer cells m e options output)).0.0
unfolding on_first enumerated_in
prefix-number old cells m e options output = told_number _ old (prefix_answer cells m e options output).0 (record { is = prefix-numbers cells m output e options })

-- the orderings of several keys
pub generate_number_lem : (old cells : List ℕ) (m : DependencyMap) (keys output : List ℕ) → OneOf enumeration_numbers (on_first (enumerated_in old) (generate_answer cells m keys output)).0.0
unfolding on_first enumerated_in
generate_number_lem old cells m keys output = told_number _ old (generate_answer cells m keys output).0 (record { is = generate_numbers cells m output keys })
