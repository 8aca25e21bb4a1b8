-- What each call that reduces a list answers, over the lent cells, the struct and lists of keys lent as numbers, in document 01's order of refusals.
-- A refusal is a case that hands back what came in.
use Rattle.std.specs.Prelude.{ℕ, ◌&&◌, List, [], ◌++◌, eqb, if◌then◌else◌, Ok, Err}
use Rattle.arena.specs.Layout.{count, lawful}
use Rattle.arena.specs.Refusals.{refusal}
use Rattle.arena.specs.declared.Refusal.TheVariants.{TooLarge}
use Rattle.orderings.specs.Ordering.{same_key}
use Rattle.orderings.specs.Lists.{built_all}
use Rattle.reduction.specs.Reduction.{reduced}
use Rattle.reduction.specs.Lent.{options_known, whole, exprs_inside, lists_lent, orderings_lent}
use Rattle.orderings.specs.Layout.{encode, decode, lawful_list, keys_inside}
use Rattle.orderings.specs.declared.Orderings.{Orderings}
use Rattle.orderings.specs.declared.Listed.{Listed}
use Rattle.orderings.specs.Calls.{fits}

-- a list that was made, reduced; 5 is judged before reduction, and then the list is the one that was given
unfoldable pub reduced_list : Orderings → List (List ℕ) → Listed
reduced_list g os = if fits os then record { done = Ok tt; list = encode (reduced same_key os).orderings } else record { done = Err TooLarge; list = g }

-- the check of a list and of lists of keys that are lent with it: 12 for options over 3, 11 for the arena, the list or a count that runs past what is lent, then 1
unfoldable pub lent_number : List ℕ → Orderings → List ℕ → ℕ
lent_number cells g numbers =
    if options_known numbers then
    (if lawful cells && lawful_list g && whole numbers then
    (if keys_inside (count cells) g && exprs_inside (count cells) numbers then 0 else 1)
    else 11)
    else 12

-- orderings that are built from lists of keys and added
unfoldable pub add_answer : List ℕ → Orderings → List ℕ → Listed
add_answer cells g numbers =
    if eqb (lent_number cells g numbers) 0 then reduced_list g (decode g ++ built_all (lists_lent numbers))
    else record { done = Err (refusal (lent_number cells g numbers)); list = g }

-- a new list, built from lists of keys
abbrev pub new_answer : List ℕ → List ℕ → Listed
new_answer cells numbers = add_answer cells (encode []) numbers

-- the check of a list and of orderings that are lent with it: 11 also for one that is empty or repeats an expression
unfoldable pub extend_number : List ℕ → Orderings → List ℕ → ℕ
extend_number cells g numbers =
    if options_known numbers then
    (if lawful cells && lawful_list g && (whole numbers && orderings_lent numbers) then
    (if keys_inside (count cells) g && exprs_inside (count cells) numbers then 0 else 1)
    else 11)
    else 12

-- a list extended by orderings
unfoldable pub extend_answer : List ℕ → Orderings → List ℕ → Listed
extend_answer cells g numbers =
    if eqb (extend_number cells g numbers) 0 then reduced_list g (decode g ++ lists_lent numbers)
    else record { done = Err (refusal (extend_number cells g numbers)); list = g }
