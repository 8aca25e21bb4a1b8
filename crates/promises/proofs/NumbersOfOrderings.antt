-- Which numbers the calls on lists of orderings give.
use Prim.Native.Nat.{ℕ}
use mathlib.Core.Bool.{Bool, false, ◌&&◌}
use mathlib.Core.List.{List, [], ◌∷◌, ◌++◌}
use Rattle.std.specs.Prelude.{Option, Result, Ok, Err}
use mathlib.Core.Path.{◌≡◌, refl}
use lib.Dec.{eqb, ltb, leb}
use lib.IntN.{ℤ}
use lib.ListN.{length}
use Rattle.arena.specs.declared.Refusal.{Refusal}
use Rattle.arena.specs.Refusals.{refusal, number_of}
use Rattle.arena.specs.Node.{Node}
use Rattle.arena.specs.Arena.{Placed, placed, full}
use Rattle.arena.specs.Layout.{decode as nodes, lawful, count}
use Rattle.arena.specs.Calls.{in_cells}
use Rattle.shifting.specs.Shift.{moved}
use Rattle.classes.specs.Group.{among}
use Rattle.orderings.specs.Lists.{output_ordering, join_suffix, built_all}
use Rattle.orderings.specs.Layout.{encode, decode, lawful_list, keys_inside}
use Rattle.orderings.specs.Calls.{list_number, fits, ask_list, two_number, listed, clear_answer}
use Rattle.orderings.specs.declared.Orderings.{Orderings}
use Rattle.orderings.specs.declared.Listed.{Listed}
use Rattle.orderings.specs.declared.Ordering.{Ordering}
use Rattle.orderings.proofs.Asking.{list_number-listed, two_number-listed}
use Rattle.reduction.proofs.Calling.{lent_number-listed, extend_number-listed}
use Rattle.ordering_questions.specs.Calls.{options_answer, partial_answer, options_number, partial_number}
use Rattle.reduction.specs.Lent.{options_known, whole, exprs_inside, lists_lent, orderings_lent}
use Rattle.reduction.specs.Calls.{reduced_list, lent_number, add_answer, extend_number, extend_answer}
use Rattle.ordering_joins.specs.Offset.{lists_move}
use Rattle.ordering_joins.specs.Calls.{output_of, output_answer, join_answer, offset_by, offset_list, offset_answer}
use Rattle.states.specs.Orders.{stored_list}
use Rattle.answers.specs.Answers.{on_first, options_in, partial_in, output_in}
use Rattle.promises.proofs.Numbers.{OneOf, done, either, unless-zero, as-refusal, all_among, wider, two_steps, three-steps}
use Rattle.promises.proofs.NumbersOfAnswers.{told_number}

-- the number that a list is handed back with
abbrev Lists : List ℕ → Listed → Type 0
Lists numbers l = OneOf numbers (number_of l.done)

-- the same beside an arena
abbrev ListsBeside : {B : Type 0} → List ℕ → Listed × B → Type 0
ListsBeside numbers o = OneOf numbers (number_of o.0.done)

-- ---- the checks, and a question after the check

-- the check of a list
pub list-number : (cells : List ℕ) (g : Orderings) → OneOf (11 ∷ 1 ∷ []) (list_number cells g)
unfolding list_number
list-number cells g = two_steps (lawful cells && lawful_list g) (keys_inside (count cells) g)

-- of two lists
two-lists-number : (cells : List ℕ) (g h : Orderings) → OneOf (11 ∷ 1 ∷ []) (two_number cells g h)
unfolding two_number
two-lists-number cells g h = two_steps (lawful cells && lawful_list g && lawful_list h) (keys_inside (count cells) g && keys_inside (count cells) h)

-- of a list and lists of keys
lent-list_number : (cells : List ℕ) (g : Orderings) (numbers : List ℕ) → OneOf (12 ∷ 11 ∷ 1 ∷ []) (lent_number cells g numbers)
unfolding lent_number
lent-list_number cells g numbers = three-steps (options_known numbers) (lawful cells && lawful_list g && whole numbers) (keys_inside (count cells) g && exprs_inside (count cells) numbers)

-- of a list and orderings
extend-check-number : (cells : List ℕ) (g : Orderings) (numbers : List ℕ) → OneOf (12 ∷ 11 ∷ 1 ∷ []) (extend_number cells g numbers)
unfolding extend_number
extend-check-number cells g numbers = three-steps (options_known numbers) (lawful cells && lawful_list g && (whole numbers && orderings_lent numbers)) (keys_inside (count cells) g && exprs_inside (count cells) numbers)

-- a question
ask_list-number : {A : Type 0} {numbers : List ℕ} (number : A → ℕ) (refused_by : ℕ → A) (call : List (List ℕ) → A) (cells : List ℕ) (g : Orderings) → (eqb (list_number cells g) 0 ≡ false → OneOf numbers (number (refused_by (list_number cells g))))
    → OneOf numbers (number (call (decode g))) → OneOf numbers (number (ask_list refused_by call cells g))
unfolding ask_list
ask_list-number {A} {numbers} number refused_by call cells g o p = unless-zero (λ (a : A). OneOf numbers (number a)) (list_number cells g) p o

-- ---- lists that are made

-- the numbers of a list that is built
abbrev built_numbers : List ℕ
built_numbers = 12 ∷ 11 ∷ 1 ∷ 5 ∷ []

-- a reduced list, or one that is too large
reduced-number : (g : Orderings) (os : List (List ℕ)) → OneOf built_numbers (number_of (reduced_list g os).done)
unfolding reduced_list among
reduced-number g os = either (Lists built_numbers) (fits os) done (record { is = refl })

-- a list with orderings added; a new list is the empty one with them
pub add-number : (old cells : List ℕ) (g : Orderings) (numbers : List ℕ) → OneOf built_numbers (stored_list old (add_answer cells g numbers)).0
unfolding stored_list add_answer all_among among
add-number old cells g numbers =
    told_number _ old (add_answer cells g numbers).done
    (unless-zero (Lists built_numbers) (lent_number cells g numbers) (reduced-number g (decode g ++ built_all (lists_lent numbers)))
    (as-refusal (lent_number-listed cells g numbers) (wider (lent-list_number cells g numbers) refl)))

-- a list extended by orderings
pub extend-number : (old cells : List ℕ) (g : Orderings) (numbers : List ℕ) → OneOf built_numbers (stored_list old (extend_answer cells g numbers)).0
unfolding stored_list extend_answer all_among among
extend-number old cells g numbers =
    told_number _ old (extend_answer cells g numbers).done
    (unless-zero (Lists built_numbers) (extend_number cells g numbers) (reduced-number g (decode g ++ lists_lent numbers))
    (as-refusal (extend_number-listed cells g numbers) (wider (extend-check-number cells g numbers) refl)))

-- an empty list
pub clear-list_number : (old cells : List ℕ) (g : Orderings) → OneOf (11 ∷ 1 ∷ []) (stored_list old (clear_answer cells g)).0
unfolding stored_list clear_answer
clear-list_number old cells g =
    told_number _ old (clear_answer cells g).done
    (ask_list-number (λ (l : Listed). number_of l.done) (λ k. record { done = Err (refusal k); list = g }) (λ os. record { done = Ok tt; list = encode [] }) cells g
    (as-refusal (list_number-listed cells g) (list-number cells g)) done)

-- the numbers of lists that are joined
abbrev joined_numbers : List ℕ
joined_numbers = 11 ∷ 1 ∷ 5 ∷ []

-- a list joined with another
pub join_suffix-number : (old cells : List ℕ) (g h : Orderings) → OneOf joined_numbers (stored_list old (join_answer cells g h)).0
unfolding stored_list join_answer listed all_among among
join_suffix-number old cells g h =
    told_number _ old (join_answer cells g h).done
    (unless-zero (Lists joined_numbers) (two_number cells g h) (either (Lists joined_numbers) (fits (join_suffix (decode g) (decode h))) done (record { is = refl }))
    (as-refusal (two_number-listed cells g h) (wider (two-lists-number cells g h) refl)))

-- the numbers of a shifted list
abbrev offset_numbers : List ℕ
offset_numbers = 11 ∷ 1 ∷ 10 ∷ 3 ∷ []

-- a shifted list once the nodes are there
offset_placed_number : (g : Orderings) (ns : List Node) (p : Placed (List (List ℕ))) → OneOf offset_numbers (number_of (offset_by g ns p).0.done)
unfolding offset_by among
offset_placed_number g ns (placed os ms) = record { is = refl }
offset_placed_number g ns full = record { is = refl }

-- a shifted list
pub list_offset_number : (old : List ℕ) (offset : ℤ) (cells : List ℕ) (g : Orderings) → OneOf offset_numbers (on_first (stored_list old) (offset_answer offset cells g)).0.0
unfolding on_first stored_list offset_answer offset_list in_cells all_among among
list_offset_number old offset cells g =
    told_number _ old (offset_answer offset cells g).0.done
    (unless-zero (ListsBeside offset_numbers) (list_number cells g)
    (either (ListsBeside offset_numbers) (lists_move (moved offset) (nodes cells) (decode g)) (offset_placed_number g (nodes cells) _) (record { is = refl }))
    (as-refusal (list_number-listed cells g) (wider (list-number cells g) refl)))

-- ---- questions

-- the options of an expression
pub options-number : (old : List ℕ) (n e : ℕ) (cells : List ℕ) (g : Orderings) → OneOf (11 ∷ 1 ∷ []) (options_in old (ask_list (λ k. Err (refusal k)) (options_answer n e) cells g)).0
unfolding options_in options_answer among
options-number old n e cells g =
    told_number _ old (ask_list (λ k. Err (refusal k)) (options_answer n e) cells g)
    (ask_list-number options_number (λ k. Err (refusal k)) (options_answer n e) cells g (as-refusal (list_number-listed cells g) (list-number cells g))
    (either (λ (a : Result (Option ℕ) Refusal). OneOf (11 ∷ 1 ∷ []) (options_number a)) (ltb e n) done (record { is = refl })))

-- whether an expression is partly constant
pub partial_number_lem : (old : List ℕ) (n e : ℕ) (cells : List ℕ) (g : Orderings) → OneOf (11 ∷ 1 ∷ []) (partial_in old (ask_list (λ k. Err (refusal k)) (partial_answer n e) cells g)).0
unfolding partial_in partial_answer among
partial_number_lem old n e cells g =
    told_number _ old (ask_list (λ k. Err (refusal k)) (partial_answer n e) cells g)
    (ask_list-number partial_number (λ k. Err (refusal k)) (partial_answer n e) cells g (as-refusal (list_number-listed cells g) (list-number cells g))
    (either (λ (a : Result Bool Refusal). OneOf (11 ∷ 1 ∷ []) (partial_number a)) (ltb e n) done (record { is = refl })))

-- the joined ordering
pub output-number : (old cells : List ℕ) (g : Orderings) → OneOf joined_numbers (output_in old (output_answer cells g)).0
unfolding output_in output_of all_among among
output-number old cells g =
    told_number _ old (output_answer cells g)
    (ask_list-number (λ (o : Result Ordering Refusal). number_of o) (λ k. Err (refusal k)) (λ os. output_of (output_ordering os)) cells g
    (as-refusal (list_number-listed cells g) (wider (list-number cells g) refl))
    (either (λ (o : Result Ordering Refusal). OneOf joined_numbers (number_of o)) (leb (length (output_ordering (decode g))) 16) done (record { is = refl })))
