-- Which numbers the calls on groups give.
use Rattle.arena.specs.Refusals.{refusal, Added, number_of}
use Prim.Native.Nat.{ℕ}
use mathlib.Core.Bool.{Bool, true, false, ◌&&◌}
use mathlib.Core.List.{List, [], ◌∷◌}
use Rattle.std.specs.Prelude.{Option, None, Some, Err, Ok}
use mathlib.Core.Path.{◌≡◌, refl, sym, subst}
use lib.Dec.{eqb, ltb, leb}
use lib.IntN.{pos}
use lib.ListN.{length, get_or}
use Rattle.laws.specs.Tests.{each}
use Rattle.arena.specs.Node.{Node}
use Rattle.arena.specs.Arena.{Placed, placed, full}
use Rattle.arena.specs.Layout.{decode as nodes, lawful}
use Rattle.arena.specs.Calls.{added_number, in_cells}
use Rattle.shifting.specs.Shift.{moved}
use Rattle.classes.specs.Class.{Class}
use Rattle.classes.specs.Group.{among}
use Rattle.classes.specs.Steps.{Outcome, fits, judged, refused}
use Rattle.classes.specs.Layout.{decode, in_set, lawful_group, members_inside}
use Rattle.classes.specs.Calls.{group_number, no_group, answer_of, changed, changed_number, on_group, ask_group}
use Rattle.classes.specs.declared.Group.{Group}
use Rattle.classes.specs.declared.Changed.{Changed}
use Rattle.group_checks.specs.Calls.{opened, class_answer}
use Rattle.conditions.specs.Steps.{add_equal, add_constant, clear}
use Rattle.conditions.specs.Calls.{sayable, on_constant}
use Rattle.questions.specs.Calls.{equal_answer, constant_answer}
use Rattle.group_checks.proofs.Calling.{group-listed}
use Rattle.sort_keys.proofs.KeyCalls.{key-listed, keys-listed}
use Rattle.lent_classes.proofs.NumberLaws.{new-listed}
use Rattle.joins.proofs.Joins.{join-listed}
use Rattle.demands.proofs.Asked.{asked_number, in_arena, equal-number, constant_number, class-number}
use Rattle.normal.specs.Calls.{on_checked, normalize_expr, normalized}
use Rattle.sort_keys.specs.Keys.{Key, exprs_of}
use Rattle.sort_keys.specs.Layout.{keys_of, options_known, none_cut}
use Rattle.sort_keys.specs.Calls.{key_is, normalize_sort_expr, key_number, normalized_key, SortedIs, sorted_by, normalize_sort_exprs, keys_number, normalized_keys, key_is_number}
use Rattle.lent_classes.specs.Lent.{flavours_known, whole, members_apart, literals_uniform, members_below, classes_lent}
use Rattle.merging.specs.Calls.{made_group, new_answer, refused_group, made_or_refused}
use Rattle.lent_classes.specs.Check.{new_number}
use Rattle.shifted_classes.specs.Lent.{paired, sides_below, pairs_lent}
use Rattle.shifted_classes.specs.Shifting.{all_move}
use Rattle.joins.specs.Kinds.{join_kind}
use Rattle.joins.specs.Joining.{to_shift}
use Rattle.joins.specs.Calls.{join_number, join_placed, join_shifted, join_by, join_answer}
use Rattle.group_states.specs.Groups.{stored_group}
use Rattle.answers.specs.Answers.{on_first}
use Rattle.group_answers.specs.Answers.{added_in, class_in, changed_in, answer_in, constant_in, key_in, sorted_in}
use Rattle.promises.proofs.Numbers.{OneOf, done, either, unless-zero, as-refusal, all_among, wider, three-steps, four-steps}
use Rattle.promises.proofs.NumbersOfAnswers.{told_number, changed_in_lem}
use Rattle.promises.proofs.NumbersOfExpressions.{Adds, answered-number}

-- the number that a group is handed back with
abbrev pub Changes : List ℕ → Changed → Type 0
Changes numbers c = OneOf numbers (changed_number c)

-- the same beside an arena
abbrev pub ChangesBeside : {B : Type 0} → List ℕ → Changed × B → Type 0
ChangesBeside numbers o = OneOf numbers (changed_number o.0)

-- ---- the check, and calls after it

-- the check of a group
pub group-number : (cells : List ℕ) (g : Group) → OneOf (12 ∷ 11 ∷ 1 ∷ []) (group_number cells g)
unfolding group_number
group-number cells g = three-steps (in_set g) (lawful cells && lawful_group (nodes cells) g) (members_inside (nodes cells) g)

-- a call that changes a group
on_group-number : {numbers : List ℕ} (call : List Node → List Class → Outcome) (cells : List ℕ) (g : Group) → all_among (12 ∷ 11 ∷ 1 ∷ []) (0 ∷ numbers) ≡ true
    → ((ns : List Node) (cs : List Class) → OneOf numbers (number_of (answer_of (call ns cs)))) → OneOf numbers (changed_number (on_group call cells g))
unfolding on_group changed
on_group-number {numbers} call cells g a h = unless-zero (Changes numbers) (group_number cells g) (h (nodes cells) (decode g)) (as-refusal (group-listed cells g) (wider (group-number cells g) a))

-- a call that adds to an arena by a group, after a check
pub on_checked-number : {A : Type 0} {numbers : List ℕ} (number : A → ℕ) (n : ℕ) (refused_by : ℕ → A) (call : List Node → List Class → A × List Node) (cells : List ℕ) (g : Group) → (eqb n 0 ≡ false → OneOf numbers (number (refused_by n)))
    → ((ns : List Node) (cs : List Class) → OneOf numbers (number (call ns cs).0)) → OneOf numbers (number (on_checked n refused_by call cells g).0)
unfolding on_checked in_cells
on_checked-number {A} {numbers} number n refused_by call cells g o h = unless-zero (λ (r : A × List ℕ). OneOf numbers (number r.0)) n (h (nodes cells) (decode g)) o

-- a question
asked-number : (cells : List ℕ) (g : Group) (known : Bool) → OneOf (12 ∷ 11 ∷ 1 ∷ []) (asked_number cells g known)
unfolding among
asked-number cells g known =
    let P : ℕ → Type 0 = OneOf (12 ∷ 11 ∷ 1 ∷ []) in
    either P (eqb (group_number cells g) 0) (either P known done (record { is = refl })) (group-number cells g)

-- ---- calls on one group

-- an empty group
pub open-number : (old : List ℕ) (limit : ℕ) → OneOf (12 ∷ []) (stored_group old (opened limit)).0
unfolding stored_group opened among
open-number old limit = told_number _ old (opened limit).answer (either (Changes (12 ∷ [])) (ltb 0 limit && leb limit 256) done (record { is = refl }))

-- the class of an expression
pub class_of-number : (old : List ℕ) (e : ℕ) (cells : List ℕ) (g : Group) → OneOf (12 ∷ 11 ∷ 1 ∷ []) (class_in old (ask_group (λ k. Err (refusal k)) (class_answer e) cells g)).0
unfolding class_in
class_of-number old e cells g =
    told_number _ old (ask_group (λ k. Err (refusal k)) (class_answer e) cells g) (subst (OneOf (12 ∷ 11 ∷ 1 ∷ [])) (sym (class-number cells g e)) (asked-number cells g (in_arena cells g e)))

-- the equality question
pub exprs_equal-number : (old : List ℕ) (a b : ℕ) (cells : List ℕ) (g : Group) → OneOf (12 ∷ 11 ∷ 1 ∷ []) (answer_in old (ask_group (λ k. Err (refusal k)) (equal_answer a b) cells g)).0
unfolding answer_in
exprs_equal-number old a b cells g =
    told_number _ old (ask_group (λ k. Err (refusal k)) (equal_answer a b) cells g)
    (subst (OneOf (12 ∷ 11 ∷ 1 ∷ [])) (sym (equal-number cells g a b)) (asked-number cells g (in_arena cells g a && in_arena cells g b)))

-- the constant question
pub expr_constant-number : (old : List ℕ) (e : ℕ) (cells : List ℕ) (g : Group) → OneOf (12 ∷ 11 ∷ 1 ∷ []) (constant_in old (ask_group (λ k. Err (refusal k)) (constant_answer e) cells g)).0
unfolding constant_in
expr_constant-number old e cells g =
    told_number _ old (ask_group (λ k. Err (refusal k)) (constant_answer e) cells g) (subst (OneOf (12 ∷ 11 ∷ 1 ∷ [])) (sym (constant_number cells g e)) (asked-number cells g (in_arena cells g e)))

-- a step that is judged by the limits
judged-number : (limit : ℕ) (cs : List Class) (o : Bool × List Class) → OneOf (4 ∷ []) (number_of (answer_of (judged limit cs o)))
unfolding judged refused answer_of refusal among
judged-number limit cs o = either (λ (o : Outcome). OneOf (4 ∷ []) (number_of (answer_of o))) (fits limit o.1) done (record { is = refl })

-- the numbers of a condition
abbrev condition_numbers : List ℕ
condition_numbers = 12 ∷ 11 ∷ 1 ∷ 4 ∷ []

-- the number of a step
abbrev Steps : Outcome → Type 0
Steps o = OneOf condition_numbers (number_of (answer_of o))

-- an equal condition
pub condition_number : (old group : List ℕ) (limit a b : ℕ) (cells : List ℕ) (g : Group) → OneOf condition_numbers (changed_in old group (on_group (λ ns cs. add_equal limit ns a b cs) cells g)).0.0
unfolding add_equal refused answer_of refusal all_among among
condition_number old group limit a b cells g =
    changed_in_lem old group (on_group (λ ns cs. add_equal limit ns a b cs) cells g)
    (on_group-number (λ ns cs. add_equal limit ns a b cs) cells g refl
    (λ ns cs. either Steps (ltb a (length ns) && ltb b (length ns)) (wider (judged-number limit cs _) refl) (record { is = refl })))

-- a constant
pub constant-call-number : (old : List ℕ) (e flavour value : ℕ) (cells : List ℕ) (g : Group) → OneOf condition_numbers (stored_group old (on_constant e flavour value cells g)).0
unfolding stored_group on_constant add_constant refused answer_of refusal all_among among
constant-call-number old e flavour value cells g =
    told_number _ old (on_constant e flavour value cells g).answer
    (either (Changes condition_numbers) (sayable flavour value)
    (on_group-number _ cells g refl (λ ns cs. either Steps (ltb e (length ns)) (wider (judged-number g.limit cs _) refl) (record { is = refl })))
    (record { is = refl }))

-- clearing
pub clear-number : (old group cells : List ℕ) (g : Group) → OneOf (12 ∷ 11 ∷ 1 ∷ []) (changed_in old group (on_group (λ ns cs. clear cs) cells g)).0.0
unfolding clear answer_of all_among among
clear-number old group cells g = changed_in_lem old group (on_group (λ ns cs. clear cs) cells g) (on_group-number (λ ns cs. clear cs) cells g refl (λ ns cs. done))

-- ---- normal forms

-- the numbers of a normal form
abbrev form_numbers : List ℕ
form_numbers = 12 ∷ 11 ∷ 1 ∷ 3 ∷ []

-- the normal form of an expression, after the check
normal-number : (e : ℕ) (ns : List Node) (cs : List Class) → OneOf form_numbers (added_number (normalize_expr e ns cs).0)
unfolding normalize_expr all_among among
normal-number e ns cs = either (Adds form_numbers) (ltb e (length ns)) (wider (answered-number ns _) refl) (record { is = refl })

-- the normal form of an expression
pub form-number : (old : List ℕ) (e : ℕ) (cells : List ℕ) (g : Group) → OneOf form_numbers (on_first (added_in old) (normalized e cells g)).0.0
unfolding on_first added_in all_among among
form-number old e cells g =
    told_number _ old (normalized e cells g).0
    (on_checked-number added_number (group_number cells g) (λ k. Err (refusal k)) (normalize_expr e) cells g (as-refusal (group-listed cells g) (wider (group-number cells g) refl)) (normal-number e))

-- an answer as a key
key-number : {numbers : List ℕ} (options : ℕ) (a : Added) → OneOf numbers (added_number a) → OneOf numbers (key_is_number (key_is options a))
unfolding key_is
key-number options (Ok e) o = o
key-number options (Err k) o = o

-- the check of what is lent with a key
key_check-number : (options : ℕ) (cells : List ℕ) (g : Group) → OneOf form_numbers (key_number options cells g)
unfolding key_number all_among among
key_check-number options cells g = either (OneOf form_numbers) (leb options 3) (wider (group-number cells g) refl) (record { is = refl })

-- the normal form of a sort key
pub sort_key_number : (old : List ℕ) (e options : ℕ) (cells : List ℕ) (g : Group) → OneOf form_numbers (on_first (key_in old) (normalized_key e options cells g)).0.0
unfolding on_first key_in normalize_sort_expr all_among among
sort_key_number old e options cells g =
    told_number _ old (normalized_key e options cells g).0
    (on_checked-number key_is_number (key_number options cells g) (λ k. Err (refusal k)) (normalize_sort_expr e options) cells g (as-refusal (key-listed e options cells g) (key_check-number options cells g))
    (λ ns cs. key-number options (normalize_expr e ns cs).0 (normal-number e ns cs)))

-- the numbers of several
abbrev forms_numbers : List ℕ
forms_numbers = 12 ∷ 11 ∷ 1 ∷ 3 ∷ 5 ∷ []

-- the number of keys beside an arena
abbrev Sorts : SortedIs × List Node → Type 0
Sorts o = OneOf forms_numbers (number_of o.0)

-- keys with normal forms that were placed
sorted-number : (ks : List Key) (ns : List Node) (cs : List Class) (p : Placed (List ℕ)) → Sorts (sorted_by ks ns cs p)
unfolding sorted_by among
sorted-number ks ns cs (placed es ms) = either Sorts (leb (length ks) 16) done (record { is = refl })
sorted-number ks ns cs full = record { is = refl }

-- the check of what is lent with keys
keys_check-number : (numbers cells : List ℕ) (g : Group) → OneOf forms_numbers (keys_number numbers cells g)
unfolding keys_number all_among among
keys_check-number numbers cells g =
    let P : ℕ → Type 0 = OneOf forms_numbers in
    either P (options_known numbers && in_set g) (either P (none_cut numbers) (wider (group-number cells g) refl) (record { is = refl })) (record { is = refl })

-- the normal forms of sort keys
pub sort_keys-number : (old numbers cells : List ℕ) (g : Group) → OneOf forms_numbers (on_first (sorted_in old) (normalized_keys numbers cells g)).0.0
unfolding on_first sorted_in normalize_sort_exprs among
sort_keys-number old numbers cells g =
    let ks : List Key = keys_of numbers in
    told_number _ old (normalized_keys numbers cells g).0
    (on_checked-number (λ (s : SortedIs). number_of s) (keys_number numbers cells g) (λ k. Err (refusal k)) (normalize_sort_exprs ks) cells g
    (as-refusal (keys-listed numbers cells g) (keys_check-number numbers cells g))
    (λ ns cs. either Sorts (each (λ k. ltb (get_or (exprs_of ks) k 0) (length ns)) (length ks)) (sorted-number ks ns cs _) (record { is = refl })))

-- ---- groups that are made

-- the check of classes that are lent
new_check-number : (cells numbers : List ℕ) → OneOf (12 ∷ 11 ∷ 1 ∷ 4 ∷ []) (new_number cells numbers)
unfolding new_number
new_check-number cells numbers =
    four-steps (flavours_known numbers) (lawful cells && (whole numbers && members_apart numbers && literals_uniform (nodes cells) numbers)) (members_below (length (nodes cells)) numbers) (fits 256 (classes_lent numbers))

-- the group of a list of classes
pub new-number : (old cells numbers : List ℕ) → OneOf (12 ∷ 11 ∷ 1 ∷ 4 ∷ []) (stored_group old (new_answer cells numbers)).0
unfolding stored_group new_answer made_group no_group
new-number old cells numbers =
    told_number _ old (new_answer cells numbers).answer
    (unless-zero (Changes (12 ∷ 11 ∷ 1 ∷ 4 ∷ [])) (new_number cells numbers) done (as-refusal (new-listed cells numbers) (new_check-number cells numbers)))

-- classes that are made a group, or that are too many
pub made-number : (g : Group) (ns ms : List Node) (cs : Option (List Class)) → OneOf (4 ∷ []) (changed_number (made_or_refused g ns ms cs).0)
unfolding made_or_refused made_group refused_group refusal among
made-number g ns ms (Some cs) = record { is = refl }
made-number g ns ms None = record { is = refl }

-- the numbers of a join
abbrev join_numbers : List ℕ
join_numbers = 12 ∷ 11 ∷ 1 ∷ 10 ∷ 3 ∷ 4 ∷ []

-- a join once the nodes are there
join_placed-number : (left : Group) (rs : List Class) (ps : List (ℕ × ℕ)) (ns : List Node) (p : Placed (List ℕ)) → OneOf join_numbers (changed_number (join_placed left rs ps ns p).0)
unfolding join_placed refused_group refusal all_among among
join_placed-number left rs ps ns (placed ks ms) = wider (made-number left ns ms _) refl
join_placed-number left rs ps ns full = record { is = refl }

-- a join that shifts
join_shifted-number : (left : Group) (rs : List Class) (size : ℕ) (ps : List (ℕ × ℕ)) (ns : List Node) → OneOf join_numbers (changed_number (join_shifted left rs size ps ns).0)
unfolding join_shifted refused_group refusal among
join_shifted-number left rs size ps ns = either (ChangesBeside join_numbers) (all_move (moved (pos size)) ns (to_shift rs ps)) (join_placed-number left rs ps ns _) (record { is = refl })

-- a join by its kind
join_by-number : (left right : Group) (kind size : ℕ) (ps : List (ℕ × ℕ)) (ns : List Node) → OneOf join_numbers (changed_number (join_by left right kind size ps ns).0)
unfolding join_by made_group
join_by-number left right kind size ps ns = either (ChangesBeside join_numbers) (join_kind kind).shifted (join_shifted-number left (decode right) size _ ns) done

-- the check of what a join is lent
join-check-number : (cells : List ℕ) (left right : Group) (kind : ℕ) (numbers : List ℕ) → OneOf (12 ∷ 11 ∷ 1 ∷ []) (join_number cells left right kind numbers)
unfolding join_number
join-check-number cells left right kind numbers =
    three-steps (leb kind 9 && in_set left && in_set right) (lawful cells && (lawful_group (nodes cells) left && lawful_group (nodes cells) right && paired numbers))
    (members_inside (nodes cells) left && members_inside (nodes cells) right && sides_below (length (nodes cells)) numbers)

-- a join
pub join-number : (old cells : List ℕ) (left right : Group) (kind size : ℕ) (numbers : List ℕ) → OneOf join_numbers (on_first (stored_group old) (join_answer cells left right kind size numbers)).0.0
unfolding on_first stored_group join_answer in_cells all_among among
join-number old cells left right kind size numbers =
    told_number _ old (join_answer cells left right kind size numbers).0.answer
    (unless-zero (ChangesBeside join_numbers) (join_number cells left right kind numbers) (join_by-number left right kind size (pairs_lent numbers) (nodes cells))
    (as-refusal (join-listed cells left right kind numbers) (wider (join-check-number cells left right kind numbers) refl)))
