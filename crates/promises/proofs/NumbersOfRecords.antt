-- Which numbers the calls on records and the session give.
use Prim.Native.Nat.{ℕ}
use mathlib.Core.Bool.{◌&&◌}
use mathlib.Core.List.{List, [], ◌∷◌}
use Rattle.std.specs.Prelude.{Option, None, Some, Result}
use mathlib.Core.Path.{refl}
use lib.Dec.{eqb, leb}
use lib.ListN.{length}
use Rattle.arena.specs.declared.Refusal.{Refusal}
use Rattle.arena.specs.Refusals.{refusal, number_of as refused_with}
use Rattle.arena.specs.Layout.{decode as nodes, lawful}
use Rattle.classes.specs.Group.{among}
use Rattle.classes.specs.Calls.{no_group, changed_number}
use Rattle.classes.specs.declared.Changed.{Changed}
use Rattle.records.specs.Chosen.{is_group_record, side_of, number_of, chosen_number}
use Rattle.records.specs.Record.{Record, column, literal, operation, equal_pair, constant, normal_form_of, equality_of, one_ordering, item_of}
use Rattle.group_records.specs.GroupRecord.{Given, group_given, flavours_known, classes_filled, members_apart, literals_uniform, members_known, members_given, given_number, group_of, group_read}
use Rattle.transcript.specs.Session.{session_text, session}
use Rattle.group_records.proofs.GroupRecords.{given-listed}
use Rattle.group_states.specs.Groups.{stored_group}
use Rattle.answers.specs.Answers.{on_first, item_in, chosen_in, written_in}
use Rattle.promises.proofs.Numbers.{OneOf, done, either, unless-zero, as-refusal, all_among, wider, four-steps}
use Rattle.promises.proofs.NumbersOfAnswers.{Returned, told_number}

-- what is read of the bytes, or 9
read-number : (r : Option Record) → OneOf (9 ∷ []) (refused_with (item_of r))
unfolding item_of among
read-number None = record { is = refl }
read-number (Some (column name index)) = done
read-number (Some (literal value)) = done
read-number (Some (operation label children)) = done
read-number (Some (equal_pair a b)) = done
read-number (Some (constant e flavour value)) = done
read-number (Some (normal_form_of e)) = done
read-number (Some (equality_of a b)) = done
read-number (Some (one_ordering keys)) = done

-- a record that is read
pub item_number : (old : List ℕ) (r : Option Record) → OneOf (9 ∷ []) (item_in old (item_of r)).0
unfolding item_in
item_number old r = told_number _ old (item_of r) (read-number r)

-- the numbers of a group record
abbrev record_numbers : List ℕ
record_numbers = 9 ∷ 12 ∷ 11 ∷ 1 ∷ 4 ∷ []

-- the check of the classes of a record
given-number : (cells : List ℕ) (gs : List Given) → OneOf (12 ∷ 11 ∷ 1 ∷ 4 ∷ []) (given_number cells gs)
unfolding given_number
given-number cells gs =
    four-steps (flavours_known gs) (lawful cells && (classes_filled gs && members_apart gs && literals_uniform (nodes cells) gs)) (members_known (nodes cells) gs)
    (leb (length gs) 64 && leb (length (members_given gs)) 256)

-- a group of what a record gives
group_of-number : (cells : List ℕ) (gs : Option (List Given)) → OneOf record_numbers (changed_number (group_of cells gs))
unfolding group_of no_group refusal all_among among
group_of-number cells None = record { is = refl }
group_of-number cells (Some gs) = unless-zero (λ (c : Changed). OneOf record_numbers (changed_number c)) (given_number cells gs) done (as-refusal (given-listed cells gs) (wider (given-number cells gs) refl))

-- a group record
pub record-number : (old cells bytes : List ℕ) → OneOf record_numbers (stored_group old (group_read cells bytes)).0
unfolding stored_group
record-number old cells bytes = told_number _ old (group_read cells bytes).answer (group_of-number cells (group_given bytes))

-- what an empty part stands for
part-number : (side : Option (List ℕ)) → OneOf (12 ∷ 9 ∷ []) (number_of side)
unfolding number_of among
part-number None = record { is = refl }
part-number (Some bytes) = either (OneOf (12 ∷ 9 ∷ [])) (is_group_record bytes) done (record { is = refl })

-- the chosen one of two records
pub chosen-number : (old : List ℕ) (kind : ℕ) (left right : List ℕ) → OneOf (12 ∷ 9 ∷ []) (chosen_in old kind left right).0
unfolding chosen_in chosen_number
chosen-number old kind left right = either (Returned (12 ∷ 9 ∷ [])) (eqb (chosen_number kind left right) 0) done (part-number (side_of kind left right))

-- a session
pub session-number : (old input output : List ℕ) → OneOf (8 ∷ []) (on_first (written_in old) (session input output)).0.0
unfolding on_first session written_in among
session-number old input output =
    told_number _ old (session input output).0 (either (λ (r : Result ℕ Refusal × List ℕ). OneOf (8 ∷ []) (refused_with r.0)) (leb (length (session_text input)) (length output)) done (record { is = refl }))
