-- The demands, sentence by sentence, in their order. Demand 2 is shown by runs beside the Rust and by the contracts themselves; docs/PROMISES.md says where.
-- What a call answers is said by the definition that its contract cites, over the lent cells and the lent struct, so a statement on those definitions is one on the code that runs.
use Rattle.std.specs.Prelude.{Ok, Err}
use Prim.Native.Nat.{ℕ, ◌≤◌, ◌<◌}
use mathlib.Core.Bool.{true}
use mathlib.Core.List.{List, [], map}
use mathlib.Core.Logic.{◌↔◌}
use mathlib.Core.Path.{◌≡◌}
use lib.ListN.{length, get_or, take}
use Rattle.arena.specs.Refusals.{refusal}
use Rattle.arena.specs.Expression.{expression_at}
use Rattle.arena.specs.Value.{Row, Meaning, value}
use Rattle.arena.specs.Layout.{lawful, decode as nodes}
use Rattle.classes.specs.Agree.{PairsAgree}
use Rattle.classes.specs.Group.{same_class}
use Rattle.classes.specs.Layout.{decode}
use Rattle.classes.specs.Steps.{refused}
use Rattle.classes.specs.Calls.{ask_group, changed_number}
use Rattle.group_checks.specs.Calls.{opened}
use Rattle.classes.specs.declared.Group.{Group}
use Rattle.conditions.specs.Steps.{Chain}
use Rattle.questions.specs.Calls.{equal_answer}
use Rattle.normal.specs.Calls.{normalized}
use Rattle.promises.specs.Sequence.{calls, group_after, accepted_pairs, seen}
use Rattle.promises.proofs.EveryCall as EveryCall
use Rattle.promises.proofs.EveryCall.{EveryCallAnswers, EveryCallChecks}
use Rattle.promises.proofs.EveryNumber as EveryNumber
use Rattle.promises.proofs.EveryNumber.{EveryNumberStands}
use Rattle.promises.proofs.EveryRefusal as EveryRefusal
use Rattle.promises.proofs.EveryRefusal.{EveryRefusalKeeps}
use Rattle.promises.proofs.Conditions as Conditions

-- ---- Demand 1

-- Every call ends on every input, reads nothing outside what it is given ..
pub every_call_answers : (M : Type 1) → EveryCallAnswers M
every_call_answers = EveryCall.every_call_answers

-- .. and checks for itself.
pub every_call_checks_for_itself : EveryCallChecks
every_call_checks_for_itself = EveryCall.every_call_checks

-- A refusal gives its number from the table: what is returned is 0 or one of the numbers that the header names for the call ..
pub every_number_stands : EveryNumberStands
every_number_stands = EveryNumber.every_number_stands

-- .. and leaves arena, group, orderings and output exactly as they were.
pub every_refusal_keeps : EveryRefusalKeeps
every_refusal_keeps = EveryRefusal.every_refusal_keeps

-- ---- Demand 3

-- From an empty group and any sequence of equal conditions:
module _ (cells : List ℕ) (arena : lawful cells ≡ true) (limit : ℕ) (opens : changed_number (opened limit) ≡ 0) (pairs : List (ℕ × ℕ)) where
  -- the group afterwards
  abbrev pub group : Group
  group = group_after cells pairs (opened limit).group

  -- the pairs that were accepted
  abbrev pub joining : List (ℕ × ℕ)
  joining = accepted_pairs cells pairs (opened limit).group

  -- two different expressions share a class exactly when a chain of accepted pairs joins them.
  pub share_a_class_exactly : (x y : ℕ) → (x ≡ y → ⊥) → (same_class (decode group) x y ≡ true) ↔ Chain joining x y
  share_a_class_exactly = Conditions.share_a_class_exactly cells arena limit opens pairs

  -- A yes of the equality question stays yes after any further conditions.
  pub yes_stays_yes : (further : List (ℕ × ℕ)) (x y : ℕ) → ask_group (λ k. Err (refusal k)) (equal_answer x y) cells group ≡ Ok true
      → ask_group (λ k. Err (refusal k)) (equal_answer x y) cells (group_after cells further group) ≡ Ok true
  yes_stays_yes = Conditions.yes_stays_yes cells arena limit opens pairs

  -- A larger member limit gives the same answers and classes up to the smaller one's first refusal.
  pub larger-limit-same : (larger : ℕ) → limit ≤ larger → changed_number (opened larger) ≡ 0
      → (k : ℕ) → ((i : ℕ) → i < k → i < length pairs → (get_or (map seen (calls cells pairs (opened limit).group)) i (refused 0 [])).number ≡ 0)
      → take k (map seen (calls cells pairs (opened larger).group)) ≡ take k (map seen (calls cells pairs (opened limit).group))
  larger-limit-same = Conditions.larger-limit-same cells arena limit opens pairs

  -- On every row where all accepted pairs agree, a normalised expression has the value of the original, for any meaning of the operations.
  pub normal_form_has_the_value : {A : Type 0} (m : Meaning A) (row : Row A) → PairsAgree (nodes cells) joining m row
      → (e i : ℕ) (cells' : List ℕ) → normalized e cells group ≡ (Ok i, cells') → value (expression_at (nodes cells') i) m row ≡ value (expression_at (nodes cells) e) m row
  normal_form_has_the_value = Conditions.normal_form_has_the_value cells arena limit opens pairs
