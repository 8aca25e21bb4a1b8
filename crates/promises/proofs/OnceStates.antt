-- Two results that meet a contract are equal: the public functions of states, group_states, answers, group_answers and unchecked.
use Rattle.laws.proofs.Determined.{one-result}
use Rattle.promises.proofs.Once.{OneAnswer, OneLent, OneWith, OneWithBoth}
use Rattle.states.proofs.maps.load_map.Reads as StatesMapsLoadMap
use Rattle.states.proofs.maps.store_map.Reads as StatesMapsStoreMap
use Rattle.states.proofs.numbers.widened.Reads as StatesNumbersWidened
use Rattle.states.proofs.numbers.narrow.Reads as StatesNumbersNarrow
use Rattle.states.proofs.numbers.short.Reads as StatesNumbersShort
use Rattle.states.proofs.orders.keys_from.Reads as StatesOrdersKeysFrom
use Rattle.states.proofs.orders.load_orderings.Reads as StatesOrdersLoadOrderings
use Rattle.states.proofs.orders.store_orderings.Reads as StatesOrdersStoreOrderings
use Rattle.group_states.proofs.groups.load_group.Reads as GroupStatesGroupsLoadGroup
use Rattle.group_states.proofs.groups.store_group.Reads as GroupStatesGroupsStoreGroup
use Rattle.answers.proofs.bit_of.Reads as AnswersBitOf
use Rattle.answers.proofs.maybe_of.Reads as AnswersMaybeOf
use Rattle.answers.proofs.put_1.Reads as AnswersPut1
use Rattle.answers.proofs.put_2.Reads as AnswersPut2
use Rattle.answers.proofs.put_sizes.Reads as AnswersPutSizes
use Rattle.answers.proofs.put_one.Reads as AnswersPutOne
use Rattle.answers.proofs.put_options.Reads as AnswersPutOptions
use Rattle.answers.proofs.put_partial.Reads as AnswersPutPartial
use Rattle.answers.proofs.put_output.Reads as AnswersPutOutput
use Rattle.answers.proofs.put_enumerated.Reads as AnswersPutEnumerated
use Rattle.answers.proofs.put_record.Reads as AnswersPutRecord
use Rattle.answers.proofs.put_written.Reads as AnswersPutWritten
use Rattle.answers.proofs.given_from.Reads as AnswersGivenFrom
use Rattle.group_answers.proofs.put_added.Reads as GroupAnswersPutAdded
use Rattle.group_answers.proofs.put_read.Reads as GroupAnswersPutRead
use Rattle.group_answers.proofs.put_child.Reads as GroupAnswersPutChild
use Rattle.group_answers.proofs.put_class_is.Reads as GroupAnswersPutClassIs
use Rattle.group_answers.proofs.put_changed.Reads as GroupAnswersPutChanged
use Rattle.group_answers.proofs.put_answer.Reads as GroupAnswersPutAnswer
use Rattle.group_answers.proofs.put_constant.Reads as GroupAnswersPutConstant
use Rattle.group_answers.proofs.put_key.Reads as GroupAnswersPutKey
use Rattle.group_answers.proofs.put_sorted.Reads as GroupAnswersPutSorted
use Rattle.group_answers.proofs.put_projected.Reads as GroupAnswersPutProjected
use Rattle.unchecked.proofs.unchecked_add_equal_conditions.Reads as UncheckedUncheckedAddEqualConditions
use Rattle.unchecked.proofs.unchecked_exprs_equal.Reads as UncheckedUncheckedExprsEqual
use Rattle.unchecked.proofs.unchecked_normalize_expr.Reads as UncheckedUncheckedNormalizeExpr
use Rattle.unchecked.proofs.unchecked_new_group.Reads as UncheckedUncheckedNewGroup
use Rattle.unchecked.proofs.unchecked_add_orderings.Reads as UncheckedUncheckedAddOrderings
use Rattle.unchecked.proofs.unchecked_generate_dependency_orderings.Reads as UncheckedUncheckedGenerateDependencyOrderings

-- ---- states

pub states-maps-load_map : (κs : _) (a : _) → OneAnswer (StatesMapsLoadMap.Learnt κs a)
states-maps-load_map κs a r r' s s' = one-result

pub states-maps-store_map : (κs : _) (a : _) → OneWith (λ s. s.1.0.now) (StatesMapsStoreMap.Learnt κs a)
states-maps-store_map κs a r r' s s' = one-result

pub states-numbers-widened : (κs : _) (a : _) → OneAnswer (StatesNumbersWidened.Learnt κs a)
states-numbers-widened κs a r r' s s' = one-result

pub states-numbers-narrow : (κs : _) (a : _) → OneAnswer (StatesNumbersNarrow.Learnt κs a)
states-numbers-narrow κs a r r' s s' = one-result

pub states-numbers-short : (κs : _) (a : _) → OneAnswer (StatesNumbersShort.Learnt κs a)
states-numbers-short κs a r r' s s' = one-result

pub states-orders-keys_from : (κs : _) (a : _) → OneAnswer (StatesOrdersKeysFrom.Learnt κs a)
states-orders-keys_from κs a r r' s s' = one-result

pub states-orders-load_orderings : (κs : _) (a : _) → OneAnswer (StatesOrdersLoadOrderings.Learnt κs a)
states-orders-load_orderings κs a r r' s s' = one-result

pub states-orders-store_orderings : (κs : _) (a : _) → OneWith (λ s. s.1.0.now) (StatesOrdersStoreOrderings.Learnt κs a)
states-orders-store_orderings κs a r r' s s' = one-result

-- ---- group_states

pub group_states-groups-load_group : (κs : _) (a : _) → OneAnswer (GroupStatesGroupsLoadGroup.Learnt κs a)
group_states-groups-load_group κs a r r' s s' = one-result

pub group_states-groups-store_group : (κs : _) (a : _) → OneWith (λ s. s.1.0.now) (GroupStatesGroupsStoreGroup.Learnt κs a)
group_states-groups-store_group κs a r r' s s' = one-result

-- ---- answers

pub answers-bit_of : (κs : _) (a : _) → OneAnswer (AnswersBitOf.Learnt κs a)
answers-bit_of κs a r r' s s' = one-result

pub answers-maybe_of : (κs : _) (a : _) → OneAnswer (AnswersMaybeOf.Learnt κs a)
answers-maybe_of κs a r r' s s' = one-result

pub answers-put-1 : (κs : _) (a : _) → OneLent (λ s. s.0.now) (AnswersPut1.Learnt κs a)
answers-put-1 κs a r r' s s' = one-result

pub answers-put-2 : (κs : _) (a : _) → OneLent (λ s. s.0.now) (AnswersPut2.Learnt κs a)
answers-put-2 κs a r r' s s' = one-result

pub answers-put_sizes : (κs : _) (a : _) → OneLent (λ s. s.0.now) (AnswersPutSizes.Learnt κs a)
answers-put_sizes κs a r r' s s' = one-result

pub answers-put_one : (κs : _) (a : _) → OneLent (λ s. s.1.0.now) (AnswersPutOne.Learnt κs a)
answers-put_one κs a r r' s s' = one-result

pub answers-put_options : (κs : _) (a : _) → OneWith (λ s. s.1.0.now) (AnswersPutOptions.Learnt κs a)
answers-put_options κs a r r' s s' = one-result

pub answers-put_partial : (κs : _) (a : _) → OneWith (λ s. s.1.0.now) (AnswersPutPartial.Learnt κs a)
answers-put_partial κs a r r' s s' = one-result

pub answers-put_output : (κs : _) (a : _) → OneWith (λ s. s.1.0.now) (AnswersPutOutput.Learnt κs a)
answers-put_output κs a r r' s s' = one-result

pub answers-put_enumerated : (κs : _) (a : _) → OneWith (λ s. s.1.0.now) (AnswersPutEnumerated.Learnt κs a)
answers-put_enumerated κs a r r' s s' = one-result

pub answers-put_record : (κs : _) (a : _) → OneWith (λ s. s.1.0.now) (AnswersPutRecord.Learnt κs a)
answers-put_record κs a r r' s s' = one-result

pub answers-put_written : (κs : _) (a : _) → OneWith (λ s. s.1.0.now) (AnswersPutWritten.Learnt κs a)
answers-put_written κs a r r' s s' = one-result

pub answers-given_from : (κs : _) (a : _) → OneAnswer (AnswersGivenFrom.Learnt κs a)
answers-given_from κs a r r' s s' = one-result

-- ---- group_answers

pub group_answers-put_added : (κs : _) (a : _) → OneWith (λ s. s.1.0.now) (GroupAnswersPutAdded.Learnt κs a)
group_answers-put_added κs a r r' s s' = one-result

pub group_answers-put_read : (κs : _) (a : _) → OneWith (λ s. s.1.0.now) (GroupAnswersPutRead.Learnt κs a)
group_answers-put_read κs a r r' s s' = one-result

pub group_answers-put_child : (κs : _) (a : _) → OneWith (λ s. s.1.0.now) (GroupAnswersPutChild.Learnt κs a)
group_answers-put_child κs a r r' s s' = one-result

pub group_answers-put_class_is : (κs : _) (a : _) → OneWith (λ s. s.1.0.now) (GroupAnswersPutClassIs.Learnt κs a)
group_answers-put_class_is κs a r r' s s' = one-result

pub group_answers-put_changed : (κs : _) (a : _) → OneWithBoth (λ s. s.1.1.0.now) (λ s. s.1.0.now) (GroupAnswersPutChanged.Learnt κs a)
group_answers-put_changed κs a r r' s s' = one-result

pub group_answers-put_answer : (κs : _) (a : _) → OneWith (λ s. s.1.0.now) (GroupAnswersPutAnswer.Learnt κs a)
group_answers-put_answer κs a r r' s s' = one-result

pub group_answers-put_constant : (κs : _) (a : _) → OneWith (λ s. s.1.0.now) (GroupAnswersPutConstant.Learnt κs a)
group_answers-put_constant κs a r r' s s' = one-result

pub group_answers-put_key : (κs : _) (a : _) → OneWith (λ s. s.1.0.now) (GroupAnswersPutKey.Learnt κs a)
group_answers-put_key κs a r r' s s' = one-result

pub group_answers-put_sorted : (κs : _) (a : _) → OneWith (λ s. s.1.0.now) (GroupAnswersPutSorted.Learnt κs a)
group_answers-put_sorted κs a r r' s s' = one-result

pub group_answers-put_projected : (κs : _) (a : _) → OneWith (λ s. s.1.0.now) (GroupAnswersPutProjected.Learnt κs a)
group_answers-put_projected κs a r r' s s' = one-result

-- ---- unchecked

pub unchecked-unchecked_add_equal_conditions : (κs : _) (a : _) → OneWith (λ s. s.1.0.now) (UncheckedUncheckedAddEqualConditions.Learnt κs a)
unchecked-unchecked_add_equal_conditions κs a r r' s s' = one-result

pub unchecked-unchecked_exprs_equal : (κs : _) (a : _) → OneAnswer (UncheckedUncheckedExprsEqual.Learnt κs a)
unchecked-unchecked_exprs_equal κs a r r' s s' = one-result

pub unchecked-unchecked_normalize_expr : (κs : _) (a : _) → OneWithBoth (λ s. s.1.1.1.0.now) (λ s. s.0.now) (UncheckedUncheckedNormalizeExpr.Learnt κs a)
unchecked-unchecked_normalize_expr κs a r r' s s' = one-result

pub unchecked-unchecked_new_group : (κs : _) (a : _) → OneWith (λ s. s.1.0.now) (UncheckedUncheckedNewGroup.Learnt κs a)
unchecked-unchecked_new_group κs a r r' s s' = one-result

pub unchecked-unchecked_add_orderings : (κs : _) (a : _) → OneWith (λ s. s.0.now) (UncheckedUncheckedAddOrderings.Learnt κs a)
unchecked-unchecked_add_orderings κs a r r' s s' = one-result

pub unchecked-unchecked_generate_dependency_orderings : (κs : _) (a : _) → OneWithBoth (λ s. s.1.1.1.0.now) (λ s. s.1.1.0.now) (UncheckedUncheckedGenerateDependencyOrderings.Learnt κs a)
unchecked-unchecked_generate_dependency_orderings κs a r r' s s' = one-result
