-- Two results that meet a contract are equal: the public functions of orderings, ordering_questions, reduction and ordering_joins.
use Rattle.laws.proofs.Determined.{one-result}
use Rattle.promises.proofs.Once.{OneAnswer, OneWith}
use Rattle.orderings.proofs.checking.lawful_list.Reads as OrderingsCheckingLawfulList
use Rattle.orderings.proofs.checking.expr_of.Reads as OrderingsCheckingExprOf
use Rattle.orderings.proofs.checking.keys_below.Reads as OrderingsCheckingKeysBelow
use Rattle.orderings.proofs.checking.check_list.Reads as OrderingsCheckingCheckList
use Rattle.orderings.proofs.checking.check_two.Reads as OrderingsCheckingCheckTwo
use Rattle.orderings.proofs.check.Reads as OrderingsCheck
use Rattle.orderings.proofs.clear.Reads as OrderingsClear
use Rattle.orderings.proofs.making.nothing.Reads as OrderingsMakingNothing
use Rattle.orderings.proofs.making.no_orderings.Reads as OrderingsMakingNoOrderings
use Rattle.orderings.proofs.making.append.Reads as OrderingsMakingAppend
use Rattle.orderings.proofs.making.refusal.Reads as OrderingsMakingRefusal
use Rattle.orderings.proofs.pushing.push.Reads as OrderingsPushingPush
use Rattle.orderings.proofs.pushing.extend.Reads as OrderingsPushingExtend
use Rattle.ordering_questions.proofs.get_options.Reads as OrderingQuestionsGetOptions
use Rattle.ordering_questions.proofs.is_expr_partial_const.Reads as OrderingQuestionsIsExprPartialConst
use Rattle.ordering_questions.proofs.questions.options_in.Reads as OrderingQuestionsQuestionsOptionsIn
use Rattle.ordering_questions.proofs.questions.partial_in.Reads as OrderingQuestionsQuestionsPartialIn
use Rattle.reduction.proofs.lent.lent_number.Reads as ReductionLentLentNumber
use Rattle.reduction.proofs.lent.extend_number.Reads as ReductionLentExtendNumber
use Rattle.reduction.proofs.lent.add_in.Reads as ReductionLentAddIn
use Rattle.reduction.proofs.add_orderings.Reads as ReductionAddOrderings
use Rattle.reduction.proofs.new.Reads as ReductionNew
use Rattle.reduction.proofs.extend.Reads as ReductionExtend
use Rattle.reduction.proofs.reducing.remove_redundant_entries.Reads as ReductionReducingRemoveRedundantEntries
use Rattle.ordering_joins.proofs.joining.output_in.Reads as OrderingJoinsJoiningOutputIn
use Rattle.ordering_joins.proofs.joining.join_in.Reads as OrderingJoinsJoiningJoinIn
use Rattle.ordering_joins.proofs.add_offset.Reads as OrderingJoinsAddOffset
use Rattle.ordering_joins.proofs.output_ordering.Reads as OrderingJoinsOutputOrdering
use Rattle.ordering_joins.proofs.join_suffix.Reads as OrderingJoinsJoinSuffix
use Rattle.ordering_joins.proofs.offsetting.offset_in.Reads as OrderingJoinsOffsettingOffsetIn

-- ---- orderings

pub orderings-checking-lawful_list : (κs : _) (a : _) → OneAnswer (OrderingsCheckingLawfulList.Learnt κs a)
orderings-checking-lawful_list κs a r r' s s' = one-result

pub orderings-checking-expr_of : (κs : _) (a : _) → OneAnswer (OrderingsCheckingExprOf.Learnt κs a)
orderings-checking-expr_of κs a r r' s s' = one-result

pub orderings-checking-keys_below : (κs : _) (a : _) → OneAnswer (OrderingsCheckingKeysBelow.Learnt κs a)
orderings-checking-keys_below κs a r r' s s' = one-result

pub orderings-checking-check_list : (κs : _) (a : _) → OneAnswer (OrderingsCheckingCheckList.Learnt κs a)
orderings-checking-check_list κs a r r' s s' = one-result

pub orderings-checking-check_two : (κs : _) (a : _) → OneAnswer (OrderingsCheckingCheckTwo.Learnt κs a)
orderings-checking-check_two κs a r r' s s' = one-result

pub orderings-check : (κs : _) (a : _) → OneAnswer (OrderingsCheck.Learnt κs a)
orderings-check κs a r r' s s' = one-result

pub orderings-clear : (κs : _) (a : _) → OneAnswer (OrderingsClear.Learnt κs a)
orderings-clear κs a r r' s s' = one-result

pub orderings-making-nothing : (κs : _) (a : _) → OneAnswer (OrderingsMakingNothing.Learnt κs a)
orderings-making-nothing κs a r r' s s' = one-result

pub orderings-making-no_orderings : (κs : _) (a : _) → OneAnswer (OrderingsMakingNoOrderings.Learnt κs a)
orderings-making-no_orderings κs a r r' s s' = one-result

pub orderings-making-append : (κs : _) (a : _) → OneAnswer (OrderingsMakingAppend.Learnt κs a)
orderings-making-append κs a r r' s s' = one-result

pub orderings-making-refusal : (κs : _) (a : _) → OneAnswer (OrderingsMakingRefusal.Learnt κs a)
orderings-making-refusal κs a r r' s s' = one-result

pub orderings-pushing-push : (κs : _) (a : _) → OneAnswer (OrderingsPushingPush.Learnt κs a)
orderings-pushing-push κs a r r' s s' = one-result

pub orderings-pushing-extend : (κs : _) (a : _) → OneAnswer (OrderingsPushingExtend.Learnt κs a)
orderings-pushing-extend κs a r r' s s' = one-result

-- ---- ordering_questions

pub ordering_questions-get_options : (κs : _) (a : _) → OneAnswer (OrderingQuestionsGetOptions.Learnt κs a)
ordering_questions-get_options κs a r r' s s' = one-result

pub ordering_questions-is_expr_partial_const : (κs : _) (a : _) → OneAnswer (OrderingQuestionsIsExprPartialConst.Learnt κs a)
ordering_questions-is_expr_partial_const κs a r r' s s' = one-result

pub ordering_questions-questions-options_in : (κs : _) (a : _) → OneAnswer (OrderingQuestionsQuestionsOptionsIn.Learnt κs a)
ordering_questions-questions-options_in κs a r r' s s' = one-result

pub ordering_questions-questions-partial_in : (κs : _) (a : _) → OneAnswer (OrderingQuestionsQuestionsPartialIn.Learnt κs a)
ordering_questions-questions-partial_in κs a r r' s s' = one-result

-- ---- reduction

pub reduction-lent-lent_number : (κs : _) (a : _) → OneAnswer (ReductionLentLentNumber.Learnt κs a)
reduction-lent-lent_number κs a r r' s s' = one-result

pub reduction-lent-extend_number : (κs : _) (a : _) → OneAnswer (ReductionLentExtendNumber.Learnt κs a)
reduction-lent-extend_number κs a r r' s s' = one-result

pub reduction-lent-add_in : (κs : _) (a : _) → OneAnswer (ReductionLentAddIn.Learnt κs a)
reduction-lent-add_in κs a r r' s s' = one-result

pub reduction-add_orderings : (κs : _) (a : _) → OneAnswer (ReductionAddOrderings.Learnt κs a)
reduction-add_orderings κs a r r' s s' = one-result

pub reduction-new : (κs : _) (a : _) → OneAnswer (ReductionNew.Learnt κs a)
reduction-new κs a r r' s s' = one-result

pub reduction-extend : (κs : _) (a : _) → OneAnswer (ReductionExtend.Learnt κs a)
reduction-extend κs a r r' s s' = one-result

pub reduction-reducing-remove_redundant_entries : (κs : _) (a : _) → OneAnswer (ReductionReducingRemoveRedundantEntries.Learnt κs a)
reduction-reducing-remove_redundant_entries κs a r r' s s' = one-result

-- ---- ordering_joins

pub ordering_joins-joining-output_in : (κs : _) (a : _) → OneAnswer (OrderingJoinsJoiningOutputIn.Learnt κs a)
ordering_joins-joining-output_in κs a r r' s s' = one-result

pub ordering_joins-joining-join_in : (κs : _) (a : _) → OneAnswer (OrderingJoinsJoiningJoinIn.Learnt κs a)
ordering_joins-joining-join_in κs a r r' s s' = one-result

pub ordering_joins-add_offset : (κs : _) (a : _) → OneWith (λ s. s.0.now) (OrderingJoinsAddOffset.Learnt κs a)
ordering_joins-add_offset κs a r r' s s' = one-result

pub ordering_joins-output_ordering : (κs : _) (a : _) → OneAnswer (OrderingJoinsOutputOrdering.Learnt κs a)
ordering_joins-output_ordering κs a r r' s s' = one-result

pub ordering_joins-join_suffix : (κs : _) (a : _) → OneAnswer (OrderingJoinsJoinSuffix.Learnt κs a)
ordering_joins-join_suffix κs a r r' s s' = one-result

pub ordering_joins-offsetting-offset_in : (κs : _) (a : _) → OneWith (λ s. s.0.now) (OrderingJoinsOffsettingOffsetIn.Learnt κs a)
ordering_joins-offsetting-offset_in κs a r r' s s' = one-result
