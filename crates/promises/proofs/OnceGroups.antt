-- Two results that meet a contract are equal: the public functions of classes, group_checks, conditions, questions, normal and sort_keys.
use Rattle.laws.proofs.Determined.{one-result}
use Rattle.promises.proofs.Once.{OneAnswer, OneWith}
use Rattle.classes.proofs.building.empty.Reads as ClassesBuildingEmpty
use Rattle.classes.proofs.building.class_start.Reads as ClassesBuildingClassStart
use Rattle.classes.proofs.Constant.flavour.Reads as ClassesConstantsFlavour
use Rattle.classes.proofs.Constant.value.Reads as ClassesConstantsValue
use Rattle.classes.proofs.Constant.from_numbers.Reads as ClassesConstantsFromNumbers
use Rattle.classes.proofs.Constant.taken_over.Reads as ClassesConstantsTakenOver
use Rattle.classes.proofs.building.constant_of.Reads as ClassesBuildingConstantOf
use Rattle.classes.proofs.building.add_class.Reads as ClassesBuildingAddClass
use Rattle.classes.proofs.building.merge_last.Reads as ClassesBuildingMergeLast
use Rattle.classes.proofs.building.set_constant.Reads as ClassesBuildingSetConstant
use Rattle.classes.proofs.building.remove_class_at_idx.Reads as ClassesBuildingRemoveClassAtIdx
use Rattle.classes.proofs.building.merge_class_at_idx.Reads as ClassesBuildingMergeClassAtIdx
use Rattle.classes.proofs.building.first_member.Reads as ClassesBuildingFirstMember
use Rattle.classes.proofs.building.class_size.Reads as ClassesBuildingClassSize
use Rattle.classes.proofs.finding.find_class.Reads as ClassesFindingFindClass
use Rattle.classes.proofs.refusing.no_group.Reads as ClassesRefusingNoGroup
use Rattle.classes.proofs.single.carried.Reads as ClassesSingleCarried
use Rattle.classes.proofs.single.one_class.Reads as ClassesSingleOneClass
use Rattle.classes.proofs.single.single_group.Reads as ClassesSingleSingleGroup
use Rattle.group_checks.proofs.checking.known_flavour.Reads as GroupChecksCheckingKnownFlavour
use Rattle.group_checks.proofs.checking.in_set.Reads as GroupChecksCheckingInSet
use Rattle.group_checks.proofs.checking.members_below.Reads as GroupChecksCheckingMembersBelow
use Rattle.group_checks.proofs.checking.member_fits.Reads as GroupChecksCheckingMemberFits
use Rattle.group_checks.proofs.checking.lawful_group.Reads as GroupChecksCheckingLawfulGroup
use Rattle.group_checks.proofs.checking.check_group.Reads as GroupChecksCheckingCheckGroup
use Rattle.group_checks.proofs.open_group.Reads as GroupChecksOpenGroup
use Rattle.group_checks.proofs.check.Reads as GroupChecksCheck
use Rattle.group_checks.proofs.get_equivalence_class.Reads as GroupChecksGetEquivalenceClass
use Rattle.conditions.proofs.clearing.clear_in.Reads as ConditionsClearingClearIn
use Rattle.conditions.proofs.constants.can_say.Reads as ConditionsConstantsCanSay
use Rattle.conditions.proofs.constants.add_constant_in.Reads as ConditionsConstantsAddConstantIn
use Rattle.conditions.proofs.equating.equal_condition_in.Reads as ConditionsEquatingEqualConditionIn
use Rattle.conditions.proofs.add_equal_conditions.Reads as ConditionsAddEqualConditions
use Rattle.conditions.proofs.add_constant.Reads as ConditionsAddConstant
use Rattle.conditions.proofs.clear_per_partition_constants.Reads as ConditionsClearPerPartitionConstants
use Rattle.questions.proofs.exprs_equal.Reads as QuestionsExprsEqual
use Rattle.questions.proofs.is_expr_constant.Reads as QuestionsIsExprConstant
use Rattle.questions.proofs.questions.same_place.Reads as QuestionsQuestionsSamePlace
use Rattle.questions.proofs.questions.equal_in.Reads as QuestionsQuestionsEqualIn
use Rattle.questions.proofs.questions.constant_in.Reads as QuestionsQuestionsConstantIn
use Rattle.normal.proofs.normalize_expr.Reads as NormalNormalizeExpr
use Rattle.normal.proofs.normalizing.normalize_in.Reads as NormalNormalizingNormalizeIn
use Rattle.sort_keys.proofs.keys.no_keys.Reads as SortKeysKeysNoKeys
use Rattle.sort_keys.proofs.keys.options_known.Reads as SortKeysKeysOptionsKnown
use Rattle.sort_keys.proofs.keys.exprs_below.Reads as SortKeysKeysExprsBelow
use Rattle.sort_keys.proofs.keys.sort_in.Reads as SortKeysKeysSortIn
use Rattle.sort_keys.proofs.normalize_sort_expr.Reads as SortKeysNormalizeSortExpr
use Rattle.sort_keys.proofs.normalize_sort_exprs.Reads as SortKeysNormalizeSortExprs

-- ---- classes

pub classes-building-empty : (κs : _) (a : _) → OneAnswer (ClassesBuildingEmpty.Learnt κs a)
classes-building-empty κs a r r' s s' = one-result

pub classes-building-class_start : (κs : _) (a : _) → OneAnswer (ClassesBuildingClassStart.Learnt κs a)
classes-building-class_start κs a r r' s s' = one-result

pub classes-constants-flavour : (κs : _) (a : _) → OneAnswer (ClassesConstantsFlavour.Learnt κs a)
classes-constants-flavour κs a r r' s s' = one-result

pub classes-constants-value : (κs : _) (a : _) → OneAnswer (ClassesConstantsValue.Learnt κs a)
classes-constants-value κs a r r' s s' = one-result

pub classes-constants-from_numbers : (κs : _) (a : _) → OneAnswer (ClassesConstantsFromNumbers.Learnt κs a)
classes-constants-from_numbers κs a r r' s s' = one-result

pub classes-constants-taken_over : (κs : _) (a : _) → OneAnswer (ClassesConstantsTakenOver.Learnt κs a)
classes-constants-taken_over κs a r r' s s' = one-result

pub classes-building-constant_of : (κs : _) (a : _) → OneAnswer (ClassesBuildingConstantOf.Learnt κs a)
classes-building-constant_of κs a r r' s s' = one-result

pub classes-building-add_class : (κs : _) (a : _) → OneAnswer (ClassesBuildingAddClass.Learnt κs a)
classes-building-add_class κs a r r' s s' = one-result

pub classes-building-merge_last : (κs : _) (a : _) → OneAnswer (ClassesBuildingMergeLast.Learnt κs a)
classes-building-merge_last κs a r r' s s' = one-result

pub classes-building-set_constant : (κs : _) (a : _) → OneAnswer (ClassesBuildingSetConstant.Learnt κs a)
classes-building-set_constant κs a r r' s s' = one-result

pub classes-building-remove_class_at_idx : (κs : _) (a : _) → OneAnswer (ClassesBuildingRemoveClassAtIdx.Learnt κs a)
classes-building-remove_class_at_idx κs a r r' s s' = one-result

pub classes-building-merge_class_at_idx : (κs : _) (a : _) → OneAnswer (ClassesBuildingMergeClassAtIdx.Learnt κs a)
classes-building-merge_class_at_idx κs a r r' s s' = one-result

pub classes-building-first_member : (κs : _) (a : _) → OneAnswer (ClassesBuildingFirstMember.Learnt κs a)
classes-building-first_member κs a r r' s s' = one-result

pub classes-building-class_size : (κs : _) (a : _) → OneAnswer (ClassesBuildingClassSize.Learnt κs a)
classes-building-class_size κs a r r' s s' = one-result

pub classes-finding-find_class : (κs : _) (a : _) → OneAnswer (ClassesFindingFindClass.Learnt κs a)
classes-finding-find_class κs a r r' s s' = one-result

pub classes-refusing-no_group : (κs : _) (a : _) → OneAnswer (ClassesRefusingNoGroup.Learnt κs a)
classes-refusing-no_group κs a r r' s s' = one-result

pub classes-single-carried : (κs : _) (a : _) → OneAnswer (ClassesSingleCarried.Learnt κs a)
classes-single-carried κs a r r' s s' = one-result

pub classes-single-one_class : (κs : _) (a : _) → OneAnswer (ClassesSingleOneClass.Learnt κs a)
classes-single-one_class κs a r r' s s' = one-result

pub classes-single-single_group : (κs : _) (a : _) → OneAnswer (ClassesSingleSingleGroup.Learnt κs a)
classes-single-single_group κs a r r' s s' = one-result

-- ---- group_checks

pub group_checks-checking-known_flavour : (κs : _) (a : _) → OneAnswer (GroupChecksCheckingKnownFlavour.Learnt κs a)
group_checks-checking-known_flavour κs a r r' s s' = one-result

pub group_checks-checking-in_set : (κs : _) (a : _) → OneAnswer (GroupChecksCheckingInSet.Learnt κs a)
group_checks-checking-in_set κs a r r' s s' = one-result

pub group_checks-checking-members_below : (κs : _) (a : _) → OneAnswer (GroupChecksCheckingMembersBelow.Learnt κs a)
group_checks-checking-members_below κs a r r' s s' = one-result

pub group_checks-checking-member_fits : (κs : _) (a : _) → OneAnswer (GroupChecksCheckingMemberFits.Learnt κs a)
group_checks-checking-member_fits κs a r r' s s' = one-result

pub group_checks-checking-lawful_group : (κs : _) (a : _) → OneAnswer (GroupChecksCheckingLawfulGroup.Learnt κs a)
group_checks-checking-lawful_group κs a r r' s s' = one-result

pub group_checks-checking-check_group : (κs : _) (a : _) → OneAnswer (GroupChecksCheckingCheckGroup.Learnt κs a)
group_checks-checking-check_group κs a r r' s s' = one-result

pub group_checks-open_group : (κs : _) (a : _) → OneAnswer (GroupChecksOpenGroup.Learnt κs a)
group_checks-open_group κs a r r' s s' = one-result

pub group_checks-check : (κs : _) (a : _) → OneAnswer (GroupChecksCheck.Learnt κs a)
group_checks-check κs a r r' s s' = one-result

pub group_checks-get_equivalence_class : (κs : _) (a : _) → OneAnswer (GroupChecksGetEquivalenceClass.Learnt κs a)
group_checks-get_equivalence_class κs a r r' s s' = one-result

-- ---- conditions

pub conditions-clearing-clear_in : (κs : _) (a : _) → OneAnswer (ConditionsClearingClearIn.Learnt κs a)
conditions-clearing-clear_in κs a r r' s s' = one-result

pub conditions-constants-can_say : (κs : _) (a : _) → OneAnswer (ConditionsConstantsCanSay.Learnt κs a)
conditions-constants-can_say κs a r r' s s' = one-result

pub conditions-constants-add_constant_in : (κs : _) (a : _) → OneAnswer (ConditionsConstantsAddConstantIn.Learnt κs a)
conditions-constants-add_constant_in κs a r r' s s' = one-result

pub conditions-equating-equal_condition_in : (κs : _) (a : _) → OneAnswer (ConditionsEquatingEqualConditionIn.Learnt κs a)
conditions-equating-equal_condition_in κs a r r' s s' = one-result

pub conditions-add_equal_conditions : (κs : _) (a : _) → OneAnswer (ConditionsAddEqualConditions.Learnt κs a)
conditions-add_equal_conditions κs a r r' s s' = one-result

pub conditions-add_constant : (κs : _) (a : _) → OneAnswer (ConditionsAddConstant.Learnt κs a)
conditions-add_constant κs a r r' s s' = one-result

pub conditions-clear_per_partition_constants : (κs : _) (a : _) → OneAnswer (ConditionsClearPerPartitionConstants.Learnt κs a)
conditions-clear_per_partition_constants κs a r r' s s' = one-result

-- ---- questions

pub questions-exprs_equal : (κs : _) (a : _) → OneAnswer (QuestionsExprsEqual.Learnt κs a)
questions-exprs_equal κs a r r' s s' = one-result

pub questions-is_expr_constant : (κs : _) (a : _) → OneAnswer (QuestionsIsExprConstant.Learnt κs a)
questions-is_expr_constant κs a r r' s s' = one-result

pub questions-questions-same_place : (κs : _) (a : _) → OneAnswer (QuestionsQuestionsSamePlace.Learnt κs a)
questions-questions-same_place κs a r r' s s' = one-result

pub questions-questions-equal_in : (κs : _) (a : _) → OneAnswer (QuestionsQuestionsEqualIn.Learnt κs a)
questions-questions-equal_in κs a r r' s s' = one-result

pub questions-questions-constant_in : (κs : _) (a : _) → OneAnswer (QuestionsQuestionsConstantIn.Learnt κs a)
questions-questions-constant_in κs a r r' s s' = one-result

-- ---- normal

pub normal-normalize_expr : (κs : _) (a : _) → OneWith (λ s. s.0.now) (NormalNormalizeExpr.Learnt κs a)
normal-normalize_expr κs a r r' s s' = one-result

pub normal-normalizing-normalize_in : (κs : _) (a : _) → OneWith (λ s. s.0.now) (NormalNormalizingNormalizeIn.Learnt κs a)
normal-normalizing-normalize_in κs a r r' s s' = one-result

-- ---- sort_keys

pub sort_keys-keys-no_keys : (κs : _) (a : _) → OneAnswer (SortKeysKeysNoKeys.Learnt κs a)
sort_keys-keys-no_keys κs a r r' s s' = one-result

pub sort_keys-keys-options_known : (κs : _) (a : _) → OneAnswer (SortKeysKeysOptionsKnown.Learnt κs a)
sort_keys-keys-options_known κs a r r' s s' = one-result

pub sort_keys-keys-exprs_below : (κs : _) (a : _) → OneAnswer (SortKeysKeysExprsBelow.Learnt κs a)
sort_keys-keys-exprs_below κs a r r' s s' = one-result

pub sort_keys-keys-sort_in : (κs : _) (a : _) → OneWith (λ s. s.0.now) (SortKeysKeysSortIn.Learnt κs a)
sort_keys-keys-sort_in κs a r r' s s' = one-result

pub sort_keys-normalize_sort_expr : (κs : _) (a : _) → OneWith (λ s. s.0.now) (SortKeysNormalizeSortExpr.Learnt κs a)
sort_keys-normalize_sort_expr κs a r r' s s' = one-result

pub sort_keys-normalize_sort_exprs : (κs : _) (a : _) → OneWith (λ s. s.0.now) (SortKeysNormalizeSortExprs.Learnt κs a)
sort_keys-normalize_sort_exprs κs a r r' s s' = one-result
