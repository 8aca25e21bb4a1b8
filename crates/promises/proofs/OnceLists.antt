-- Two results that meet a contract are equal: the public functions of lent_classes, merging, shifted_classes, joins, mappings, projection and group_projection.
use Rattle.laws.proofs.Determined.{one-result}
use Rattle.promises.proofs.Once.{OneAnswer, OneWith, OneWithBoth}
use Rattle.lent_classes.proofs.lent.number_at.Reads as LentClassesLentNumberAt
use Rattle.lent_classes.proofs.lent.new_number.Reads as LentClassesLentNewNumber
use Rattle.lent_classes.proofs.lent.lent_classes.Reads as LentClassesLentLentClasses
use Rattle.merging.proofs.bridging.drop_trivial.Reads as MergingBridgingDropTrivial
use Rattle.merging.proofs.bridging.bridge_classes.Reads as MergingBridgingBridgeClasses
use Rattle.merging.proofs.bridging.from_classes.Reads as MergingBridgingFromClasses
use Rattle.merging.proofs.bridging.made.Reads as MergingBridgingMade
use Rattle.merging.proofs.extending.class_holds.Reads as MergingExtendingClassHolds
use Rattle.merging.proofs.extending.contains_any.Reads as MergingExtendingContainsAny
use Rattle.merging.proofs.extending.is_trivial.Reads as MergingExtendingIsTrivial
use Rattle.merging.proofs.extending.one_empty.Reads as MergingExtendingOneEmpty
use Rattle.merging.proofs.extending.extend.Reads as MergingExtendingExtend
use Rattle.merging.proofs.extending.push.Reads as MergingExtendingPush
use Rattle.merging.proofs.new.Reads as MergingNew
use Rattle.shifted_classes.proofs.right_side.members_move.Reads as ShiftedClassesRightSideMembersMove
use Rattle.shifted_classes.proofs.right_side.rights_move.Reads as ShiftedClassesRightSideRightsMove
use Rattle.shifted_classes.proofs.right_side.add_class_from.Reads as ShiftedClassesRightSideAddClassFrom
use Rattle.shifted_classes.proofs.right_side.add_shifted.Reads as ShiftedClassesRightSideAddShifted
use Rattle.joins.proofs.joining.join_number.Reads as JoinsJoiningJoinNumber
use Rattle.joins.proofs.joining.join_by.Reads as JoinsJoiningJoinBy
use Rattle.joins.proofs.kinds.kind_of.Reads as JoinsKindsKindOf
use Rattle.joins.proofs.join.Reads as JoinsJoin
use Rattle.mappings.proofs.lent.project_number.Reads as MappingsLentProjectNumber
use Rattle.projection.proofs.project_expr.Reads as ProjectionProjectExpr
use Rattle.projection.proofs.project_expressions.Reads as ProjectionProjectExpressions
use Rattle.projection.proofs.listing.project_list.Reads as ProjectionListingProjectList
use Rattle.projection.proofs.walking.project_in.Reads as ProjectionWalkingProjectIn
use Rattle.group_projection.proofs.constants.source_constants.Reads as GroupProjectionConstantsSourceConstants
use Rattle.group_projection.proofs.project.Reads as GroupProjectionProject
use Rattle.group_projection.proofs.listing.projected_list.Reads as GroupProjectionListingProjectedList
use Rattle.group_projection.proofs.projecting.project_in.Reads as GroupProjectionProjectingProjectIn

-- ---- lent_classes

pub lent_classes-lent_number-at : (κs : _) (a : _) → OneAnswer (LentClassesLentNumberAt.Learnt κs a)
lent_classes-lent_number-at κs a r r' s s' = one-result

pub lent_classes-lent-new_number : (κs : _) (a : _) → OneAnswer (LentClassesLentNewNumber.Learnt κs a)
lent_classes-lent-new_number κs a r r' s s' = one-result

pub lent_classes-lent-lent_classes : (κs : _) (a : _) → OneAnswer (LentClassesLentLentClasses.Learnt κs a)
lent_classes-lent-lent_classes κs a r r' s s' = one-result

-- ---- merging

pub merging-bridging-drop_trivial : (κs : _) (a : _) → OneAnswer (MergingBridgingDropTrivial.Learnt κs a)
merging-bridging-drop_trivial κs a r r' s s' = one-result

pub merging-bridging-bridge_classes : (κs : _) (a : _) → OneAnswer (MergingBridgingBridgeClasses.Learnt κs a)
merging-bridging-bridge_classes κs a r r' s s' = one-result

pub merging-bridging-from_classes : (κs : _) (a : _) → OneAnswer (MergingBridgingFromClasses.Learnt κs a)
merging-bridging-from_classes κs a r r' s s' = one-result

pub merging-bridging-made : (κs : _) (a : _) → OneAnswer (MergingBridgingMade.Learnt κs a)
merging-bridging-made κs a r r' s s' = one-result

pub merging-extending-class_holds : (κs : _) (a : _) → OneAnswer (MergingExtendingClassHolds.Learnt κs a)
merging-extending-class_holds κs a r r' s s' = one-result

pub merging-extending-contains_any : (κs : _) (a : _) → OneAnswer (MergingExtendingContainsAny.Learnt κs a)
merging-extending-contains_any κs a r r' s s' = one-result

pub merging-extending-is_trivial : (κs : _) (a : _) → OneAnswer (MergingExtendingIsTrivial.Learnt κs a)
merging-extending-is_trivial κs a r r' s s' = one-result

pub merging-extending-one_empty : (κs : _) (a : _) → OneAnswer (MergingExtendingOneEmpty.Learnt κs a)
merging-extending-one_empty κs a r r' s s' = one-result

pub merging-extending-extend : (κs : _) (a : _) → OneAnswer (MergingExtendingExtend.Learnt κs a)
merging-extending-extend κs a r r' s s' = one-result

pub merging-extending-push : (κs : _) (a : _) → OneAnswer (MergingExtendingPush.Learnt κs a)
merging-extending-push κs a r r' s s' = one-result

pub merging-new : (κs : _) (a : _) → OneAnswer (MergingNew.Learnt κs a)
merging-new κs a r r' s s' = one-result

-- ---- shifted_classes

pub shifted_classes-right_side-members_move : (κs : _) (a : _) → OneAnswer (ShiftedClassesRightSideMembersMove.Learnt κs a)
shifted_classes-right_side-members_move κs a r r' s s' = one-result

pub shifted_classes-right_side-rights_move : (κs : _) (a : _) → OneAnswer (ShiftedClassesRightSideRightsMove.Learnt κs a)
shifted_classes-right_side-rights_move κs a r r' s s' = one-result

pub shifted_classes-right_side-add_class_from : (κs : _) (a : _) → OneAnswer (ShiftedClassesRightSideAddClassFrom.Learnt κs a)
shifted_classes-right_side-add_class_from κs a r r' s s' = one-result

pub shifted_classes-right_side-add_shifted : (κs : _) (a : _) → OneAnswer (ShiftedClassesRightSideAddShifted.Learnt κs a)
shifted_classes-right_side-add_shifted κs a r r' s s' = one-result

-- ---- joins

pub joins-joining-join_number : (κs : _) (a : _) → OneAnswer (JoinsJoiningJoinNumber.Learnt κs a)
joins-joining-join_number κs a r r' s s' = one-result

pub joins-joining-join_by : (κs : _) (a : _) → OneWith (λ s. s.0.now) (JoinsJoiningJoinBy.Learnt κs a)
joins-joining-join_by κs a r r' s s' = one-result

pub joins-kinds-kind_of : (κs : _) (a : _) → OneAnswer (JoinsKindsKindOf.Learnt κs a)
joins-kinds-kind_of κs a r r' s s' = one-result

pub joins-join : (κs : _) (a : _) → OneWith (λ s. s.0.now) (JoinsJoin.Learnt κs a)
joins-join κs a r r' s s' = one-result

-- ---- mappings

pub mappings-lent-project_number : (κs : _) (a : _) → OneAnswer (MappingsLentProjectNumber.Learnt κs a)
mappings-lent-project_number κs a r r' s s' = one-result

-- ---- projection

pub projection-project_expr : (κs : _) (a : _) → OneWith (λ s. s.0.now) (ProjectionProjectExpr.Learnt κs a)
projection-project_expr κs a r r' s s' = one-result

pub projection-project_expressions : (κs : _) (a : _) → OneWithBoth (λ s. s.1.1.1.1.0.now) (λ s. s.0.now) (ProjectionProjectExpressions.Learnt κs a)
projection-project_expressions κs a r r' s s' = one-result

pub projection-listing-project_list : (κs : _) (a : _) → OneWithBoth (λ s. s.1.1.1.1.0.now) (λ s. s.0.now) (ProjectionListingProjectList.Learnt κs a)
projection-listing-project_list κs a r r' s s' = one-result

pub projection-walking-project_in : (κs : _) (a : _) → OneWith (λ s. s.0.now) (ProjectionWalkingProjectIn.Learnt κs a)
projection-walking-project_in κs a r r' s s' = one-result

-- ---- group_projection

pub group_projection-constants-source_constants : (κs : _) (a : _) → OneAnswer (GroupProjectionConstantsSourceConstants.Learnt κs a)
group_projection-constants-source_constants κs a r r' s s' = one-result

pub group_projection-project : (κs : _) (a : _) → OneWith (λ s. s.0.now) (GroupProjectionProject.Learnt κs a)
group_projection-project κs a r r' s s' = one-result

pub group_projection-listing-projected_list : (κs : _) (a : _) → OneAnswer (GroupProjectionListingProjectedList.Learnt κs a)
group_projection-listing-projected_list κs a r r' s s' = one-result

pub group_projection-projecting-project_in : (κs : _) (a : _) → OneWith (λ s. s.0.now) (GroupProjectionProjectingProjectIn.Learnt κs a)
group_projection-projecting-project_in κs a r r' s s' = one-result
