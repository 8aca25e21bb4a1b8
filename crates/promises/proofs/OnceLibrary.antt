-- Two results that meet a contract are equal: the public functions of galthumir.
use Rattle.laws.proofs.Determined.{one-result}
use Rattle.promises.proofs.Once.{OneAnswer, OneWith, OneWithBoth}
use Rattle.galthumir.proofs.expressions.galthumir_check_arena.Reads as GalthumirExpressionsGalthumirCheckArena
use Rattle.galthumir.proofs.expressions.galthumir_add_column.Reads as GalthumirExpressionsGalthumirAddColumn
use Rattle.galthumir.proofs.expressions.galthumir_add_literal.Reads as GalthumirExpressionsGalthumirAddLiteral
use Rattle.galthumir.proofs.expressions.galthumir_add_operation.Reads as GalthumirExpressionsGalthumirAddOperation
use Rattle.galthumir.proofs.expressions.galthumir_read_node.Reads as GalthumirExpressionsGalthumirReadNode
use Rattle.galthumir.proofs.expressions.galthumir_read_child.Reads as GalthumirExpressionsGalthumirReadChild
use Rattle.galthumir.proofs.expressions.galthumir_add_offset_to_expr.Reads as GalthumirExpressionsGalthumirAddOffsetToExpr
use Rattle.galthumir.proofs.groups.galthumir_open_group.Reads as GalthumirGroupsGalthumirOpenGroup
use Rattle.galthumir.proofs.groups.galthumir_check_group.Reads as GalthumirGroupsGalthumirCheckGroup
use Rattle.galthumir.proofs.groups.galthumir_get_equivalence_class.Reads as GalthumirGroupsGalthumirGetEquivalenceClass
use Rattle.galthumir.proofs.groups.galthumir_add_equal_conditions.Reads as GalthumirGroupsGalthumirAddEqualConditions
use Rattle.galthumir.proofs.groups.galthumir_add_constant.Reads as GalthumirGroupsGalthumirAddConstant
use Rattle.galthumir.proofs.groups.galthumir_clear_per_partition_constants.Reads as GalthumirGroupsGalthumirClearPerPartitionConstants
use Rattle.galthumir.proofs.groups.galthumir_exprs_equal.Reads as GalthumirGroupsGalthumirExprsEqual
use Rattle.galthumir.proofs.groups.galthumir_is_expr_constant.Reads as GalthumirGroupsGalthumirIsExprConstant
use Rattle.galthumir.proofs.groups.galthumir_normalize_expr.Reads as GalthumirGroupsGalthumirNormalizeExpr
use Rattle.galthumir.proofs.groups.galthumir_normalize_sort_expr.Reads as GalthumirGroupsGalthumirNormalizeSortExpr
use Rattle.galthumir.proofs.groups.galthumir_normalize_sort_exprs.Reads as GalthumirGroupsGalthumirNormalizeSortExprs
use Rattle.galthumir.proofs.groups.galthumir_new_group.Reads as GalthumirGroupsGalthumirNewGroup
use Rattle.galthumir.proofs.groups.galthumir_join.Reads as GalthumirGroupsGalthumirJoin
use Rattle.galthumir.proofs.groups.galthumir_project.Reads as GalthumirGroupsGalthumirProject
use Rattle.galthumir.proofs.groups.galthumir_project_expr.Reads as GalthumirGroupsGalthumirProjectExpr
use Rattle.galthumir.proofs.groups.galthumir_project_expressions.Reads as GalthumirGroupsGalthumirProjectExpressions
use Rattle.galthumir.proofs.maps.galthumir_check_map.Reads as GalthumirMapsGalthumirCheckMap
use Rattle.galthumir.proofs.maps.galthumir_insert.Reads as GalthumirMapsGalthumirInsert
use Rattle.galthumir.proofs.maps.galthumir_construct_prefix_orderings.Reads as GalthumirMapsGalthumirConstructPrefixOrderings
use Rattle.galthumir.proofs.maps.galthumir_generate_dependency_orderings.Reads as GalthumirMapsGalthumirGenerateDependencyOrderings
use Rattle.galthumir.proofs.orders.galthumir_check_orderings.Reads as GalthumirOrdersGalthumirCheckOrderings
use Rattle.galthumir.proofs.orders.galthumir_new_orderings.Reads as GalthumirOrdersGalthumirNewOrderings
use Rattle.galthumir.proofs.orders.galthumir_add_orderings.Reads as GalthumirOrdersGalthumirAddOrderings
use Rattle.galthumir.proofs.orders.galthumir_extend_orderings.Reads as GalthumirOrdersGalthumirExtendOrderings
use Rattle.galthumir.proofs.orders.galthumir_clear_orderings.Reads as GalthumirOrdersGalthumirClearOrderings
use Rattle.galthumir.proofs.orders.galthumir_get_options.Reads as GalthumirOrdersGalthumirGetOptions
use Rattle.galthumir.proofs.orders.galthumir_is_expr_partial_const.Reads as GalthumirOrdersGalthumirIsExprPartialConst
use Rattle.galthumir.proofs.orders.galthumir_output_ordering.Reads as GalthumirOrdersGalthumirOutputOrdering
use Rattle.galthumir.proofs.orders.galthumir_join_suffix.Reads as GalthumirOrdersGalthumirJoinSuffix
use Rattle.galthumir.proofs.orders.galthumir_add_offset.Reads as GalthumirOrdersGalthumirAddOffset
use Rattle.galthumir.proofs.sessions.galthumir_read_record.Reads as GalthumirSessionsGalthumirReadRecord
use Rattle.galthumir.proofs.sessions.galthumir_read_group.Reads as GalthumirSessionsGalthumirReadGroup
use Rattle.galthumir.proofs.sessions.galthumir_chosen.Reads as GalthumirSessionsGalthumirChosen
use Rattle.galthumir.proofs.sessions.galthumir_session.Reads as GalthumirSessionsGalthumirSession

-- ---- galthumir

pub galthumir-expressions-galthumir_check_arena : (κs : _) (a : _) → OneAnswer (GalthumirExpressionsGalthumirCheckArena.Learnt κs a)
galthumir-expressions-galthumir_check_arena κs a r r' s s' = one-result

pub galthumir-expressions-galthumir_add_column : (κs : _) (a : _) → OneWithBoth (λ s. s.1.1.1.0.now) (λ s. s.0.now) (GalthumirExpressionsGalthumirAddColumn.Learnt κs a)
galthumir-expressions-galthumir_add_column κs a r r' s s' = one-result

pub galthumir-expressions-galthumir_add_literal : (κs : _) (a : _) → OneWithBoth (λ s. s.1.1.0.now) (λ s. s.0.now) (GalthumirExpressionsGalthumirAddLiteral.Learnt κs a)
galthumir-expressions-galthumir_add_literal κs a r r' s s' = one-result

pub galthumir-expressions-galthumir_add_operation : (κs : _) (a : _) → OneWithBoth (λ s. s.1.1.1.0.now) (λ s. s.0.now) (GalthumirExpressionsGalthumirAddOperation.Learnt κs a)
galthumir-expressions-galthumir_add_operation κs a r r' s s' = one-result

pub galthumir-expressions-galthumir_read_node : (κs : _) (a : _) → OneWith (λ s. s.1.1.0.now) (GalthumirExpressionsGalthumirReadNode.Learnt κs a)
galthumir-expressions-galthumir_read_node κs a r r' s s' = one-result

pub galthumir-expressions-galthumir_read_child : (κs : _) (a : _) → OneWith (λ s. s.1.1.1.0.now) (GalthumirExpressionsGalthumirReadChild.Learnt κs a)
galthumir-expressions-galthumir_read_child κs a r r' s s' = one-result

pub galthumir-expressions-galthumir_add_offset_to_expr : (κs : _) (a : _) → OneWithBoth (λ s. s.1.1.1.0.now) (λ s. s.0.now) (GalthumirExpressionsGalthumirAddOffsetToExpr.Learnt κs a)
galthumir-expressions-galthumir_add_offset_to_expr κs a r r' s s' = one-result

pub galthumir-groups-galthumir_open_group : (κs : _) (a : _) → OneWith (λ s. s.1.0.now) (GalthumirGroupsGalthumirOpenGroup.Learnt κs a)
galthumir-groups-galthumir_open_group κs a r r' s s' = one-result

pub galthumir-groups-galthumir_check_group : (κs : _) (a : _) → OneAnswer (GalthumirGroupsGalthumirCheckGroup.Learnt κs a)
galthumir-groups-galthumir_check_group κs a r r' s s' = one-result

pub galthumir-groups-galthumir_get_equivalence_class : (κs : _) (a : _) → OneWith (λ s. s.1.1.1.0.now) (GalthumirGroupsGalthumirGetEquivalenceClass.Learnt κs a)
galthumir-groups-galthumir_get_equivalence_class κs a r r' s s' = one-result

pub galthumir-groups-galthumir_add_equal_conditions : (κs : _) (a : _) → OneWithBoth (λ s. s.1.1.1.1.0.now) (λ s. s.1.0.now) (GalthumirGroupsGalthumirAddEqualConditions.Learnt κs a)
galthumir-groups-galthumir_add_equal_conditions κs a r r' s s' = one-result

pub galthumir-groups-galthumir_add_constant : (κs : _) (a : _) → OneWith (λ s. s.1.0.now) (GalthumirGroupsGalthumirAddConstant.Learnt κs a)
galthumir-groups-galthumir_add_constant κs a r r' s s' = one-result

pub galthumir-groups-galthumir_clear_per_partition_constants : (κs : _) (a : _) → OneWithBoth (λ s. s.1.1.0.now) (λ s. s.1.0.now) (GalthumirGroupsGalthumirClearPerPartitionConstants.Learnt κs a)
galthumir-groups-galthumir_clear_per_partition_constants κs a r r' s s' = one-result

pub galthumir-groups-galthumir_exprs_equal : (κs : _) (a : _) → OneWith (λ s. s.1.1.1.1.0.now) (GalthumirGroupsGalthumirExprsEqual.Learnt κs a)
galthumir-groups-galthumir_exprs_equal κs a r r' s s' = one-result

pub galthumir-groups-galthumir_is_expr_constant : (κs : _) (a : _) → OneWith (λ s. s.1.1.1.0.now) (GalthumirGroupsGalthumirIsExprConstant.Learnt κs a)
galthumir-groups-galthumir_is_expr_constant κs a r r' s s' = one-result

pub galthumir-groups-galthumir_normalize_expr : (κs : _) (a : _) → OneWithBoth (λ s. s.1.1.1.0.now) (λ s. s.0.now) (GalthumirGroupsGalthumirNormalizeExpr.Learnt κs a)
galthumir-groups-galthumir_normalize_expr κs a r r' s s' = one-result

pub galthumir-groups-galthumir_normalize_sort_expr : (κs : _) (a : _) → OneWithBoth (λ s. s.1.1.1.1.0.now) (λ s. s.0.now) (GalthumirGroupsGalthumirNormalizeSortExpr.Learnt κs a)
galthumir-groups-galthumir_normalize_sort_expr κs a r r' s s' = one-result

pub galthumir-groups-galthumir_normalize_sort_exprs : (κs : _) (a : _) → OneWithBoth (λ s. s.1.1.1.0.now) (λ s. s.0.now) (GalthumirGroupsGalthumirNormalizeSortExprs.Learnt κs a)
galthumir-groups-galthumir_normalize_sort_exprs κs a r r' s s' = one-result

pub galthumir-groups-galthumir_new_group : (κs : _) (a : _) → OneWith (λ s. s.1.1.0.now) (GalthumirGroupsGalthumirNewGroup.Learnt κs a)
galthumir-groups-galthumir_new_group κs a r r' s s' = one-result

pub galthumir-groups-galthumir_join : (κs : _) (a : _) → OneWithBoth (λ s. s.1.1.1.1.1.1.0.now) (λ s. s.0.now) (GalthumirGroupsGalthumirJoin.Learnt κs a)
galthumir-groups-galthumir_join κs a r r' s s' = one-result

pub galthumir-groups-galthumir_project : (κs : _) (a : _) → OneWithBoth (λ s. s.1.1.1.0.now) (λ s. s.0.now) (GalthumirGroupsGalthumirProject.Learnt κs a)
galthumir-groups-galthumir_project κs a r r' s s' = one-result

pub galthumir-groups-galthumir_project_expr : (κs : _) (a : _) → OneWithBoth (λ s. s.1.1.1.1.0.now) (λ s. s.0.now) (GalthumirGroupsGalthumirProjectExpr.Learnt κs a)
galthumir-groups-galthumir_project_expr κs a r r' s s' = one-result

pub galthumir-groups-galthumir_project_expressions : (κs : _) (a : _) → OneWithBoth (λ s. s.1.1.1.1.0.now) (λ s. s.0.now) (GalthumirGroupsGalthumirProjectExpressions.Learnt κs a)
galthumir-groups-galthumir_project_expressions κs a r r' s s' = one-result

pub galthumir-maps-galthumir_check_map : (κs : _) (a : _) → OneAnswer (GalthumirMapsGalthumirCheckMap.Learnt κs a)
galthumir-maps-galthumir_check_map κs a r r' s s' = one-result

pub galthumir-maps-galthumir_insert : (κs : _) (a : _) → OneWith (λ s. s.1.0.now) (GalthumirMapsGalthumirInsert.Learnt κs a)
galthumir-maps-galthumir_insert κs a r r' s s' = one-result

pub galthumir-maps-galthumir_construct_prefix_orderings : (κs : _) (a : _) → OneWithBoth (λ s. s.1.1.1.1.1.0.now) (λ s. s.1.1.1.1.0.now) (GalthumirMapsGalthumirConstructPrefixOrderings.Learnt κs a)
galthumir-maps-galthumir_construct_prefix_orderings κs a r r' s s' = one-result

pub galthumir-maps-galthumir_generate_dependency_orderings : (κs : _) (a : _) → OneWithBoth (λ s. s.1.1.1.1.0.now) (λ s. s.1.1.1.0.now) (GalthumirMapsGalthumirGenerateDependencyOrderings.Learnt κs a)
galthumir-maps-galthumir_generate_dependency_orderings κs a r r' s s' = one-result

pub galthumir-orders-galthumir_check_orderings : (κs : _) (a : _) → OneAnswer (GalthumirOrdersGalthumirCheckOrderings.Learnt κs a)
galthumir-orders-galthumir_check_orderings κs a r r' s s' = one-result

pub galthumir-orders-galthumir_new_orderings : (κs : _) (a : _) → OneWith (λ s. s.1.1.0.now) (GalthumirOrdersGalthumirNewOrderings.Learnt κs a)
galthumir-orders-galthumir_new_orderings κs a r r' s s' = one-result

pub galthumir-orders-galthumir_add_orderings : (κs : _) (a : _) → OneWith (λ s. s.1.0.now) (GalthumirOrdersGalthumirAddOrderings.Learnt κs a)
galthumir-orders-galthumir_add_orderings κs a r r' s s' = one-result

pub galthumir-orders-galthumir_extend_orderings : (κs : _) (a : _) → OneWith (λ s. s.1.0.now) (GalthumirOrdersGalthumirExtendOrderings.Learnt κs a)
galthumir-orders-galthumir_extend_orderings κs a r r' s s' = one-result

pub galthumir-orders-galthumir_clear_orderings : (κs : _) (a : _) → OneWith (λ s. s.1.0.now) (GalthumirOrdersGalthumirClearOrderings.Learnt κs a)
galthumir-orders-galthumir_clear_orderings κs a r r' s s' = one-result

pub galthumir-orders-galthumir_get_options : (κs : _) (a : _) → OneWith (λ s. s.1.1.1.0.now) (GalthumirOrdersGalthumirGetOptions.Learnt κs a)
galthumir-orders-galthumir_get_options κs a r r' s s' = one-result

pub galthumir-orders-galthumir_is_expr_partial_const : (κs : _) (a : _) → OneWith (λ s. s.1.1.1.0.now) (GalthumirOrdersGalthumirIsExprPartialConst.Learnt κs a)
galthumir-orders-galthumir_is_expr_partial_const κs a r r' s s' = one-result

pub galthumir-orders-galthumir_output_ordering : (κs : _) (a : _) → OneWith (λ s. s.1.1.0.now) (GalthumirOrdersGalthumirOutputOrdering.Learnt κs a)
galthumir-orders-galthumir_output_ordering κs a r r' s s' = one-result

pub galthumir-orders-galthumir_join_suffix : (κs : _) (a : _) → OneWith (λ s. s.1.1.1.0.now) (GalthumirOrdersGalthumirJoinSuffix.Learnt κs a)
galthumir-orders-galthumir_join_suffix κs a r r' s s' = one-result

pub galthumir-orders-galthumir_add_offset : (κs : _) (a : _) → OneWithBoth (λ s. s.1.0.now) (λ s. s.0.now) (GalthumirOrdersGalthumirAddOffset.Learnt κs a)
galthumir-orders-galthumir_add_offset κs a r r' s s' = one-result

pub galthumir-sessions-galthumir_read_record : (κs : _) (a : _) → OneWith (λ s. s.1.0.now) (GalthumirSessionsGalthumirReadRecord.Learnt κs a)
galthumir-sessions-galthumir_read_record κs a r r' s s' = one-result

pub galthumir-sessions-galthumir_read_group : (κs : _) (a : _) → OneWith (λ s. s.1.1.0.now) (GalthumirSessionsGalthumirReadGroup.Learnt κs a)
galthumir-sessions-galthumir_read_group κs a r r' s s' = one-result

pub galthumir-sessions-galthumir-chosen : (κs : _) (a : _) → OneWith (λ s. s.1.1.1.0.now) (GalthumirSessionsGalthumirChosen.Learnt κs a)
galthumir-sessions-galthumir-chosen κs a r r' s s' = one-result

pub galthumir-sessions-galthumir_session : (κs : _) (a : _) → OneWithBoth (λ s. s.1.1.0.now) (λ s. s.1.0.now) (GalthumirSessionsGalthumirSession.Learnt κs a)
galthumir-sessions-galthumir_session κs a r r' s s' = one-result
