-- Every exported call ends and answers as its contract says, and asks nothing of its caller.
use Rattle.galthumir.proofs.expressions.galthumir_check_arena.Reads as CheckArena
use Rattle.galthumir.proofs.expressions.galthumir_check_arena.Statement as CheckArenaStatement
use Rattle.galthumir.proofs.expressions.galthumir_check_arena.Met as CheckArenaMet
use Rattle.galthumir.proofs.expressions.galthumir_add_column.Reads as AddColumn
use Rattle.galthumir.proofs.expressions.galthumir_add_column.Statement as AddColumnStatement
use Rattle.galthumir.proofs.expressions.galthumir_add_column.Met as AddColumnMet
use Rattle.galthumir.proofs.expressions.galthumir_add_literal.Reads as AddLiteral
use Rattle.galthumir.proofs.expressions.galthumir_add_literal.Statement as AddLiteralStatement
use Rattle.galthumir.proofs.expressions.galthumir_add_literal.Met as AddLiteralMet
use Rattle.galthumir.proofs.expressions.galthumir_add_operation.Reads as AddOperation
use Rattle.galthumir.proofs.expressions.galthumir_add_operation.Statement as AddOperationStatement
use Rattle.galthumir.proofs.expressions.galthumir_add_operation.Met as AddOperationMet
use Rattle.galthumir.proofs.expressions.galthumir_read_node.Reads as ReadNode
use Rattle.galthumir.proofs.expressions.galthumir_read_node.Statement as ReadNodeStatement
use Rattle.galthumir.proofs.expressions.galthumir_read_node.Met as ReadNodeMet
use Rattle.galthumir.proofs.expressions.galthumir_read_child.Reads as ReadChild
use Rattle.galthumir.proofs.expressions.galthumir_read_child.Statement as ReadChildStatement
use Rattle.galthumir.proofs.expressions.galthumir_read_child.Met as ReadChildMet
use Rattle.galthumir.proofs.expressions.galthumir_add_offset_to_expr.Reads as AddOffsetToExpr
use Rattle.galthumir.proofs.expressions.galthumir_add_offset_to_expr.Statement as AddOffsetToExprStatement
use Rattle.galthumir.proofs.expressions.galthumir_add_offset_to_expr.Met as AddOffsetToExprMet
use Rattle.galthumir.proofs.groups.galthumir_open_group.Reads as OpenGroup
use Rattle.galthumir.proofs.groups.galthumir_open_group.Statement as OpenGroupStatement
use Rattle.galthumir.proofs.groups.galthumir_open_group.Met as OpenGroupMet
use Rattle.galthumir.proofs.groups.galthumir_check_group.Reads as CheckGroup
use Rattle.galthumir.proofs.groups.galthumir_check_group.Statement as CheckGroupStatement
use Rattle.galthumir.proofs.groups.galthumir_check_group.Met as CheckGroupMet
use Rattle.galthumir.proofs.groups.galthumir_get_equivalence_class.Reads as GetEquivalenceClass
use Rattle.galthumir.proofs.groups.galthumir_get_equivalence_class.Statement as GetEquivalenceClassStatement
use Rattle.galthumir.proofs.groups.galthumir_get_equivalence_class.Met as GetEquivalenceClassMet
use Rattle.galthumir.proofs.groups.galthumir_add_equal_conditions.Reads as AddEqualConditions
use Rattle.galthumir.proofs.groups.galthumir_add_equal_conditions.Statement as AddEqualConditionsStatement
use Rattle.galthumir.proofs.groups.galthumir_add_equal_conditions.Met as AddEqualConditionsMet
use Rattle.galthumir.proofs.groups.galthumir_add_constant.Reads as AddConstant
use Rattle.galthumir.proofs.groups.galthumir_add_constant.Statement as AddConstantStatement
use Rattle.galthumir.proofs.groups.galthumir_add_constant.Met as AddConstantMet
use Rattle.galthumir.proofs.groups.galthumir_clear_per_partition_constants.Reads as ClearPerPartitionConstants
use Rattle.galthumir.proofs.groups.galthumir_clear_per_partition_constants.Statement as ClearPerPartitionConstantsStatement
use Rattle.galthumir.proofs.groups.galthumir_clear_per_partition_constants.Met as ClearPerPartitionConstantsMet
use Rattle.galthumir.proofs.groups.galthumir_exprs_equal.Reads as ExprsEqual
use Rattle.galthumir.proofs.groups.galthumir_exprs_equal.Statement as ExprsEqualStatement
use Rattle.galthumir.proofs.groups.galthumir_exprs_equal.Met as ExprsEqualMet
use Rattle.galthumir.proofs.groups.galthumir_is_expr_constant.Reads as IsExprConstant
use Rattle.galthumir.proofs.groups.galthumir_is_expr_constant.Statement as IsExprConstantStatement
use Rattle.galthumir.proofs.groups.galthumir_is_expr_constant.Met as IsExprConstantMet
use Rattle.galthumir.proofs.groups.galthumir_normalize_expr.Reads as NormalizeExpr
use Rattle.galthumir.proofs.groups.galthumir_normalize_expr.Statement as NormalizeExprStatement
use Rattle.galthumir.proofs.groups.galthumir_normalize_expr.Met as NormalizeExprMet
use Rattle.galthumir.proofs.groups.galthumir_normalize_sort_expr.Reads as NormalizeSortExpr
use Rattle.galthumir.proofs.groups.galthumir_normalize_sort_expr.Statement as NormalizeSortExprStatement
use Rattle.galthumir.proofs.groups.galthumir_normalize_sort_expr.Met as NormalizeSortExprMet
use Rattle.galthumir.proofs.groups.galthumir_normalize_sort_exprs.Reads as NormalizeSortExprs
use Rattle.galthumir.proofs.groups.galthumir_normalize_sort_exprs.Statement as NormalizeSortExprsStatement
use Rattle.galthumir.proofs.groups.galthumir_normalize_sort_exprs.Met as NormalizeSortExprsMet
use Rattle.galthumir.proofs.groups.galthumir_new_group.Reads as NewGroup
use Rattle.galthumir.proofs.groups.galthumir_new_group.Statement as NewGroupStatement
use Rattle.galthumir.proofs.groups.galthumir_new_group.Met as NewGroupMet
use Rattle.galthumir.proofs.groups.galthumir_join.Reads as Join
use Rattle.galthumir.proofs.groups.galthumir_join.Statement as JoinStatement
use Rattle.galthumir.proofs.groups.galthumir_join.Met as JoinMet
use Rattle.galthumir.proofs.groups.galthumir_project.Reads as Project
use Rattle.galthumir.proofs.groups.galthumir_project.Statement as ProjectStatement
use Rattle.galthumir.proofs.groups.galthumir_project.Met as ProjectMet
use Rattle.galthumir.proofs.groups.galthumir_project_expr.Reads as ProjectExpr
use Rattle.galthumir.proofs.groups.galthumir_project_expr.Statement as ProjectExprStatement
use Rattle.galthumir.proofs.groups.galthumir_project_expr.Met as ProjectExprMet
use Rattle.galthumir.proofs.groups.galthumir_project_expressions.Reads as ProjectExpressions
use Rattle.galthumir.proofs.groups.galthumir_project_expressions.Statement as ProjectExpressionsStatement
use Rattle.galthumir.proofs.groups.galthumir_project_expressions.Met as ProjectExpressionsMet
use Rattle.galthumir.proofs.maps.galthumir_check_map.Reads as CheckMap
use Rattle.galthumir.proofs.maps.galthumir_check_map.Statement as CheckMapStatement
use Rattle.galthumir.proofs.maps.galthumir_check_map.Met as CheckMapMet
use Rattle.galthumir.proofs.maps.galthumir_insert.Reads as Insert
use Rattle.galthumir.proofs.maps.galthumir_insert.Statement as InsertStatement
use Rattle.galthumir.proofs.maps.galthumir_insert.Met as InsertMet
use Rattle.galthumir.proofs.maps.galthumir_construct_prefix_orderings.Reads as ConstructPrefixOrderings
use Rattle.galthumir.proofs.maps.galthumir_construct_prefix_orderings.Statement as ConstructPrefixOrderingsStatement
use Rattle.galthumir.proofs.maps.galthumir_construct_prefix_orderings.Met as ConstructPrefixOrderingsMet
use Rattle.galthumir.proofs.maps.galthumir_generate_dependency_orderings.Reads as GenerateDependencyOrderings
use Rattle.galthumir.proofs.maps.galthumir_generate_dependency_orderings.Statement as GenerateDependencyOrderingsStatement
use Rattle.galthumir.proofs.maps.galthumir_generate_dependency_orderings.Met as GenerateDependencyOrderingsMet
use Rattle.galthumir.proofs.orders.galthumir_check_orderings.Reads as CheckOrderings
use Rattle.galthumir.proofs.orders.galthumir_check_orderings.Statement as CheckOrderingsStatement
use Rattle.galthumir.proofs.orders.galthumir_check_orderings.Met as CheckOrderingsMet
use Rattle.galthumir.proofs.orders.galthumir_new_orderings.Reads as NewOrderings
use Rattle.galthumir.proofs.orders.galthumir_new_orderings.Statement as NewOrderingsStatement
use Rattle.galthumir.proofs.orders.galthumir_new_orderings.Met as NewOrderingsMet
use Rattle.galthumir.proofs.orders.galthumir_add_orderings.Reads as AddOrderings
use Rattle.galthumir.proofs.orders.galthumir_add_orderings.Statement as AddOrderingsStatement
use Rattle.galthumir.proofs.orders.galthumir_add_orderings.Met as AddOrderingsMet
use Rattle.galthumir.proofs.orders.galthumir_extend_orderings.Reads as ExtendOrderings
use Rattle.galthumir.proofs.orders.galthumir_extend_orderings.Statement as ExtendOrderingsStatement
use Rattle.galthumir.proofs.orders.galthumir_extend_orderings.Met as ExtendOrderingsMet
use Rattle.galthumir.proofs.orders.galthumir_clear_orderings.Reads as ClearOrderings
use Rattle.galthumir.proofs.orders.galthumir_clear_orderings.Statement as ClearOrderingsStatement
use Rattle.galthumir.proofs.orders.galthumir_clear_orderings.Met as ClearOrderingsMet
use Rattle.galthumir.proofs.orders.galthumir_get_options.Reads as GetOptions
use Rattle.galthumir.proofs.orders.galthumir_get_options.Statement as GetOptionsStatement
use Rattle.galthumir.proofs.orders.galthumir_get_options.Met as GetOptionsMet
use Rattle.galthumir.proofs.orders.galthumir_is_expr_partial_const.Reads as IsExprPartialConst
use Rattle.galthumir.proofs.orders.galthumir_is_expr_partial_const.Statement as IsExprPartialConstStatement
use Rattle.galthumir.proofs.orders.galthumir_is_expr_partial_const.Met as IsExprPartialConstMet
use Rattle.galthumir.proofs.orders.galthumir_output_ordering.Reads as OutputOrdering
use Rattle.galthumir.proofs.orders.galthumir_output_ordering.Statement as OutputOrderingStatement
use Rattle.galthumir.proofs.orders.galthumir_output_ordering.Met as OutputOrderingMet
use Rattle.galthumir.proofs.orders.galthumir_join_suffix.Reads as JoinSuffix
use Rattle.galthumir.proofs.orders.galthumir_join_suffix.Statement as JoinSuffixStatement
use Rattle.galthumir.proofs.orders.galthumir_join_suffix.Met as JoinSuffixMet
use Rattle.galthumir.proofs.orders.galthumir_add_offset.Reads as AddOffset
use Rattle.galthumir.proofs.orders.galthumir_add_offset.Statement as AddOffsetStatement
use Rattle.galthumir.proofs.orders.galthumir_add_offset.Met as AddOffsetMet
use Rattle.galthumir.proofs.sessions.galthumir_read_record.Reads as ReadRecord
use Rattle.galthumir.proofs.sessions.galthumir_read_record.Statement as ReadRecordStatement
use Rattle.galthumir.proofs.sessions.galthumir_read_record.Met as ReadRecordMet
use Rattle.galthumir.proofs.sessions.galthumir_read_group.Reads as ReadGroup
use Rattle.galthumir.proofs.sessions.galthumir_read_group.Statement as ReadGroupStatement
use Rattle.galthumir.proofs.sessions.galthumir_read_group.Met as ReadGroupMet
use Rattle.galthumir.proofs.sessions.galthumir_chosen.Reads as Chosen
use Rattle.galthumir.proofs.sessions.galthumir_chosen.Statement as ChosenStatement
use Rattle.galthumir.proofs.sessions.galthumir_chosen.Met as ChosenMet
use Rattle.galthumir.proofs.sessions.galthumir_session.Reads as Session
use Rattle.galthumir.proofs.sessions.galthumir_session.Statement as SessionStatement
use Rattle.galthumir.proofs.sessions.galthumir_session.Met as SessionMet

-- `statement` is the toolkit's: on every input, run on the machine of its logic, the function ends, does nothing that is undefined, touches only what it is given, and what it hands back meets its contract
pub record EveryCallAnswers (M : Type 1) : Type 2 where
  pub check-arena : CheckArenaStatement.statement M
  pub add-column : AddColumnStatement.statement M
  pub add-literal : AddLiteralStatement.statement M
  pub add-operation : AddOperationStatement.statement M
  pub read-node : ReadNodeStatement.statement M
  pub read-child : ReadChildStatement.statement M
  pub add_offset-to-expr : AddOffsetToExprStatement.statement M
  pub open-group : OpenGroupStatement.statement M
  pub check-group : CheckGroupStatement.statement M
  pub get_equivalence_class_lem : GetEquivalenceClassStatement.statement M
  pub add_equal-conditions : AddEqualConditionsStatement.statement M
  pub add-constant : AddConstantStatement.statement M
  pub clear_per_partition_constants_lem : ClearPerPartitionConstantsStatement.statement M
  pub exprs-equal : ExprsEqualStatement.statement M
  pub is-expr_constant : IsExprConstantStatement.statement M
  pub normalize-expr : NormalizeExprStatement.statement M
  pub normalize_sort_expr_lem : NormalizeSortExprStatement.statement M
  pub normalize_sort_exprs_lem : NormalizeSortExprsStatement.statement M
  pub new-group : NewGroupStatement.statement M
  pub join : JoinStatement.statement M
  pub project : ProjectStatement.statement M
  pub project-expr : ProjectExprStatement.statement M
  pub project-expressions : ProjectExpressionsStatement.statement M
  pub check-map : CheckMapStatement.statement M
  pub insert : InsertStatement.statement M
  pub construct_prefix_orderings_lem : ConstructPrefixOrderingsStatement.statement M
  pub generate_dependency_orderings_lem : GenerateDependencyOrderingsStatement.statement M
  pub check-orderings : CheckOrderingsStatement.statement M
  pub new-orderings : NewOrderingsStatement.statement M
  pub add-orderings : AddOrderingsStatement.statement M
  pub extend-orderings : ExtendOrderingsStatement.statement M
  pub clear-orderings : ClearOrderingsStatement.statement M
  pub get_options_lem : GetOptionsStatement.statement M
  pub is-expr-partial_const : IsExprPartialConstStatement.statement M
  pub output-ordering : OutputOrderingStatement.statement M
  pub join-suffix : JoinSuffixStatement.statement M
  pub add_offset_lem : AddOffsetStatement.statement M
  pub read-record : ReadRecordStatement.statement M
  pub read-group : ReadGroupStatement.statement M
  pub chosen : ChosenStatement.statement M
  pub session : SessionStatement.statement M

pub every_call_answers : (M : Type 1) → EveryCallAnswers M
every_call_answers M = record {
  check-arena = CheckArenaMet.met;
  add-column = AddColumnMet.met;
  add-literal = AddLiteralMet.met;
  add-operation = AddOperationMet.met;
  read-node = ReadNodeMet.met;
  read-child = ReadChildMet.met;
  add_offset-to-expr = AddOffsetToExprMet.met;
  open-group = OpenGroupMet.met;
  check-group = CheckGroupMet.met;
  get_equivalence_class_lem = GetEquivalenceClassMet.met;
  add_equal-conditions = AddEqualConditionsMet.met;
  add-constant = AddConstantMet.met;
  clear_per_partition_constants_lem = ClearPerPartitionConstantsMet.met;
  exprs-equal = ExprsEqualMet.met;
  is-expr_constant = IsExprConstantMet.met;
  normalize-expr = NormalizeExprMet.met;
  normalize_sort_expr_lem = NormalizeSortExprMet.met;
  normalize_sort_exprs_lem = NormalizeSortExprsMet.met;
  new-group = NewGroupMet.met;
  join = JoinMet.met;
  project = ProjectMet.met;
  project-expr = ProjectExprMet.met;
  project-expressions = ProjectExpressionsMet.met;
  check-map = CheckMapMet.met;
  insert = InsertMet.met;
  construct_prefix_orderings_lem = ConstructPrefixOrderingsMet.met;
  generate_dependency_orderings_lem = GenerateDependencyOrderingsMet.met;
  check-orderings = CheckOrderingsMet.met;
  new-orderings = NewOrderingsMet.met;
  add-orderings = AddOrderingsMet.met;
  extend-orderings = ExtendOrderingsMet.met;
  clear-orderings = ClearOrderingsMet.met;
  get_options_lem = GetOptionsMet.met;
  is-expr-partial_const = IsExprPartialConstMet.met;
  output-ordering = OutputOrderingMet.met;
  join-suffix = JoinSuffixMet.met;
  add_offset_lem = AddOffsetMet.met;
  read-record = ReadRecordMet.met;
  read-group = ReadGroupMet.met;
  chosen = ChosenMet.met;
  session = SessionMet.met;
}

-- what a caller has to show before a call: nothing
pub record EveryCallChecks : Type 1 where
  pub check-arena : (κs : _) (a : _) → CheckArena.Asked κs a
  pub add-column : (κs : _) (a : _) → AddColumn.Asked κs a
  pub add-literal : (κs : _) (a : _) → AddLiteral.Asked κs a
  pub add-operation : (κs : _) (a : _) → AddOperation.Asked κs a
  pub read-node : (κs : _) (a : _) → ReadNode.Asked κs a
  pub read-child : (κs : _) (a : _) → ReadChild.Asked κs a
  pub add_offset-to-expr : (κs : _) (a : _) → AddOffsetToExpr.Asked κs a
  pub open-group : (κs : _) (a : _) → OpenGroup.Asked κs a
  pub check-group : (κs : _) (a : _) → CheckGroup.Asked κs a
  pub get_equivalence_class_lem : (κs : _) (a : _) → GetEquivalenceClass.Asked κs a
  pub add_equal-conditions : (κs : _) (a : _) → AddEqualConditions.Asked κs a
  pub add-constant : (κs : _) (a : _) → AddConstant.Asked κs a
  pub clear_per_partition_constants_lem : (κs : _) (a : _) → ClearPerPartitionConstants.Asked κs a
  pub exprs-equal : (κs : _) (a : _) → ExprsEqual.Asked κs a
  pub is-expr_constant : (κs : _) (a : _) → IsExprConstant.Asked κs a
  pub normalize-expr : (κs : _) (a : _) → NormalizeExpr.Asked κs a
  pub normalize_sort_expr_lem : (κs : _) (a : _) → NormalizeSortExpr.Asked κs a
  pub normalize_sort_exprs_lem : (κs : _) (a : _) → NormalizeSortExprs.Asked κs a
  pub new-group : (κs : _) (a : _) → NewGroup.Asked κs a
  pub join : (κs : _) (a : _) → Join.Asked κs a
  pub project : (κs : _) (a : _) → Project.Asked κs a
  pub project-expr : (κs : _) (a : _) → ProjectExpr.Asked κs a
  pub project-expressions : (κs : _) (a : _) → ProjectExpressions.Asked κs a
  pub check-map : (κs : _) (a : _) → CheckMap.Asked κs a
  pub insert : (κs : _) (a : _) → Insert.Asked κs a
  pub construct_prefix_orderings_lem : (κs : _) (a : _) → ConstructPrefixOrderings.Asked κs a
  pub generate_dependency_orderings_lem : (κs : _) (a : _) → GenerateDependencyOrderings.Asked κs a
  pub check-orderings : (κs : _) (a : _) → CheckOrderings.Asked κs a
  pub new-orderings : (κs : _) (a : _) → NewOrderings.Asked κs a
  pub add-orderings : (κs : _) (a : _) → AddOrderings.Asked κs a
  pub extend-orderings : (κs : _) (a : _) → ExtendOrderings.Asked κs a
  pub clear-orderings : (κs : _) (a : _) → ClearOrderings.Asked κs a
  pub get_options_lem : (κs : _) (a : _) → GetOptions.Asked κs a
  pub is-expr-partial_const : (κs : _) (a : _) → IsExprPartialConst.Asked κs a
  pub output-ordering : (κs : _) (a : _) → OutputOrdering.Asked κs a
  pub join-suffix : (κs : _) (a : _) → JoinSuffix.Asked κs a
  pub add_offset_lem : (κs : _) (a : _) → AddOffset.Asked κs a
  pub read-record : (κs : _) (a : _) → ReadRecord.Asked κs a
  pub read-group : (κs : _) (a : _) → ReadGroup.Asked κs a
  pub chosen : (κs : _) (a : _) → Chosen.Asked κs a
  pub session : (κs : _) (a : _) → Session.Asked κs a

pub every_call_checks : EveryCallChecks
every_call_checks = record {
  check-arena = λ κs a. tt;
  add-column = λ κs a. tt;
  add-literal = λ κs a. tt;
  add-operation = λ κs a. tt;
  read-node = λ κs a. tt;
  read-child = λ κs a. tt;
  add_offset-to-expr = λ κs a. tt;
  open-group = λ κs a. tt;
  check-group = λ κs a. tt;
  get_equivalence_class_lem = λ κs a. tt;
  add_equal-conditions = λ κs a. tt;
  add-constant = λ κs a. tt;
  clear_per_partition_constants_lem = λ κs a. tt;
  exprs-equal = λ κs a. tt;
  is-expr_constant = λ κs a. tt;
  normalize-expr = λ κs a. tt;
  normalize_sort_expr_lem = λ κs a. tt;
  normalize_sort_exprs_lem = λ κs a. tt;
  new-group = λ κs a. tt;
  join = λ κs a. tt;
  project = λ κs a. tt;
  project-expr = λ κs a. tt;
  project-expressions = λ κs a. tt;
  check-map = λ κs a. tt;
  insert = λ κs a. tt;
  construct_prefix_orderings_lem = λ κs a. tt;
  generate_dependency_orderings_lem = λ κs a. tt;
  check-orderings = λ κs a. tt;
  new-orderings = λ κs a. tt;
  add-orderings = λ κs a. tt;
  extend-orderings = λ κs a. tt;
  clear-orderings = λ κs a. tt;
  get_options_lem = λ κs a. tt;
  is-expr-partial_const = λ κs a. tt;
  output-ordering = λ κs a. tt;
  join-suffix = λ κs a. tt;
  add_offset_lem = λ κs a. tt;
  read-record = λ κs a. tt;
  read-group = λ κs a. tt;
  chosen = λ κs a. tt;
  session = λ κs a. tt;
}
