-- A refusal of an exported call gives its number from the table: the number that is returned is 0 or one of those that the header names for the call, here in the header's order.
use Prim.Native.Nat.{ℕ}
use mathlib.Core.Bool.{true}
use mathlib.Core.List.{List, [], ◌∷◌}
use mathlib.Core.Path.{◌≡◌, ap, sym, subst}
use Rattle.classes.specs.Group.{among}
use Rattle.galthumir.proofs.expressions.galthumir_check_arena.Reads as CheckArena
use Rattle.galthumir.proofs.expressions.galthumir_add_column.Reads as AddColumn
use Rattle.galthumir.proofs.expressions.galthumir_add_literal.Reads as AddLiteral
use Rattle.galthumir.proofs.expressions.galthumir_add_operation.Reads as AddOperation
use Rattle.galthumir.proofs.expressions.galthumir_read_node.Reads as ReadNode
use Rattle.galthumir.proofs.expressions.galthumir_read_child.Reads as ReadChild
use Rattle.galthumir.proofs.expressions.galthumir_add_offset_to_expr.Reads as AddOffsetToExpr
use Rattle.galthumir.proofs.groups.galthumir_open_group.Reads as OpenGroup
use Rattle.galthumir.proofs.groups.galthumir_check_group.Reads as CheckGroup
use Rattle.galthumir.proofs.groups.galthumir_get_equivalence_class.Reads as GetEquivalenceClass
use Rattle.galthumir.proofs.groups.galthumir_add_equal_conditions.Reads as AddEqualConditions
use Rattle.galthumir.proofs.groups.galthumir_add_constant.Reads as AddConstant
use Rattle.galthumir.proofs.groups.galthumir_clear_per_partition_constants.Reads as ClearPerPartitionConstants
use Rattle.galthumir.proofs.groups.galthumir_exprs_equal.Reads as ExprsEqual
use Rattle.galthumir.proofs.groups.galthumir_is_expr_constant.Reads as IsExprConstant
use Rattle.galthumir.proofs.groups.galthumir_normalize_expr.Reads as NormalizeExpr
use Rattle.galthumir.proofs.groups.galthumir_normalize_sort_expr.Reads as NormalizeSortExpr
use Rattle.galthumir.proofs.groups.galthumir_normalize_sort_exprs.Reads as NormalizeSortExprs
use Rattle.galthumir.proofs.groups.galthumir_new_group.Reads as NewGroup
use Rattle.galthumir.proofs.groups.galthumir_join.Reads as Join
use Rattle.galthumir.proofs.groups.galthumir_project.Reads as Project
use Rattle.galthumir.proofs.groups.galthumir_project_expr.Reads as ProjectExpr
use Rattle.galthumir.proofs.groups.galthumir_project_expressions.Reads as ProjectExpressions
use Rattle.galthumir.proofs.maps.galthumir_check_map.Reads as CheckMap
use Rattle.galthumir.proofs.maps.galthumir_insert.Reads as Insert
use Rattle.galthumir.proofs.maps.galthumir_construct_prefix_orderings.Reads as ConstructPrefixOrderings
use Rattle.galthumir.proofs.maps.galthumir_generate_dependency_orderings.Reads as GenerateDependencyOrderings
use Rattle.galthumir.proofs.orders.galthumir_check_orderings.Reads as CheckOrderings
use Rattle.galthumir.proofs.orders.galthumir_new_orderings.Reads as NewOrderings
use Rattle.galthumir.proofs.orders.galthumir_add_orderings.Reads as AddOrderings
use Rattle.galthumir.proofs.orders.galthumir_extend_orderings.Reads as ExtendOrderings
use Rattle.galthumir.proofs.orders.galthumir_clear_orderings.Reads as ClearOrderings
use Rattle.galthumir.proofs.orders.galthumir_get_options.Reads as GetOptions
use Rattle.galthumir.proofs.orders.galthumir_is_expr_partial_const.Reads as IsExprPartialConst
use Rattle.galthumir.proofs.orders.galthumir_output_ordering.Reads as OutputOrdering
use Rattle.galthumir.proofs.orders.galthumir_join_suffix.Reads as JoinSuffix
use Rattle.galthumir.proofs.orders.galthumir_add_offset.Reads as AddOffset
use Rattle.galthumir.proofs.sessions.galthumir_read_record.Reads as ReadRecord
use Rattle.galthumir.proofs.sessions.galthumir_read_group.Reads as ReadGroup
use Rattle.galthumir.proofs.sessions.galthumir_chosen.Reads as Chosen
use Rattle.galthumir.proofs.sessions.galthumir_session.Reads as Session
use Rattle.promises.proofs.Numbers.{OneOf}
use Rattle.promises.proofs.NumbersOfExpressions.{arena-number, column-number, literal-number, operation-number, read_number_lem, child-number, shifted-number}
use Rattle.promises.proofs.NumbersOfGroups.{open-number, group-number, class_of-number, condition_number, constant-call-number, clear-number, exprs_equal-number, expr_constant-number, form-number, sort_key_number, sort_keys-number, new-number, join-number}
use Rattle.promises.proofs.NumbersOfProjections.{project-number, project_expr-number, project_expressions-number}
use Rattle.promises.proofs.NumbersOfOrderings.{list-number, add-number, extend-number, clear-list_number, options-number, partial_number_lem, output-number, join_suffix-number, list_offset_number}
use Rattle.promises.proofs.NumbersOfMaps.{map-number, insert-number, prefix-number, generate_number_lem}
use Rattle.promises.proofs.NumbersOfRecords.{item_number, record-number, chosen-number, session-number}

-- the number is 0 or one of those
abbrev pub Gives : {S : Type 0} → List ℕ → (ℕ → S → Type 0) → Type 0
Gives {S} numbers meets = (r : ℕ) (s : S) → meets r s → among r (0 ∷ numbers) ≡ true

-- of a contract that gives the number alone
alone : {numbers : List ℕ} {r o : ℕ} → OneOf numbers o → r ≡ o → among r (0 ∷ numbers) ≡ true
alone {numbers} k e = subst (λ (r : ℕ). among r (0 ∷ numbers) ≡ true) (sym e) k.is

-- .. with what is lent for the answer
one : {numbers lent : List ℕ} {r : ℕ} {o : ℕ × List ℕ} → OneOf numbers o.0 → (r, lent) ≡ o → among r (0 ∷ numbers) ≡ true
one k e = alone k (ap (λ (p : ℕ × List ℕ). p.0) e)

-- .. and with what else is lent
both : {numbers lent lent' : List ℕ} {r : ℕ} {o : (ℕ × List ℕ) × List ℕ} → OneOf numbers o.0.0 → ((r, lent), lent') ≡ o → among r (0 ∷ numbers) ≡ true
both k e = alone k (ap (λ (p : (ℕ × List ℕ) × List ℕ). p.0.0) e)

-- for each exported call, with the numbers that the header names
pub record EveryNumberStands : Type 1 where
  pub check-arena : (κs : _) (a : _) → Gives (11 ∷ []) (CheckArena.Learnt κs a)
  pub add-column : (κs : _) (a : _) → Gives (11 ∷ 3 ∷ []) (AddColumn.Learnt κs a)
  pub add-literal : (κs : _) (a : _) → Gives (11 ∷ 3 ∷ []) (AddLiteral.Learnt κs a)
  pub add-operation : (κs : _) (a : _) → Gives (11 ∷ 1 ∷ 2 ∷ 3 ∷ []) (AddOperation.Learnt κs a)
  pub read-node : (κs : _) (a : _) → Gives (11 ∷ 1 ∷ []) (ReadNode.Learnt κs a)
  pub read-child : (κs : _) (a : _) → Gives (11 ∷ 1 ∷ []) (ReadChild.Learnt κs a)
  pub add_offset-to-expr : (κs : _) (a : _) → Gives (11 ∷ 1 ∷ 10 ∷ 3 ∷ []) (AddOffsetToExpr.Learnt κs a)
  pub open-group : (κs : _) (a : _) → Gives (12 ∷ []) (OpenGroup.Learnt κs a)
  pub check-group : (κs : _) (a : _) → Gives (12 ∷ 11 ∷ 1 ∷ []) (CheckGroup.Learnt κs a)
  pub get_equivalence_class_lem : (κs : _) (a : _) → Gives (12 ∷ 11 ∷ 1 ∷ []) (GetEquivalenceClass.Learnt κs a)
  pub add_equal-conditions : (κs : _) (a : _) → Gives (12 ∷ 11 ∷ 1 ∷ 4 ∷ []) (AddEqualConditions.Learnt κs a)
  pub add-constant : (κs : _) (a : _) → Gives (12 ∷ 11 ∷ 1 ∷ 4 ∷ []) (AddConstant.Learnt κs a)
  pub clear_per_partition_constants_lem : (κs : _) (a : _) → Gives (12 ∷ 11 ∷ 1 ∷ []) (ClearPerPartitionConstants.Learnt κs a)
  pub exprs-equal : (κs : _) (a : _) → Gives (12 ∷ 11 ∷ 1 ∷ []) (ExprsEqual.Learnt κs a)
  pub is-expr_constant : (κs : _) (a : _) → Gives (12 ∷ 11 ∷ 1 ∷ []) (IsExprConstant.Learnt κs a)
  pub normalize-expr : (κs : _) (a : _) → Gives (12 ∷ 11 ∷ 1 ∷ 3 ∷ []) (NormalizeExpr.Learnt κs a)
  pub normalize_sort_expr_lem : (κs : _) (a : _) → Gives (12 ∷ 11 ∷ 1 ∷ 3 ∷ []) (NormalizeSortExpr.Learnt κs a)
  pub normalize_sort_exprs_lem : (κs : _) (a : _) → Gives (12 ∷ 11 ∷ 1 ∷ 3 ∷ 5 ∷ []) (NormalizeSortExprs.Learnt κs a)
  pub new-group : (κs : _) (a : _) → Gives (12 ∷ 11 ∷ 1 ∷ 4 ∷ []) (NewGroup.Learnt κs a)
  pub join : (κs : _) (a : _) → Gives (12 ∷ 11 ∷ 1 ∷ 10 ∷ 3 ∷ 4 ∷ []) (Join.Learnt κs a)
  pub project : (κs : _) (a : _) → Gives (12 ∷ 11 ∷ 1 ∷ 3 ∷ 4 ∷ []) (Project.Learnt κs a)
  pub project-expr : (κs : _) (a : _) → Gives (12 ∷ 11 ∷ 1 ∷ 3 ∷ []) (ProjectExpr.Learnt κs a)
  pub project-expressions : (κs : _) (a : _) → Gives (12 ∷ 11 ∷ 1 ∷ 3 ∷ 8 ∷ []) (ProjectExpressions.Learnt κs a)
  pub check-map : (κs : _) (a : _) → Gives (11 ∷ 1 ∷ []) (CheckMap.Learnt κs a)
  pub insert : (κs : _) (a : _) → Gives (12 ∷ 11 ∷ 1 ∷ 5 ∷ []) (Insert.Learnt κs a)
  pub construct_prefix_orderings_lem : (κs : _) (a : _) → Gives (12 ∷ 11 ∷ 1 ∷ 6 ∷ 7 ∷ 5 ∷ 8 ∷ []) (ConstructPrefixOrderings.Learnt κs a)
  pub generate_dependency_orderings_lem : (κs : _) (a : _) → Gives (12 ∷ 11 ∷ 1 ∷ 6 ∷ 7 ∷ 5 ∷ 8 ∷ []) (GenerateDependencyOrderings.Learnt κs a)
  pub check-orderings : (κs : _) (a : _) → Gives (11 ∷ 1 ∷ []) (CheckOrderings.Learnt κs a)
  pub new-orderings : (κs : _) (a : _) → Gives (12 ∷ 11 ∷ 1 ∷ 5 ∷ []) (NewOrderings.Learnt κs a)
  pub add-orderings : (κs : _) (a : _) → Gives (12 ∷ 11 ∷ 1 ∷ 5 ∷ []) (AddOrderings.Learnt κs a)
  pub extend-orderings : (κs : _) (a : _) → Gives (12 ∷ 11 ∷ 1 ∷ 5 ∷ []) (ExtendOrderings.Learnt κs a)
  pub clear-orderings : (κs : _) (a : _) → Gives (11 ∷ 1 ∷ []) (ClearOrderings.Learnt κs a)
  pub get_options_lem : (κs : _) (a : _) → Gives (11 ∷ 1 ∷ []) (GetOptions.Learnt κs a)
  pub is-expr-partial_const : (κs : _) (a : _) → Gives (11 ∷ 1 ∷ []) (IsExprPartialConst.Learnt κs a)
  pub output-ordering : (κs : _) (a : _) → Gives (11 ∷ 1 ∷ 5 ∷ []) (OutputOrdering.Learnt κs a)
  pub join-suffix : (κs : _) (a : _) → Gives (11 ∷ 1 ∷ 5 ∷ []) (JoinSuffix.Learnt κs a)
  pub add_offset_lem : (κs : _) (a : _) → Gives (11 ∷ 1 ∷ 10 ∷ 3 ∷ []) (AddOffset.Learnt κs a)
  pub read-record : (κs : _) (a : _) → Gives (9 ∷ []) (ReadRecord.Learnt κs a)
  pub read-group : (κs : _) (a : _) → Gives (9 ∷ 12 ∷ 11 ∷ 1 ∷ 4 ∷ []) (ReadGroup.Learnt κs a)
  pub chosen : (κs : _) (a : _) → Gives (12 ∷ 9 ∷ []) (Chosen.Learnt κs a)
  pub session : (κs : _) (a : _) → Gives (8 ∷ []) (Session.Learnt κs a)

pub every_number_stands : EveryNumberStands
every_number_stands = record {
  check-arena = λ κs a r s. alone (arena-number _);
  add-column = λ κs a r s. both (column-number _ _ _ _);
  add-literal = λ κs a r s. both (literal-number _ _ _);
  add-operation = λ κs a r s. both (operation-number _ _ _ _);
  read-node = λ κs a r s. one (read_number_lem _ _ _);
  read-child = λ κs a r s. one (child-number _ _ _ _);
  add_offset-to-expr = λ κs a r s. both (shifted-number _ _ _ _);
  open-group = λ κs a r s. one (open-number _ _);
  check-group = λ κs a r s. alone (group-number _ _);
  get_equivalence_class_lem = λ κs a r s. one (class_of-number _ _ _ _);
  add_equal-conditions = λ κs a r s. both (condition_number _ _ _ _ _ _ _);
  add-constant = λ κs a r s. one (constant-call-number _ _ _ _ _ _);
  clear_per_partition_constants_lem = λ κs a r s. both (clear-number _ _ _ _);
  exprs-equal = λ κs a r s. one (exprs_equal-number _ _ _ _ _);
  is-expr_constant = λ κs a r s. one (expr_constant-number _ _ _ _);
  normalize-expr = λ κs a r s. both (form-number _ _ _ _);
  normalize_sort_expr_lem = λ κs a r s. both (sort_key_number _ _ _ _ _);
  normalize_sort_exprs_lem = λ κs a r s. both (sort_keys-number _ _ _ _);
  new-group = λ κs a r s. one (new-number _ _ _);
  join = λ κs a r s. both (join-number _ _ _ _ _ _ _);
  project = λ κs a r s. both (project-number _ _ _ _);
  project-expr = λ κs a r s. both (project_expr-number _ _ _ _ _);
  project-expressions = λ κs a r s. both (project_expressions-number _ _ _ _ _);
  check-map = λ κs a r s. alone (map-number _ _);
  insert = λ κs a r s. one (insert-number _ _ _ _ _ _ _);
  construct_prefix_orderings_lem = λ κs a r s. both (prefix-number _ _ _ _ _ _);
  generate_dependency_orderings_lem = λ κs a r s. both (generate_number_lem _ _ _ _ _);
  check-orderings = λ κs a r s. alone (list-number _ _);
  new-orderings = λ κs a r s. one (add-number _ _ _ _);
  add-orderings = λ κs a r s. one (add-number _ _ _ _);
  extend-orderings = λ κs a r s. one (extend-number _ _ _ _);
  clear-orderings = λ κs a r s. one (clear-list_number _ _ _);
  get_options_lem = λ κs a r s. one (options-number _ _ _ _ _);
  is-expr-partial_const = λ κs a r s. one (partial_number_lem _ _ _ _ _);
  output-ordering = λ κs a r s. one (output-number _ _ _);
  join-suffix = λ κs a r s. one (join_suffix-number _ _ _ _);
  add_offset_lem = λ κs a r s. both (list_offset_number _ _ _ _);
  read-record = λ κs a r s. one (item_number _ _);
  read-group = λ κs a r s. one (record-number _ _ _);
  chosen = λ κs a r s. one (chosen-number _ _ _ _);
  session = λ κs a r s. both (session-number _ _ _);
}
