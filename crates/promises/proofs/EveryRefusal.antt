-- A refusal of an exported call leaves everything that is lent as it was.
use Prim.Native.Nat.{ℕ, ◌<◌}
use mathlib.Core.List.{List}
use mathlib.Core.Path.{◌≡◌, ap, ◌∙◌}
use borrow.Fn.World.{ArgsD}
use Rattle.answer_laws.proofs.Refused.{Stays, BothStay, answer-stays, changed-stays, child-stays, chosen-stays, class-stays, column-stays, constant-stays, form-stays, generate_stays, group-stays, item_stays, join-stays, list_offset_stays, list-stays, literal-stays, map-stays, operation-stays, options-stays, output-stays, partial_stays, prefix-stays, project_expr-stays, project-stays, read_stays, session-stays, shifted-stays, sort_key_stays, sort_keys_stay}
use Rattle.projection_laws.proofs.ProjectedCalls.{expressions-refused}
use Rattle.galthumir.specs.contracts.expressions.galthumir_add_column.{signature}
use Rattle.galthumir.proofs.expressions.galthumir_add_column.Reads as AddColumn
use Rattle.galthumir.proofs.expressions.galthumir_add_literal.Reads as AddLiteral
use Rattle.galthumir.proofs.expressions.galthumir_add_operation.Reads as AddOperation
use Rattle.galthumir.proofs.expressions.galthumir_read_node.Reads as ReadNode
use Rattle.galthumir.proofs.expressions.galthumir_read_child.Reads as ReadChild
use Rattle.galthumir.proofs.expressions.galthumir_add_offset_to_expr.Reads as AddOffsetToExpr
use Rattle.galthumir.proofs.groups.galthumir_open_group.Reads as OpenGroup
use Rattle.galthumir.proofs.groups.galthumir_get_equivalence_class.Reads as GetEquivalenceClass
use Rattle.galthumir.proofs.groups.galthumir_add_equal_conditions.Reads as AddEqualConditions
use Rattle.galthumir.proofs.groups.galthumir_add_constant.Reads as AddConstant
use Rattle.galthumir.proofs.groups.galthumir_clear_per_partition_constants.Reads as ClearPerPartitionConstants
use Rattle.galthumir.proofs.groups.galthumir_exprs_equal.Reads as ExprsEqual
use Rattle.galthumir.proofs.groups.galthumir_is_expr_constant.Reads as IsExprConstant
use Rattle.galthumir.proofs.groups.galthumir_normalize_expr.Reads as NormalizeExpr
use Rattle.galthumir.proofs.groups.galthumir_normalize_sort_expr.Reads as NormalizeSortExpr
use Rattle.galthumir.proofs.groups.galthumir_normalize_sort_exprs.Reads as NormalizeSortExprs
use Rattle.galthumir.proofs.groups.galthumir_new_group.Reads as NewGroup
use Rattle.galthumir.proofs.groups.galthumir_join.Reads as Join
use Rattle.galthumir.proofs.groups.galthumir_project.Reads as Project
use Rattle.galthumir.proofs.groups.galthumir_project_expr.Reads as ProjectExpr
use Rattle.galthumir.proofs.groups.galthumir_project_expressions.Reads as ProjectExpressions
use Rattle.galthumir.proofs.maps.galthumir_insert.Reads as Insert
use Rattle.galthumir.proofs.maps.galthumir_construct_prefix_orderings.Reads as ConstructPrefixOrderings
use Rattle.galthumir.proofs.maps.galthumir_generate_dependency_orderings.Reads as GenerateDependencyOrderings
use Rattle.galthumir.proofs.orders.galthumir_new_orderings.Reads as NewOrderings
use Rattle.galthumir.proofs.orders.galthumir_add_orderings.Reads as AddOrderings
use Rattle.galthumir.proofs.orders.galthumir_extend_orderings.Reads as ExtendOrderings
use Rattle.galthumir.proofs.orders.galthumir_clear_orderings.Reads as ClearOrderings
use Rattle.galthumir.proofs.orders.galthumir_get_options.Reads as GetOptions
use Rattle.galthumir.proofs.orders.galthumir_is_expr_partial_const.Reads as IsExprPartialConst
use Rattle.galthumir.proofs.orders.galthumir_output_ordering.Reads as OutputOrdering
use Rattle.galthumir.proofs.orders.galthumir_join_suffix.Reads as JoinSuffix
use Rattle.galthumir.proofs.orders.galthumir_add_offset.Reads as AddOffset
use Rattle.galthumir.proofs.sessions.galthumir_read_record.Reads as ReadRecord
use Rattle.galthumir.proofs.sessions.galthumir_read_group.Reads as ReadGroup
use Rattle.galthumir.proofs.sessions.galthumir_chosen.Reads as Chosen
use Rattle.galthumir.proofs.sessions.galthumir_session.Reads as Session

-- where the number that is returned is not 0, what is lent for the answer or as a state, `kept`, is what it was, `old`
abbrev pub Keeps : {S : Type 0} → List ℕ → (S → List ℕ) → (ℕ → S → Type 0) → Type 0
Keeps {S} old kept meets = (r : ℕ) (s : S) → meets r s → (r ≡ 0 → ⊥) → kept s ≡ old

-- and so is the second that is lent
abbrev pub KeepsBoth : {S : Type 0} → List ℕ → (S → List ℕ) → List ℕ → (S → List ℕ) → (ℕ → S → Type 0) → Type 0
KeepsBoth {S} old kept old' kept' meets = (r : ℕ) (s : S) → meets r s → (r ≡ 0 → ⊥) → (kept s ≡ old) × (kept' s ≡ old')

one : {old lent : List ℕ} {r : ℕ} {o : ℕ × List ℕ} → Stays old o → (r, lent) ≡ o → (r ≡ 0 → ⊥) → lent ≡ old
one stays e z = ap (λ (p : ℕ × List ℕ). p.1) e ∙ stays (λ q. z (ap (λ (p : ℕ × List ℕ). p.0) e ∙ q))

both : {old old' lent lent' : List ℕ} {r : ℕ} {o : (ℕ × List ℕ) × List ℕ} → BothStay old old' o → ((r, lent), lent') ≡ o → (r ≡ 0 → ⊥) → (lent ≡ old) × (lent' ≡ old')
both stays e z =
    let k = stays (λ q. z (ap (λ (p : (ℕ × List ℕ) × List ℕ). p.0.0) e ∙ q)) in
    (ap (λ (p : (ℕ × List ℕ) × List ℕ). p.0.1) e ∙ k.0, ap (λ (p : (ℕ × List ℕ) × List ℕ). p.1) e ∙ k.1)

-- for each exported call that is lent something to write into; of `add-column` it is asked that the index has 16 bits, which its type in the source says
pub record EveryRefusalKeeps : Type 1 where
  pub add-column : (κs : _) (a : ArgsD signature κs) → a.1.1.0 < 65536 → KeepsBoth a.1.1.1.0.now (λ s. s.1.1.1.0.now) a.0.now (λ s. s.0.now) (AddColumn.Learnt κs a)
  pub add-literal : (κs : _) (a : _) → KeepsBoth a.1.1.0.now (λ s. s.1.1.0.now) a.0.now (λ s. s.0.now) (AddLiteral.Learnt κs a)
  pub add-operation : (κs : _) (a : _) → KeepsBoth a.1.1.1.0.now (λ s. s.1.1.1.0.now) a.0.now (λ s. s.0.now) (AddOperation.Learnt κs a)
  pub read-node : (κs : _) (a : _) → Keeps a.1.1.0.now (λ s. s.1.1.0.now) (ReadNode.Learnt κs a)
  pub read-child : (κs : _) (a : _) → Keeps a.1.1.1.0.now (λ s. s.1.1.1.0.now) (ReadChild.Learnt κs a)
  pub add_offset-to-expr : (κs : _) (a : _) → KeepsBoth a.1.1.1.0.now (λ s. s.1.1.1.0.now) a.0.now (λ s. s.0.now) (AddOffsetToExpr.Learnt κs a)
  pub open-group : (κs : _) (a : _) → Keeps a.1.0.now (λ s. s.1.0.now) (OpenGroup.Learnt κs a)
  pub get_equivalence_class_lem : (κs : _) (a : _) → Keeps a.1.1.1.0.now (λ s. s.1.1.1.0.now) (GetEquivalenceClass.Learnt κs a)
  pub add_equal-conditions : (κs : _) (a : _) → KeepsBoth a.1.1.1.1.0.now (λ s. s.1.1.1.1.0.now) a.1.0.now (λ s. s.1.0.now) (AddEqualConditions.Learnt κs a)
  pub add-constant : (κs : _) (a : _) → Keeps a.1.0.now (λ s. s.1.0.now) (AddConstant.Learnt κs a)
  pub clear_per_partition_constants_lem : (κs : _) (a : _) → KeepsBoth a.1.1.0.now (λ s. s.1.1.0.now) a.1.0.now (λ s. s.1.0.now) (ClearPerPartitionConstants.Learnt κs a)
  pub exprs-equal : (κs : _) (a : _) → Keeps a.1.1.1.1.0.now (λ s. s.1.1.1.1.0.now) (ExprsEqual.Learnt κs a)
  pub is-expr_constant : (κs : _) (a : _) → Keeps a.1.1.1.0.now (λ s. s.1.1.1.0.now) (IsExprConstant.Learnt κs a)
  pub normalize-expr : (κs : _) (a : _) → KeepsBoth a.1.1.1.0.now (λ s. s.1.1.1.0.now) a.0.now (λ s. s.0.now) (NormalizeExpr.Learnt κs a)
  pub normalize_sort_expr_lem : (κs : _) (a : _) → KeepsBoth a.1.1.1.1.0.now (λ s. s.1.1.1.1.0.now) a.0.now (λ s. s.0.now) (NormalizeSortExpr.Learnt κs a)
  pub normalize_sort_exprs_lem : (κs : _) (a : _) → KeepsBoth a.1.1.1.0.now (λ s. s.1.1.1.0.now) a.0.now (λ s. s.0.now) (NormalizeSortExprs.Learnt κs a)
  pub new-group : (κs : _) (a : _) → Keeps a.1.1.0.now (λ s. s.1.1.0.now) (NewGroup.Learnt κs a)
  pub join : (κs : _) (a : _) → KeepsBoth a.1.1.1.1.1.1.0.now (λ s. s.1.1.1.1.1.1.0.now) a.0.now (λ s. s.0.now) (Join.Learnt κs a)
  pub project : (κs : _) (a : _) → KeepsBoth a.1.1.1.0.now (λ s. s.1.1.1.0.now) a.0.now (λ s. s.0.now) (Project.Learnt κs a)
  pub project-expr : (κs : _) (a : _) → KeepsBoth a.1.1.1.1.0.now (λ s. s.1.1.1.1.0.now) a.0.now (λ s. s.0.now) (ProjectExpr.Learnt κs a)
  pub project-expressions : (κs : _) (a : _) → KeepsBoth a.1.1.1.1.0.now (λ s. s.1.1.1.1.0.now) a.0.now (λ s. s.0.now) (ProjectExpressions.Learnt κs a)
  pub insert : (κs : _) (a : _) → Keeps a.1.0.now (λ s. s.1.0.now) (Insert.Learnt κs a)
  pub construct_prefix_orderings_lem : (κs : _) (a : _) → KeepsBoth a.1.1.1.1.1.0.now (λ s. s.1.1.1.1.1.0.now) a.1.1.1.1.0.now (λ s. s.1.1.1.1.0.now) (ConstructPrefixOrderings.Learnt κs a)
  pub generate_dependency_orderings_lem : (κs : _) (a : _) → KeepsBoth a.1.1.1.1.0.now (λ s. s.1.1.1.1.0.now) a.1.1.1.0.now (λ s. s.1.1.1.0.now) (GenerateDependencyOrderings.Learnt κs a)
  pub new-orderings : (κs : _) (a : _) → Keeps a.1.1.0.now (λ s. s.1.1.0.now) (NewOrderings.Learnt κs a)
  pub add-orderings : (κs : _) (a : _) → Keeps a.1.0.now (λ s. s.1.0.now) (AddOrderings.Learnt κs a)
  pub extend-orderings : (κs : _) (a : _) → Keeps a.1.0.now (λ s. s.1.0.now) (ExtendOrderings.Learnt κs a)
  pub clear-orderings : (κs : _) (a : _) → Keeps a.1.0.now (λ s. s.1.0.now) (ClearOrderings.Learnt κs a)
  pub get_options_lem : (κs : _) (a : _) → Keeps a.1.1.1.0.now (λ s. s.1.1.1.0.now) (GetOptions.Learnt κs a)
  pub is-expr-partial_const : (κs : _) (a : _) → Keeps a.1.1.1.0.now (λ s. s.1.1.1.0.now) (IsExprPartialConst.Learnt κs a)
  pub output-ordering : (κs : _) (a : _) → Keeps a.1.1.0.now (λ s. s.1.1.0.now) (OutputOrdering.Learnt κs a)
  pub join-suffix : (κs : _) (a : _) → Keeps a.1.1.1.0.now (λ s. s.1.1.1.0.now) (JoinSuffix.Learnt κs a)
  pub add_offset_lem : (κs : _) (a : _) → KeepsBoth a.1.0.now (λ s. s.1.0.now) a.0.now (λ s. s.0.now) (AddOffset.Learnt κs a)
  pub read-record : (κs : _) (a : _) → Keeps a.1.0.now (λ s. s.1.0.now) (ReadRecord.Learnt κs a)
  pub read-group : (κs : _) (a : _) → Keeps a.1.1.0.now (λ s. s.1.1.0.now) (ReadGroup.Learnt κs a)
  pub chosen : (κs : _) (a : _) → Keeps a.1.1.1.0.now (λ s. s.1.1.1.0.now) (Chosen.Learnt κs a)
  pub session : (κs : _) (a : _) → KeepsBoth a.1.1.0.now (λ s. s.1.1.0.now) a.1.0.now (λ s. s.1.0.now) (Session.Learnt κs a)

pub every_refusal_keeps : EveryRefusalKeeps
every_refusal_keeps = record {
  add-column = λ κs a l r s. both (column-stays _ _ _ _ l);
  add-literal = λ κs a r s. both (literal-stays _ _ _);
  add-operation = λ κs a r s. both (operation-stays _ _ _ _);
  read-node = λ κs a r s. one (read_stays _ _);
  read-child = λ κs a r s. one (child-stays _ _);
  add_offset-to-expr = λ κs a r s. both (shifted-stays _ _ _ _);
  open-group = λ κs a r s. one (group-stays _ _);
  get_equivalence_class_lem = λ κs a r s. one (class-stays _ _);
  add_equal-conditions = λ κs a r s. both (changed-stays _ _ _);
  add-constant = λ κs a r s. one (group-stays _ _);
  clear_per_partition_constants_lem = λ κs a r s. both (changed-stays _ _ _);
  exprs-equal = λ κs a r s. one (answer-stays _ _);
  is-expr_constant = λ κs a r s. one (constant-stays _ _);
  normalize-expr = λ κs a r s. both (form-stays _ _ _ _);
  normalize_sort_expr_lem = λ κs a r s. both (sort_key_stays _ _ _ _ _);
  normalize_sort_exprs_lem = λ κs a r s. both (sort_keys_stay _ _ _ _);
  new-group = λ κs a r s. one (group-stays _ _);
  join = λ κs a r s. both (join-stays _ _ _ _ _ _ _);
  project = λ κs a r s. both (project-stays _ _ _ _);
  project-expr = λ κs a r s. both (project_expr-stays _ _ _ _ _);
  project-expressions = λ κs a r s. both (expressions-refused _ _ _ _ _);
  insert = λ κs a r s. one (map-stays _ _);
  construct_prefix_orderings_lem = λ κs a r s. both (prefix-stays _ _ _ _ _ _);
  generate_dependency_orderings_lem = λ κs a r s. both (generate_stays _ _ _ _ _);
  new-orderings = λ κs a r s. one (list-stays _ _);
  add-orderings = λ κs a r s. one (list-stays _ _);
  extend-orderings = λ κs a r s. one (list-stays _ _);
  clear-orderings = λ κs a r s. one (list-stays _ _);
  get_options_lem = λ κs a r s. one (options-stays _ _);
  is-expr-partial_const = λ κs a r s. one (partial_stays _ _);
  output-ordering = λ κs a r s. one (output-stays _ _);
  join-suffix = λ κs a r s. one (list-stays _ _);
  add_offset_lem = λ κs a r s. both (list_offset_stays _ _ _ _);
  read-record = λ κs a r s. one (item_stays _ _);
  read-group = λ κs a r s. one (group-stays _ _);
  chosen = λ κs a r s. one (chosen-stays _ _ _ _);
  session = λ κs a r s. both (session-stays _ _ _);
}
