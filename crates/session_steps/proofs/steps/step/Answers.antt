-- `session_steps::steps::step` meets its contract.
use Rattle.std.specs.Prelude.{Result, Ok}
use Rattle.arena.specs.declared.Refusal.{Refusal}
use Rattle.records.specs.declared.Item.{Item}
use Prim.Native.Nat.{ℕ, ◌<◌}
use mathlib.Core.List.{List}
use mathlib.Core.Path.{refl, sym, ap, ◌∙◌, subst}
use lib.ListN.{length}
use Rattle.arena.specs.Layout.{decode as nodes_in}
use Rattle.arena.specs.Calls.{in_cells, add_column, add_literal, add_operation}
use Rattle.conditions.specs.Steps.{add_equal}
use Rattle.classes.specs.Layout.{decode}
use Rattle.classes.specs.Calls.{changed}
use Rattle.questions.specs.Calls.{equal_answer}
use Rattle.group_checks.proofs.HeldLaws.{Fit}
use Rattle.normal.specs.Calls.{normalize_expr}
use Rattle.normal.proofs.NormalKept.{form-kept}
use Rattle.orderings.specs.Layout.{decode as orderings_in}
use Rattle.records.specs.Fields.{fields}
use Rattle.records.specs.Record.{Record, column, literal, operation, equal_pair, constant, normal_form_of, equality_of, one_ordering, body_of, keys_in}
use Rattle.records.proofs.Reading.{was_read}
use Rattle.records.proofs.Items.{column-answer, literal-answer, operation-answer, equal_pair-answer, constant-answer, normal_form-answer, equality-answer, ordering-answer, malformed_answer}
use Rattle.session_steps.specs.State.{added_reply, normal_reply, equality_reply, say_constant, add_ordering, step}
use Rattle.session_steps.specs.Inner.{Went, said_by, listed_of, state_of}
use Rattle.session_steps.specs.declared.holding.Said.{Said}
use Rattle.session_steps.proofs.NodesKept.{column-kept, literal-kept, operation-kept}
use Rattle.session_steps.proofs.ClassesKept.{held-fit, equal-fit, constant-fit}
use Rattle.session_steps.proofs.OrderingsKept.{ordering-good}
use Rattle.session_steps.proofs.Answering.{only, none_read, nodes-went, asked-went, classes-went, orderings-went}
use borrow.Author.Rules.{rules}
use Rattle.session_steps.proofs.steps.step.Goals as goal

pub add_column_in-requires : goal.add_column_in-requires
add_column_in-requires c = c.requires.0.arena

pub add_literal_in-requires : goal.add_literal_in-requires
add_literal_in-requires c = c.requires.0.arena

pub body_of-requires : goal.body_of-requires
body_of-requires c =
    let i = sym c.requires.1 ∙ c.in-Ok-Operation.is ∙ ap {B = Result Item Refusal} Ok (rw c.in-Ok-Operation.is at c.in-Ok-Operation.field-0-is) in
    let label = c.in-Ok-Operation.label in
    let n = c.in-Ok-Operation.n in
    (was_read c.args.bytes.now (operation label (fields (body_of c.args.bytes.now) 4 n)) (operation-answer c.args.bytes.now label n i).0).whole

pub add_operation_in-requires : goal.add_operation_in-requires
add_operation_in-requires c =
    let i = sym c.requires.1 ∙ c.in-Ok-Operation.is ∙ ap {B = Result Item Refusal} Ok (rw c.in-Ok-Operation.is at c.in-Ok-Operation.field-0-is) in
    let label = c.in-Ok-Operation.label in
    let n = c.in-Ok-Operation.n in
    (c.requires.0.arena, ap (λ (t : List ℕ). length t) c.body_of.ensures ∙ (operation-answer c.args.bytes.now label n i).1)

pub equal_pair_in-requires : goal.equal_pair_in-requires
equal_pair_in-requires c = (c.requires.0.arena, c.requires.0.group)

pub say_constant_in-requires : goal.say_constant_in-requires
say_constant_in-requires c = ((c.requires.0.arena, c.requires.0.group), c.requires.0.limit)

pub normal_form_in-requires : goal.normal_form_in-requires
normal_form_in-requires c = (c.requires.0.arena, c.requires.0.group)

pub equality_in-requires : goal.equality_in-requires
equality_in-requires c = (c.requires.0.arena, c.requires.0.group)

pub body_of-requires-in-Ok-OneOrdering : goal.body_of-requires-in-Ok-OneOrdering
body_of-requires-in-Ok-OneOrdering c =
    let i = sym c.requires.1 ∙ c.in-Ok-OneOrdering.is ∙ ap {B = Result Item Refusal} Ok (rw c.in-Ok-OneOrdering.is at c.in-Ok-OneOrdering.field-0-is) in
    let n = c.in-Ok-OneOrdering.n in
    (was_read c.args.bytes.now (one_ordering (keys_in (body_of c.args.bytes.now))) (ordering-answer c.args.bytes.now n i).0).whole

pub add_ordering_in-requires : goal.add_ordering_in-requires
add_ordering_in-requires c =
    let i = sym c.requires.1 ∙ c.in-Ok-OneOrdering.is ∙ ap {B = Result Item Refusal} Ok (rw c.in-Ok-OneOrdering.is at c.in-Ok-OneOrdering.field-0-is) in
    let n = c.in-Ok-OneOrdering.n in
    let w = (ordering-answer c.args.bytes.now n i).1 in
    ((c.requires.0.arena, c.requires.0.list), (ap (λ (t : List ℕ). length t) c.body_of-in-Ok-OneOrdering.ensures ∙ w.0, w.1.1))

pub returns-in-Ok-Column : goal.returns-in-Ok-Column
unfolding step state_of
returns-in-Ok-Column c =
    let i = sym c.requires.1 ∙ c.in-Ok-Column.is ∙ ap {B = Result Item Refusal} Ok (rw c.in-Ok-Column.is at c.in-Ok-Column.field-0-is) in
    let name = c.in-Ok-Column.name in
    let index = c.in-Ok-Column.index in
    let f : index < 65536 = search rules in
    only c.args.bytes.now (λ (x : Record). Went c.args.cells.now c.args.h x c.add_column_in.new.cells c.kept.result) (column name index) (column-answer c.args.bytes.now name index i)
    (nodes-went c.args.cells.now c.args.h (column name index) c.requires.0 (added_reply) (add_column name index (nodes_in c.args.cells.now)) (column-kept name index (nodes_in c.args.cells.now) c.requires.0.arena.sound f) refl c.add_column_in.result c.add_column_in.new.cells c.add_column_in.ensures c.kept.result c.kept.ensures)

pub returns-in-Ok-Literal : goal.returns-in-Ok-Literal
unfolding step state_of
returns-in-Ok-Literal c =
    let i = sym c.requires.1 ∙ c.in-Ok-Literal.is ∙ ap {B = Result Item Refusal} Ok (rw c.in-Ok-Literal.is at c.in-Ok-Literal.field-0-is) in
    let value = c.in-Ok-Literal.value in
    only c.args.bytes.now (λ (x : Record). Went c.args.cells.now c.args.h x c.add_literal_in.new.cells c.kept-in-Ok-Literal.result) (literal value) (literal-answer c.args.bytes.now value i)
    (nodes-went c.args.cells.now c.args.h (literal value) c.requires.0 (added_reply) (add_literal value (nodes_in c.args.cells.now)) (literal-kept value (nodes_in c.args.cells.now) c.requires.0.arena.sound) refl c.add_literal_in.result c.add_literal_in.new.cells c.add_literal_in.ensures c.kept-in-Ok-Literal.result c.kept-in-Ok-Literal.ensures)

pub returns-in-Ok-Operation : goal.returns-in-Ok-Operation
unfolding step state_of
returns-in-Ok-Operation c =
    let i = sym c.requires.1 ∙ c.in-Ok-Operation.is ∙ ap {B = Result Item Refusal} Ok (rw c.in-Ok-Operation.is at c.in-Ok-Operation.field-0-is) in
    let label = c.in-Ok-Operation.label in
    let n = c.in-Ok-Operation.n in
    only c.args.bytes.now (λ (x : Record). Went c.args.cells.now c.args.h x c.add_operation_in.new.cells c.kept-in-Ok-Operation.result) (operation label (fields (body_of c.args.bytes.now) 4 n)) (operation-answer c.args.bytes.now label n i).0
    (nodes-went c.args.cells.now c.args.h (operation label (fields (body_of c.args.bytes.now) 4 n)) c.requires.0 (added_reply) (add_operation label (fields (body_of c.args.bytes.now) 4 n) (nodes_in c.args.cells.now)) (operation-kept label (fields (body_of c.args.bytes.now) 4 n) (nodes_in c.args.cells.now) c.requires.0.arena.sound) refl c.add_operation_in.result c.add_operation_in.new.cells (c.add_operation_in.ensures ∙ ap (λ (t : List ℕ). in_cells (said_by added_reply (add_operation label (fields t 4 n) (nodes_in c.args.cells.now)))) c.body_of.ensures) c.kept-in-Ok-Operation.result c.kept-in-Ok-Operation.ensures)

pub returns-in-Ok-EqualPair : goal.returns-in-Ok-EqualPair
unfolding step state_of
returns-in-Ok-EqualPair c =
    let i = sym c.requires.1 ∙ c.in-Ok-EqualPair.is ∙ ap {B = Result Item Refusal} Ok (rw c.in-Ok-EqualPair.is at c.in-Ok-EqualPair.field-0-is) in
    let p = c.in-Ok-EqualPair.a in
    let q = c.in-Ok-EqualPair.b in
    let f : Fit (nodes_in c.args.cells.now) 256 (decode c.args.h.group) = subst (λ (l : ℕ). Fit (nodes_in c.args.cells.now) l (decode c.args.h.group)) c.requires.0.limit (held-fit (nodes_in c.args.cells.now) c.args.h.group c.requires.0.group) in
    only c.args.bytes.now (λ (x : Record). Went c.args.cells.now c.args.h x c.args.cells.now c.with_group.result) (equal_pair p q) (equal_pair-answer c.args.bytes.now p q i)
    (classes-went c.args.cells.now c.args.h (equal_pair p q) c.requires.0 (add_equal 256 (nodes_in c.args.cells.now) p q (decode c.args.h.group)) (equal-fit (nodes_in c.args.cells.now) 256 p q (decode c.args.h.group) f) refl c.equal_pair_in.result (c.equal_pair_in.ensures ∙ ap (λ (l : ℕ). changed l (add_equal l (nodes_in c.args.cells.now) p q (decode c.args.h.group))) c.requires.0.limit) c.with_group.result c.with_group.ensures)

pub returns-in-Ok-Constant : goal.returns-in-Ok-Constant
unfolding step state_of
returns-in-Ok-Constant c =
    let i = sym c.requires.1 ∙ c.in-Ok-Constant.is ∙ ap {B = Result Item Refusal} Ok (rw c.in-Ok-Constant.is at c.in-Ok-Constant.field-0-is) in
    let e = c.in-Ok-Constant.e in
    let flavour = c.in-Ok-Constant.flavour in
    let value = c.in-Ok-Constant.value in
    let f : Fit (nodes_in c.args.cells.now) 256 (decode c.args.h.group) = subst (λ (l : ℕ). Fit (nodes_in c.args.cells.now) l (decode c.args.h.group)) c.requires.0.limit (held-fit (nodes_in c.args.cells.now) c.args.h.group c.requires.0.group) in
    only c.args.bytes.now (λ (x : Record). Went c.args.cells.now c.args.h x c.args.cells.now c.with_group-in-Ok-Constant.result) (constant e flavour value) (constant-answer c.args.bytes.now e flavour value i)
    (classes-went c.args.cells.now c.args.h (constant e flavour value) c.requires.0 (say_constant e flavour value (nodes_in c.args.cells.now) (decode c.args.h.group)) (constant-fit (nodes_in c.args.cells.now) e flavour value (decode c.args.h.group) f) refl c.say_constant_in.result (c.say_constant_in.ensures ∙ ap (λ (l : ℕ). changed l (say_constant e flavour value (nodes_in c.args.cells.now) (decode c.args.h.group))) c.requires.0.limit) c.with_group-in-Ok-Constant.result c.with_group-in-Ok-Constant.ensures)

pub returns-in-Ok-NormalFormOf : goal.returns-in-Ok-NormalFormOf
unfolding step state_of
returns-in-Ok-NormalFormOf c =
    let i = sym c.requires.1 ∙ c.in-Ok-NormalFormOf.is ∙ ap {B = Result Item Refusal} Ok (rw c.in-Ok-NormalFormOf.is at c.in-Ok-NormalFormOf.field-0-is) in
    let e = c.in-Ok-NormalFormOf.e in
    only c.args.bytes.now (λ (x : Record). Went c.args.cells.now c.args.h x c.normal_form_in.new.cells c.kept-in-Ok-NormalFormOf.result) (normal_form_of e) (normal_form-answer c.args.bytes.now e i)
    (nodes-went c.args.cells.now c.args.h (normal_form_of e) c.requires.0 (normal_reply e) (normalize_expr e (nodes_in c.args.cells.now) (decode c.args.h.group)) (form-kept e (nodes_in c.args.cells.now) (decode c.args.h.group) c.requires.0.arena.sound c.requires.0.group.good) refl c.normal_form_in.result c.normal_form_in.new.cells c.normal_form_in.ensures c.kept-in-Ok-NormalFormOf.result c.kept-in-Ok-NormalFormOf.ensures)

pub returns-in-Ok-EqualityOf : goal.returns-in-Ok-EqualityOf
unfolding step state_of
returns-in-Ok-EqualityOf c =
    let i = sym c.requires.1 ∙ c.in-Ok-EqualityOf.is ∙ ap {B = Result Item Refusal} Ok (rw c.in-Ok-EqualityOf.is at c.in-Ok-EqualityOf.field-0-is) in
    let p = c.in-Ok-EqualityOf.a in
    let q = c.in-Ok-EqualityOf.b in
    only c.args.bytes.now (λ (x : Record). Went c.args.cells.now c.args.h x c.args.cells.now c.kept-in-Ok-EqualityOf.result) (equality_of p q) (equality-answer c.args.bytes.now p q i)
    (asked-went c.args.cells.now c.args.h (equality_of p q) c.requires.0 (equality_reply p q (equal_answer p q (nodes_in c.args.cells.now) (decode c.args.h.group))) refl c.kept-in-Ok-EqualityOf.result (c.kept-in-Ok-EqualityOf.ensures ∙ ap (λ (s : Result Said Refusal). record { said = s; holding = c.args.h }) c.equality_in.ensures))

pub returns-in-Ok-OneOrdering : goal.returns-in-Ok-OneOrdering
unfolding step state_of
returns-in-Ok-OneOrdering c =
    let i = sym c.requires.1 ∙ c.in-Ok-OneOrdering.is ∙ ap {B = Result Item Refusal} Ok (rw c.in-Ok-OneOrdering.is at c.in-Ok-OneOrdering.field-0-is) in
    let n = c.in-Ok-OneOrdering.n in
    only c.args.bytes.now (λ (x : Record). Went c.args.cells.now c.args.h x c.args.cells.now c.with_list.result) (one_ordering (keys_in (body_of c.args.bytes.now))) (ordering-answer c.args.bytes.now n i).0
    (orderings-went c.args.cells.now c.args.h (one_ordering (keys_in (body_of c.args.bytes.now))) c.requires.0 (add_ordering (keys_in (body_of c.args.bytes.now)) (nodes_in c.args.cells.now) (orderings_in c.args.h.list)) (ordering-good (keys_in (body_of c.args.bytes.now)) (nodes_in c.args.cells.now) (orderings_in c.args.h.list) c.requires.0.list.good) refl c.add_ordering_in.result (c.add_ordering_in.ensures ∙ ap (λ (t : List ℕ). listed_of (add_ordering (keys_in t) (nodes_in c.args.cells.now) (orderings_in c.args.h.list))) c.body_of-in-Ok-OneOrdering.ensures) c.with_list.result c.with_list.ensures)

pub returns-in-Err : goal.returns-in-Err
returns-in-Err c =
    none_read c.args.bytes.now (λ (x : Record). Went c.args.cells.now c.args.h x c.args.cells.now c.kept-in-Err.result) (malformed_answer c.args.bytes.now c.in-Err.why (sym c.requires.1 ∙ c.in-Err.is))
