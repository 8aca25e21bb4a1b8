-- A refusal leaves everything as it was: where the number that a function returns is not 0, the place for the answer, every lent state and the lent arena are what they were.
-- First what each answer comes to in numbers, then the calls that also change a lent arena or write into a lent output.
use Rattle.std.specs.Prelude.{if◌then◌else◌, Option, Result, Ok, Err}
use Prim.Native.Nat.{ℕ, ◌<◌}
use mathlib.Core.Bool.{Bool, true, false}
use mathlib.Core.List.{List, [], ◌∷◌}
use mathlib.Core.Path.{◌≡◌, refl, sym, ap, ◌∙◌}
use lib.Dec.{eqb, leb}
use lib.IntN.{ℤ}
use lib.ListN.{length}
use Rattle.arena.specs.declared.Refusal.{Refusal}
use Rattle.arena.specs.declared.Refusal.TheVariants.{OutputShort}
use Rattle.arena.specs.declared.Read.{Read}
use Rattle.arena.specs.Refusals.{Added, number_of}
use Rattle.arena.specs.Node.{Node}
use Rattle.arena.specs.Arena.{Sound}
use Rattle.arena.specs.Calls.{lent, add_column, add_literal, add_operation}
use Rattle.shifting.specs.Calls.{add_offset}
use Rattle.arena.proofs.Promises.{Kept, column-kept, literal-kept, operation-kept, lent-refused}
use Rattle.shifting.proofs.Promises.{offset_kept}
use Rattle.classes.specs.declared.Group.{Group}
use Rattle.classes.specs.declared.Changed.{Changed}
use Rattle.classes.specs.declared.Constant.{Constant}
use Rattle.group_checks.specs.declared.ClassIs.{ClassIs}
use Rattle.normal.specs.Calls.{normalized}
use Rattle.sort_keys.specs.Calls.{KeyIs, SortedIs, normalized_key, normalized_keys}
use Rattle.normal.proofs.NormalKept.{form-refused}
use Rattle.sort_keys.proofs.KeysKept.{key-refused, keys-refusal}
use Rattle.joins.specs.Calls.{join_answer}
use Rattle.merging_laws.proofs.HandedBack.{refusal-keeps-join}
use Rattle.projection.specs.Calls.{Projected, projected_expr}
use Rattle.group_projection.specs.Calls.{project_answer}
use Rattle.projection_laws.proofs.ProjectedCalls.{expr-refused}
use Rattle.projection_laws.proofs.GroupHanded.{refusal-keeps-project}
use Rattle.orderings.specs.declared.Listed.{Listed}
use Rattle.orderings.specs.declared.Ordering.{Ordering}
use Rattle.orderings.specs.declared.Orderings.{Orderings}
use Rattle.ordering_joins.specs.Calls.{offset_answer}
use Rattle.ordering_laws.proofs.OffsetLaws.{offset_keeps}
use Rattle.dependencies.specs.declared.DependencyMap.{DependencyMap}
use Rattle.dependencies.specs.declared.Inserted.{Inserted}
use Rattle.dependency_orderings.specs.Calls.{prefix_answer, generate_answer}
use Rattle.dependency_orderings.specs.declared.Enumerated.{Enumerated}
use Rattle.enumeration_laws.proofs.Answers.{prefix-refused, generate_refused}
use Rattle.records.specs.Chosen.{chosen_number}
use Rattle.records.specs.declared.Item.{Item}
use Rattle.transcript.specs.Session.{session_text, session}
use Rattle.states.specs.Cells.{told}
use Rattle.states.specs.Orders.{stored_list}
use Rattle.states.specs.Maps.{stored_map}
use Rattle.group_states.specs.Groups.{stored_group}
use Rattle.answers.specs.Answers.{on_first, options_in, partial_in, output_in, enumerated_in, item_in, chosen_in, written_in}
use Rattle.group_answers.specs.Answers.{added_in, read_in, child_in, class_in, changed_in, answer_in, constant_in, key_in, sorted_in, projected_in}

-- a number other than 0 stands beside what was there before
abbrev pub Stays : List ℕ → ℕ × List ℕ → Type 0
Stays old r = (r.0 ≡ 0 → ⊥) → r.1 ≡ old

-- ---- each answer in numbers

-- an answer that is told
told-stays : {A : Type 0} (numbers : A → List ℕ) (old : List ℕ) (r : Result A Refusal) → Stays old (told numbers old r)
unfolding told
told-stays numbers old (Ok a) z = absurd (z refl)
told-stays numbers old (Err why) z = refl

-- and its number
told-number : {A : Type 0} (numbers : A → List ℕ) (old : List ℕ) (r : Result A Refusal) → (told numbers old r).0 ≡ number_of r
unfolding told
told-number numbers old (Ok a) = refl
told-number numbers old (Err why) = refl

module _ (old : List ℕ) where
  -- an addition
  pub added-stays : (r : Added) → Stays old (added_in old r)
  unfolding added_in
  added-stays r = told-stays _ old r

  -- a node
  pub read_stays : (r : Result Read Refusal) → Stays old (read_in old r)
  unfolding read_in
  read_stays r = told-stays _ old r

  -- a child
  pub child-stays : (r : Result (Option ℕ) Refusal) → Stays old (child_in old r)
  unfolding child_in
  child-stays r = told-stays _ old r

  -- a class
  pub class-stays : (r : Result (Option ClassIs) Refusal) → Stays old (class_in old r)
  unfolding class_in
  class-stays r = told-stays _ old r

  -- the equality question
  pub answer-stays : (r : Result Bool Refusal) → Stays old (answer_in old r)
  unfolding answer_in
  answer-stays r = told-stays _ old r

  -- the constant question
  pub constant-stays : (r : Result Constant Refusal) → Stays old (constant_in old r)
  unfolding constant_in
  constant-stays r = told-stays _ old r

  -- a sort key
  pub key-stays : (r : KeyIs) → Stays old (key_in old r)
  unfolding key_in
  key-stays r = told-stays _ old r

  -- sort keys
  pub sorted-stays : (r : SortedIs) → Stays old (sorted_in old r)
  unfolding sorted_in
  sorted-stays r = told-stays _ old r

  -- the projection of an expression
  pub projected-stays : (r : Projected) → Stays old (projected_in old r)
  unfolding projected_in
  projected-stays r = told-stays _ old r

  -- the options of an expression
  pub options-stays : (r : Result (Option ℕ) Refusal) → Stays old (options_in old r)
  unfolding options_in
  options-stays r = told-stays _ old r

  -- whether an expression is partly constant
  pub partial_stays : (r : Result Bool Refusal) → Stays old (partial_in old r)
  unfolding partial_in
  partial_stays r = told-stays _ old r

  -- the joined ordering
  pub output-stays : (r : Result Ordering Refusal) → Stays old (output_in old r)
  unfolding output_in
  output-stays r = told-stays _ old r

  -- an enumeration
  pub enumerated_stays : (r : Result Enumerated Refusal) → Stays old (enumerated_in old r)
  unfolding enumerated_in
  enumerated_stays r = told-stays _ old r

  -- a record
  pub item_stays : (r : Result Item Refusal) → Stays old (item_in old r)
  unfolding item_in
  item_stays r = told-stays _ old r

  -- the chosen one of two records
  pub chosen-stays : (kind : ℕ) (left right : List ℕ) → Stays old (chosen_in old kind left right)
  unfolding chosen_in
  chosen-stays kind left right = by (eqb (chosen_number kind left right) 0) _
    where
      by : (b : Bool) (new : List ℕ) → Stays old (if b then (0, new) else (chosen_number kind left right, old))
      by true new z = absurd (z refl)
      by false new z = refl

  -- a session
  pub written-stays : (r : Result ℕ Refusal) → Stays old (written_in old r)
  unfolding written_in
  written-stays r = told-stays _ old r

  -- a group in its cells
  pub group-stays : (c : Changed) → Stays old (stored_group old c)
  unfolding stored_group
  group-stays c = told-stays _ old c.answer

  -- a list of orderings in its cells
  pub list-stays : (l : Listed) → Stays old (stored_list old l)
  unfolding stored_list
  list-stays l = told-stays _ old l.done

  -- a map in its cells
  pub map-stays : (i : Inserted) → Stays old (stored_map old i)
  unfolding stored_map
  map-stays i = told-stays _ old i.done

-- ---- calls that also leave something in another memory

-- both stay: the place of what the call answers, and the memory beside it
abbrev pub BothStay : List ℕ → List ℕ → (ℕ × List ℕ) × List ℕ → Type 0
BothStay old cells r = (r.0.0 ≡ 0 → ⊥) → (r.0.1 ≡ old) × (r.1 ≡ cells)

-- where a refusal leaves the memory, both stay
both-told : {A : Type 0} (numbers : A → List ℕ) (old cells : List ℕ) (r : Result A Refusal) (left : List ℕ) → ((number_of r ≡ 0 → ⊥) → left ≡ cells) → BothStay old cells (told numbers old r, left)
both-told numbers old cells r left h z = (told-stays numbers old r z, h (λ e. z (told-number numbers old r ∙ e)))

module _ (old cells : List ℕ) where
  -- a call that changes a group: the answer's place and the group's cells
  pub changed-stays : (c : Changed) → BothStay old cells (changed_in old cells c)
  unfolding changed_in stored_group
  changed-stays c = both-told _ old cells c.answer _ (λ z. told-stays _ cells c.answer (λ e. z (sym (told-number _ cells c.answer) ∙ e)))

  -- a call that adds to a lent arena
  lent-stays : (call : List Node → Added × List Node) → ((ns : List Node) → Sound ns → Kept ns (call ns)) → BothStay old cells (on_first (added_in old) (lent call cells))
  unfolding on_first added_in
  lent-stays call keeps = both-told _ old cells (lent call cells).0 (lent call cells).1 (lent-refused call keeps cells)

  -- a column
  pub column-stays : (name index : ℕ) → index < 65536 → BothStay old cells (on_first (added_in old) (lent (add_column name index) cells))
  column-stays name index l = lent-stays (add_column name index) (λ ns s. column-kept name index ns s l)

  -- a literal
  pub literal-stays : (value : ℕ) → BothStay old cells (on_first (added_in old) (lent (add_literal value) cells))
  literal-stays value = lent-stays (add_literal value) (λ ns s. literal-kept value ns s)

  -- an operation
  pub operation-stays : (label : ℕ) (children : List ℕ) → BothStay old cells (on_first (added_in old) (lent (add_operation label children) cells))
  operation-stays label children = lent-stays (add_operation label children) (λ ns s. operation-kept label children ns s)

  -- a shifted expression
  pub shifted-stays : (e : ℕ) (offset : ℤ) → BothStay old cells (on_first (added_in old) (lent (add_offset e offset) cells))
  shifted-stays e offset = lent-stays (add_offset e offset) (λ ns s. offset_kept e offset ns s)

  module _ (g : Group) where
    -- a normal form
    pub form-stays : (e : ℕ) → BothStay old cells (on_first (added_in old) (normalized e cells g))
    unfolding on_first added_in
    form-stays e = let o = normalized e cells g in both-told _ old cells o.0 o.1 (form-refused cells g e)

    -- a sort key
    pub sort_key_stays : (e options : ℕ) → BothStay old cells (on_first (key_in old) (normalized_key e options cells g))
    unfolding on_first key_in
    sort_key_stays e options = let o = normalized_key e options cells g in both-told _ old cells o.0 o.1 (key-refused cells g e options)

    -- sort keys
    pub sort_keys_stay : (numbers : List ℕ) → BothStay old cells (on_first (sorted_in old) (normalized_keys numbers cells g))
    unfolding on_first sorted_in
    sort_keys_stay numbers = let o = normalized_keys numbers cells g in both-told _ old cells o.0 o.1 (keys-refusal cells g numbers)

    -- a join
    pub join-stays : (right : Group) (kind size : ℕ) (numbers : List ℕ) → BothStay old cells (on_first (stored_group old) (join_answer cells g right kind size numbers))
    unfolding on_first stored_group
    join-stays right kind size numbers =
        let o = join_answer cells g right kind size numbers in
        both-told _ old cells o.0.answer o.1 (λ z. (refusal-keeps-join cells g right kind size numbers z).1)

    -- a projection
    pub project-stays : (mapping : List ℕ) → BothStay old cells (on_first (stored_group old) (project_answer cells g mapping))
    unfolding on_first stored_group
    project-stays mapping = let o = project_answer cells g mapping in both-told _ old cells o.0.answer o.1 (λ z. (refusal-keeps-project cells mapping g z).1)

    -- the projection of an expression
    pub project_expr-stays : (e : ℕ) (mapping : List ℕ) → BothStay old cells (on_first (projected_in old) (projected_expr e mapping cells g))
    unfolding on_first projected_in
    project_expr-stays e mapping = let o = projected_expr e mapping cells g in both-told _ old cells o.0 o.1 (by o.0 refl)
      where
        by : (r : Projected) → (projected_expr e mapping cells g).0 ≡ r → (number_of r ≡ 0 → ⊥) → (projected_expr e mapping cells g).1 ≡ cells
        by (Ok i) q z = absurd (z refl)
        by (Err why) q z = expr-refused cells g mapping e why q

  -- a shifted list of orderings
  pub list_offset_stays : (offset : ℤ) (g : Orderings) → BothStay old cells (on_first (stored_list old) (offset_answer offset cells g))
  unfolding on_first stored_list
  list_offset_stays offset g =
      let o = offset_answer offset cells g in
      both-told _ old cells o.0.done o.1 (λ z. ap (λ (r : Listed × List ℕ). r.1) (offset_keeps offset cells g z))

  -- an enumeration: the output
  pub prefix-stays : (m : DependencyMap) (e options : ℕ) (output : List ℕ) → BothStay old output (on_first (enumerated_in old) (prefix_answer cells m e options output))
  unfolding on_first enumerated_in
  prefix-stays m e options output =
      let o = prefix_answer cells m e options output in
      both-told _ old output o.0 o.1 (λ z. (prefix-refused cells m output e options z).unchanged)

  -- of several keys
  pub generate_stays : (m : DependencyMap) (keys output : List ℕ) → BothStay old output (on_first (enumerated_in old) (generate_answer cells m keys output))
  unfolding on_first enumerated_in
  generate_stays m keys output =
      let o = generate_answer cells m keys output in
      both-told _ old output o.0 o.1 (λ z. (generate_refused cells m output keys z).unchanged)

-- a session: the output
pub session-stays : (old input output : List ℕ) → BothStay old output (on_first (written_in old) (session input output))
unfolding on_first session written_in
session-stays old input output = by (leb (length (session_text input)) (length output)) _ _
  where
    by : (b : Bool) (n : ℕ) (text : List ℕ) → let r : Result ℕ Refusal × List ℕ = if b then (Ok n, text) else (Err OutputShort, output) in BothStay old output (told (λ k. k ∷ []) old r.0, r.1)
    by true n text = both-told _ old output (Ok n) text (λ z. absurd (z refl))
    by false n text = both-told _ old output (Err OutputShort) output (λ z. refl)
