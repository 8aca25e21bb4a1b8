-- Kinds 1 to 8 have the effects of the calls they stand for: on a state whose parts pass the calls' own checks, a record comes to what the public call answers, and leaves what the call leaves.
use Rattle.arena.specs.declared.Refusal.TheVariants.{BadNumber, BadState, TooLarge}
use Rattle.arena.specs.Refusals.{refusal, outcome, number_of}
use Rattle.arena.proofs.Refusals.{Listed as InTable, refused-number}
use Rattle.std.specs.Prelude.{if◌then◌else◌, Ok, Err}
use Prim.Native.Nat.{ℕ, ◌+◌}
use mathlib.Core.Bool.{Bool, true, false, ◌&&◌}
use mathlib.Core.List.{List, [], ◌∷◌, ◌++◌, map}
use mathlib.Core.Path.{◌≡◌, refl, sym, ap, ◌∙◌}
use native.Mathlib.Omega.{arith}
use borrow.Author.Tests.{eq-eqb, eqb-true}
use lib.Dec.{eqb, ltb, leb}
use lib.ListN.{length}
use Rattle.laws.specs.Tests.{each}
use Rattle.laws.proofs.Booleans.{and_right}
use Rattle.arena.specs.Node.{Node}
use Rattle.arena.specs.Arena.{Sound}
use Rattle.arena.specs.Layout.{encode as cells_for, decode as nodes_in, count, lawful}
use Rattle.arena.specs.Calls.{lent, in_cells, Outcome, add_column, add_literal, add_operation}
use Rattle.arena.proofs.Layouts.{decode-encode, count-encode, encode-holds, holds-lawful}
use Rattle.arena.proofs.Lending.{on-arena}
use Rattle.classes.specs.Class.{Class}
use Rattle.classes.specs.Steps.{Outcome as GroupOutcome, refused, judged, fits as group_fits}
use Rattle.classes.specs.Group.{equal_condition, with_constant}
use Rattle.classes.specs.declared.Constant.{Constant}
use Rattle.conditions.specs.Steps.{add_equal, add_constant}
use Rattle.classes.specs.Layout.{encode as group_for, decode as classes_in, constant_from}
use Rattle.classes.specs.Calls.{group_number, answer_of, changed, on_group, ask_group}
use Rattle.conditions.specs.Calls.{sayable, on_constant}
use Rattle.questions.specs.Calls.{Answer, equal_answer}
use Rattle.classes.specs.declared.Changed.{Changed}
use Rattle.classes.proofs.Codec.{decode-encode as classes-again}
use Rattle.normal.specs.Calls.{on_checked, normalize_expr, normalized}
use Rattle.orderings.specs.Ordering.{same_key}
use Rattle.reduction.specs.Reduction.{reduced}
use Rattle.orderings.specs.Lists.{built_all}
use Rattle.reduction.specs.Lent.{lists_lent}
use Rattle.orderings.specs.Layout.{encode as list_for, decode as orderings_in, lawful_list, keys_inside}
use Rattle.orderings.proofs.Codec.{decode-encode as orderings-again}
use Rattle.orderings.specs.Calls.{list_number, fits}
use Rattle.reduction.specs.Calls.{lent_number, add_answer, reduced_list}
use Rattle.orderings.specs.declared.Listed.{Listed}
use Rattle.records.specs.Record.{column, literal, operation, equal_pair, constant, normal_form_of, equality_of, one_ordering}
use Rattle.session_steps.specs.State.{State, Reply, unless, added_reply, normal_reply, equality_reply, say_constant, key_expr, key_options, key_number, add_ordering, on_nodes, on_classes, with_nodes, with_classes, with_orderings, step}
use Rattle.session_steps.specs.Inner.{lent_keys, listed_of}
use Rattle.session_steps.proofs.KeyNumbers.{lent-lists, lent-options_known, lent-exprs_inside, lent-whole}

-- a state as it is lent to the calls: its cells, its group, its list
abbrev pub cells_of : State → List ℕ
cells_of s = cells_for s.nodes

abbrev pub group_of : State → Rattle.classes.specs.declared.Group.Group
group_of s = group_for 256 s.classes

abbrev pub list_of : State → Rattle.orderings.specs.declared.Orderings.Orderings
list_of s = list_for s.orderings

-- every part passes the calls' own check
pub record Passes (s : State) : Type 0 where
  pub sound : Sound s.nodes
  pub group : group_number (cells_of s) (group_of s) ≡ 0
  pub list : list_number (cells_of s) (list_of s) ≡ 0

-- what a call that hands back a group, or a list, answers: a refusal or nothing, beside it
abbrev pub group_told : Changed → Reply × Rattle.classes.specs.declared.Group.Group
group_told r = (unless (number_of r.answer), r.group)

abbrev pub list_told : Listed → Reply × Rattle.orderings.specs.declared.Orderings.Orderings
list_told r = (unless (number_of r.done), r.list)

-- the answer of a call as a reply, beside what the call leaves
abbrev pub told : {A B : Type 0} → (A → Reply) → A × B → Reply × B
told reply o = (reply o.0, o.1)

-- the number of an outcome is that of its answer
answer-number : (o : GroupOutcome) → InTable o.number → number_of (answer_of o) ≡ o.number
unfolding answer_of
answer-number o l = go (eqb o.number 0) refl
  where
    go : (b : Bool) → eqb o.number 0 ≡ b → number_of (if b then Ok o.answer else Err (refusal o.number)) ≡ o.number
    go true e = sym (eqb-true o.number 0 e)
    go false e = refused-number o.number l e

-- the numbers of the calls on a group stand in the table
judged-listed : (limit : ℕ) (cs : List Class) (o : Bool × List Class) → InTable (judged limit cs o).number
unfolding judged refused outcome refusal
judged-listed limit cs o = go (group_fits limit o.1)
  where
    go : (b : Bool) → InTable (if b then record { number = 0; answer = o.0; classes = o.1 } else refused 4 cs).number
    go true = refl
    go false = refl

pub equal-listed : (limit : ℕ) (ns : List Node) (a b : ℕ) (cs : List Class) → InTable (add_equal limit ns a b cs).number
unfolding add_equal refused outcome refusal
equal-listed limit ns a b cs = go (ltb a (length ns) && ltb b (length ns))
  where
    go : (t : Bool) → InTable (if t then judged limit cs (equal_condition ns cs a b) else refused 1 cs).number
    go true = judged-listed limit cs (equal_condition ns cs a b)
    go false = refl

pub constant-listed : (two : Bool) (limit : ℕ) (ns : List Node) (e : ℕ) (said : Constant) (cs : List Class) → InTable (add_constant two limit ns e said cs).number
unfolding add_constant refused outcome refusal
constant-listed two limit ns e said cs = go (ltb e (length ns))
  where
    go : (t : Bool) → InTable (if t then judged limit cs (false, with_constant two ns cs e said) else refused 1 cs).number
    go true = judged-listed limit cs (false, with_constant two ns cs e said)
    go false = refl

-- so does that of an ordering
pub ordering-listed : (keys : List (ℕ × ℕ)) (ns : List Node) (os : List (List ℕ)) → InTable (add_ordering keys ns os).0
unfolding add_ordering outcome refusal
ordering-listed keys ns os =
    go (each (λ k. leb (key_options keys k) 3) (length keys)) (each (λ k. ltb (key_expr keys k) (length ns)) (length keys)) (fits (os ++ built_all (map key_number keys ∷ [])))
  where
    out : Bool → Bool → Bool → ℕ × List (List ℕ)
    out a b c = if a then (if b then (if c then (0, (reduced same_key (os ++ built_all (map key_number keys ∷ []))).orderings) else (5, os)) else (1, os)) else (12, os)

    go : (a b c : Bool) → InTable (out a b c).0
    go true true true = refl
    go true true false = refl
    go true false c = refl
    go false b c = refl

-- the tests of the keys of a record
abbrev OptionsOf : List (ℕ × ℕ) → Bool
OptionsOf keys = each (λ k. leb (key_options keys k) 3) (length keys)

abbrev ExprsOf : ℕ → List (ℕ × ℕ) → Bool
ExprsOf n keys = each (λ k. ltb (key_expr keys k) n) (length keys)

-- a check in two parts that finds nothing
both : (a b : Bool) → ◌≡◌ {A = ℕ} (if a then (if b then 0 else 1) else 11) 0 → (a ≡ true) × (b ≡ true)
both true true e = (refl, refl)
both true false e = absurd (omega (arith, e))
both false b e = absurd (omega (arith, e))

module _ (s : State) (p : Passes s) where
  nodes-again : nodes_in (cells_of s) ≡ s.nodes
  nodes-again = decode-encode s.nodes p.sound

  is_lawful : lawful (cells_of s) ≡ true
  is_lawful = holds-lawful (cells_of s) (encode-holds s.nodes p.sound)

  group-again : classes_in (group_of s) ≡ s.classes
  group-again = classes-again 256 s.classes

  -- a call that adds nodes, one that changes the group, one that asks, one that adds nodes by the group
  lent_is : (call : List Node → Outcome) → lent call (cells_of s) ≡ in_cells (call s.nodes)
  lent_is call = on-arena (Err BadState, cells_of s) (λ ns. in_cells (call ns)) (cells_of s) is_lawful ∙ ap (λ (ns : List Node). in_cells (call ns)) nodes-again

  group-is : (call : List Node → List Class → GroupOutcome) → on_group call (cells_of s) (group_of s) ≡ changed 256 (call s.nodes s.classes)
  unfolding on_group group_for
  group-is call = rw (eq-eqb (group_number (cells_of s) (group_of s)) 0 p.group, nodes-again, group-again)

  ask_is : {A : Type 0} (refused_by : ℕ → A) (call : List Node → List Class → A) → ask_group refused_by call (cells_of s) (group_of s) ≡ call s.nodes s.classes
  unfolding ask_group
  ask_is refused_by call = rw (eq-eqb (group_number (cells_of s) (group_of s)) 0 p.group, nodes-again, group-again)

  normal-is : (e : ℕ) → normalized e (cells_of s) (group_of s) ≡ in_cells (normalize_expr e s.nodes s.classes)
  unfolding on_checked
  normal-is e = rw (eq-eqb (group_number (cells_of s) (group_of s)) 0 p.group, nodes-again, group-again)

  list-again : orderings_in (list_of s) ≡ s.orderings
  list-again = orderings-again s.orderings

  -- the parts of the list's check
  list-tests : ((lawful (cells_of s) && lawful_list (list_of s)) ≡ true) × (keys_inside (count (cells_of s)) (list_of s) ≡ true)
  unfolding list_number
  list-tests = both (lawful (cells_of s) && lawful_list (list_of s)) (keys_inside (count (cells_of s)) (list_of s)) p.list

  -- the check of the list and of the keys that are lent with it: 12, then 1
  lent-number : (keys : List (ℕ × ℕ)) → lent_number (cells_of s) (list_of s) (lent_keys keys) ≡ (if OptionsOf keys then (if ExprsOf (length s.nodes) keys then 0 else 1) else 12)
  unfolding lent_number
  lent-number keys =
      rw (lent-options_known keys, is_lawful, and_right (lawful (cells_of s)) (lawful_list (list_of s)) list-tests.0, lent-whole keys, list-tests.1, lent-exprs_inside keys (count (cells_of s)), count-encode s.nodes p.sound)

  -- the list with the ordering of a record at its end, as the call makes it
  with-ordering : (keys : List (ℕ × ℕ)) → (orderings_in (list_of s) ++ built_all (lists_lent (lent_keys keys))) ≡ (s.orderings ++ built_all (map key_number keys ∷ []))
  with-ordering keys = rw (list-again, lent-lists keys)

  -- a call that adds an ordering
  pub ordering-is : (keys : List (ℕ × ℕ)) → add_answer (cells_of s) (list_of s) (lent_keys keys) ≡ listed_of (add_ordering keys s.nodes s.orderings)
  unfolding add_answer add_ordering listed_of reduced_list outcome refusal
  ordering-is keys = rw (lent-number keys, with-ordering keys) (go (OptionsOf keys) (ExprsOf (length s.nodes) keys) (fits more))
    where
      more : List (List ℕ)
      more = s.orderings ++ built_all (map key_number keys ∷ [])

      number : Bool → Bool → ℕ
      number a b = if a then (if b then 0 else 1) else 12

      made : Bool → Listed
      made f = if f then record { done = Ok tt; list = list_for (reduced same_key more).orderings } else record { done = Err TooLarge; list = list_of s }

      added : Bool → Bool → Bool → ℕ × List (List ℕ)
      added a b f = if a then (if b then (if f then (0, (reduced same_key more).orderings) else (5, s.orderings)) else (1, s.orderings)) else (12, s.orderings)

      go : (a b f : Bool) → (if eqb (number a b) 0 then made f else record { done = Err (refusal (number a b)); list = list_of s }) ≡ record { done = outcome (added a b f).0; list = list_for (added a b f).1 }
      go true true true = refl
      go true true false = refl
      go true false f = refl
      go false b f = refl

  -- kind 1 is `add_column`, kind 2 `add_literal`, kind 3 `add_operation`: the answer, and the cells afterwards
  pub column_effect : (name index : ℕ) → ((step (column name index) s).0, cells_of (step (column name index) s).1) ≡ told added_reply (lent (add_column name index) (cells_of s))
  unfolding step on_nodes with_nodes in_cells
  column_effect name index = sym (ap (told added_reply) (lent_is (add_column name index)))

  pub literal_effect : (value : ℕ) → ((step (literal value) s).0, cells_of (step (literal value) s).1) ≡ told added_reply (lent (add_literal value) (cells_of s))
  unfolding step on_nodes with_nodes in_cells
  literal_effect value = sym (ap (told added_reply) (lent_is (add_literal value)))

  pub operation_effect : (label : ℕ) (children : List ℕ) → ((step (operation label children) s).0, cells_of (step (operation label children) s).1) ≡ told added_reply (lent (add_operation label children) (cells_of s))
  unfolding step on_nodes with_nodes in_cells
  operation_effect label children = sym (ap (told added_reply) (lent_is (add_operation label children)))

  -- kind 4 is `add_equal_conditions`: a refusal is told, and the group is the one that the call hands back
  pub equal_effect : (a b : ℕ) → ((step (equal_pair a b) s).0, group_of (step (equal_pair a b) s).1) ≡ group_told (on_group (λ ns cs. add_equal 256 ns a b cs) (cells_of s) (group_of s))
  unfolding step on_classes with_classes changed
  equal_effect a b =
      let o = add_equal 256 s.nodes a b s.classes in
      ap (λ (n : ℕ). (unless n, group_for 256 o.classes)) (sym (answer-number o (equal-listed 256 s.nodes a b s.classes))) ∙ sym (ap group_told (group-is (λ ns cs. add_equal 256 ns a b cs)))

  -- kind 5 is `add_constant`
  pub constant_effect : (e flavour value : ℕ) → ((step (constant e flavour value) s).0, group_of (step (constant e flavour value) s).1) ≡ group_told (on_constant e flavour value (cells_of s) (group_of s))
  unfolding step on_classes with_classes changed say_constant on_constant refused group_for
  constant_effect e flavour value = go (sayable flavour value)
    where
      call : List Node → List Class → GroupOutcome
      call ns cs = add_constant true 256 ns e (constant_from (flavour + 1) value) cs

      result : Bool → GroupOutcome
      result b = if b then call s.nodes s.classes else refused 12 s.classes

      go : (b : Bool) → (unless (result b).number, group_for 256 (result b).classes) ≡ group_told (if b then on_group call (cells_of s) (group_of s) else record { answer = Err BadNumber; group = group_of s })
      go true =
          let o = call s.nodes s.classes in
          ap (λ (n : ℕ). (unless n, group_for 256 o.classes)) (sym (answer-number o (constant-listed true 256 s.nodes e (constant_from (flavour + 1) value) s.classes))) ∙ sym (ap group_told (group-is call))
      go false = refl

  -- kind 6 is `normalize_expr`: its number, and the cells afterwards
  pub normal_effect : (e : ℕ) → ((step (normal_form_of e) s).0, cells_of (step (normal_form_of e) s).1) ≡ told (normal_reply e) (normalized e (cells_of s) (group_of s))
  unfolding step on_nodes with_nodes in_cells
  normal_effect e = sym (ap (told (normal_reply e)) (normal-is e))

  -- kind 7 is `exprs_equal`, and the state stays
  pub equality_effect : (a b : ℕ) → step (equality_of a b) s ≡ (equality_reply a b (ask_group (λ k. Err (refusal k)) (equal_answer a b) (cells_of s) (group_of s)), s)
  unfolding step
  equality_effect a b = ap (λ (r : Answer). (equality_reply a b r, s)) (sym (ask_is (λ k. Err (refusal k)) (equal_answer a b)))

  -- kind 8 is `add_orderings` with one list of keys: a refusal is told, and the list is the one that the call hands back
  pub ordering_effect : (keys : List (ℕ × ℕ)) → ((step (one_ordering keys) s).0, list_of (step (one_ordering keys) s).1) ≡ list_told (add_answer (cells_of s) (list_of s) (lent_keys keys))
  unfolding step with_orderings listed_of
  ordering_effect keys =
      let o = add_ordering keys s.nodes s.orderings in
      ap (λ (n : ℕ). (unless n, list_for o.1)) (sym (ordering-listed keys s.nodes s.orderings)) ∙ sym (ap list_told (ordering-is keys))
