-- The number that a record is told is one of the table of refusals, so that the refusal in its place says it.
use Rattle.std.proofs.Common.{◌≡◌, ℕ, ◌+◌, Bool, true, false, eqb, refl, ap}
use Rattle.std.specs.Prelude.{if◌then◌else◌, Ok, Err}
use Rattle.arena.specs.Refusals.{Added, refusal_number, outcome, refusal as refusal_of}
use Rattle.arena.proofs.Refusals.{Listed, refused-number}
use Rattle.classes.proofs.Judging.{refusal-of}
use Rattle.classes.specs.Layout.{constant_from}
use Rattle.classes.specs.Class.{Class}
use Rattle.arena.specs.Node.{Node}
use Rattle.classes.specs.Steps.{refused}
use Rattle.conditions.specs.Steps.{add_constant}
use Rattle.conditions.specs.Calls.{sayable}
use Rattle.questions.specs.Calls.{Answer, equal_answer}
use Rattle.normal.specs.Calls.{normalize_expr}
use Rattle.arena.specs.Calls.{add_column, add_literal, add_operation}
use mathlib.Core.List.{List}
use Rattle.records.specs.Record.{Record, column, literal, operation, equal_pair, constant, normal_form_of, equality_of, one_ordering}
use Rattle.session_steps.specs.State.{State, Reply, quiet, normal_form, equality, refusal, unless, added_reply, normal_reply, equality_reply, say_constant, on_nodes, on_classes, step}
use Rattle.session_steps.proofs.Effects.{equal-listed, constant-listed, ordering-listed}

-- a number that is told is that of its refusal
unfoldable pub InTable : Reply → Type 0
InTable quiet = Unit {0}
InTable (normal_form e r) = Unit {0}
InTable (equality a b v) = Unit {0}
InTable (refusal number) = refusal_number (refusal_of number) ≡ number

unless-told : (n : ℕ) → Listed n → InTable (unless n)
unfolding InTable unless
unless-told n l = go (eqb n 0) refl
  where
    go : (b : Bool) → eqb n 0 ≡ b → InTable (if b then quiet else refusal n)
    go true e = tt
    go false e = refused-number n l e

added-told : (a : Added) → InTable (added_reply a)
unfolding InTable added_reply
added-told (Ok i) = tt
added-told (Err k) = ap refusal_number (refusal-of k)

normal-told : (e : ℕ) (a : Added) → InTable (normal_reply e a)
unfolding InTable normal_reply
normal-told e (Ok i) = tt
normal-told e (Err k) = ap refusal_number (refusal-of k)

equality-told : (a b : ℕ) (r : Answer) → InTable (equality_reply a b r)
unfolding InTable equality_reply
equality-told a b (Ok v) = tt
equality-told a b (Err k) = ap refusal_number (refusal-of k)

said-listed : (e flavour value : ℕ) (ns : List Node) (cs : List Class) → Listed (say_constant e flavour value ns cs).number
unfolding say_constant refused outcome refusal_of
said-listed e flavour value ns cs = go (sayable flavour value)
  where
    go : (b : Bool) → Listed (if b then add_constant true 256 ns e (constant_from (flavour + 1) value) cs else refused 12 cs).number
    go true = constant-listed true 256 ns e (constant_from (flavour + 1) value) cs
    go false = refl

-- whatever the record and the state
pub step-told : (x : Record) (s : State) → InTable (step x s).0
unfolding step on_nodes on_classes
step-told (column name index) s = added-told (add_column name index s.nodes).0
step-told (literal value) s = added-told (add_literal value s.nodes).0
step-told (operation label children) s = added-told (add_operation label children s.nodes).0
step-told (equal_pair a b) s = unless-told _ (equal-listed 256 s.nodes a b s.classes)
step-told (constant e flavour value) s = unless-told _ (said-listed e flavour value s.nodes s.classes)
step-told (normal_form_of e) s = normal-told e (normalize_expr e s.nodes s.classes).0
step-told (equality_of a b) s = equality-told a b (equal_answer a b s.nodes s.classes)
step-told (one_ordering keys) s = unless-told _ (ordering-listed keys s.nodes s.orderings)
