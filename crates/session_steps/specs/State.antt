-- What a session holds, and what each record does to it.
use Rattle.arena.specs.Refusals.{Added, refusal_number}
use Rattle.std.specs.Prelude.{ℕ, ◌+◌, ◌*◌, Bool, true, List, [], ◌∷◌, ◌++◌, map, eqb, ltb, leb, length, get_or, if◌then◌else◌, Err, Ok}
use Rattle.laws.specs.Tests.{each}
use Rattle.arena.specs.Node.{Node}
use Rattle.arena.specs.Calls.{add_column, add_literal, add_operation}
use Rattle.classes.specs.Class.{Class}
use Rattle.classes.specs.Steps.{Outcome, refused}
use Rattle.conditions.specs.Steps.{add_equal, add_constant}
use Rattle.classes.specs.Layout.{constant_from}
use Rattle.conditions.specs.Calls.{sayable}
use Rattle.questions.specs.Calls.{Answer, equal_answer}
use Rattle.normal.specs.Calls.{normalize_expr}
use Rattle.orderings.specs.Ordering.{same_key}
use Rattle.orderings.specs.Lists.{built_all}
use Rattle.reduction.specs.Reduction.{reduced}
use Rattle.orderings.specs.Calls.{fits}
use Rattle.records.specs.Record.{Record, column, literal, operation, equal_pair, constant, normal_form_of, equality_of, one_ordering}

-- an arena, a group and a list of orderings
pub record State : Type 0 where
  pub nodes : List Node
  pub classes : List Class
  pub orderings : List (List ℕ)

-- what a session starts from: nothing
unfoldable pub start : State
start = record { nodes = []; classes = []; orderings = [] }

-- what a record is answered with: nothing, a normal form, a yes or a no, or a refusal
pub data Reply : Type 0 where
  quiet : Reply
  normal_form : (e r : ℕ) → Reply
  equality : (a b : ℕ) (v : Bool) → Reply
  refusal : (number : ℕ) → Reply

-- a refusal is told; 0 is none
unfoldable pub unless : ℕ → Reply
unless number = if eqb number 0 then quiet else refusal number

-- an answer about nodes: a number is not told
unfoldable pub added_reply : Added → Reply
added_reply (Ok i) = quiet
added_reply (Err k) = refusal (refusal_number k)

-- the answer of a normal form
unfoldable pub normal_reply : ℕ → Added → Reply
normal_reply e (Ok i) = normal_form e i
normal_reply e (Err k) = refusal (refusal_number k)

-- the answer of an equality question
unfoldable pub equality_reply : ℕ → ℕ → Answer → Reply
equality_reply a b (Ok v) = equality a b v
equality_reply a b (Err k) = refusal (refusal_number k)

-- the state with other nodes, other classes, other orderings
unfoldable pub with_nodes : State → List Node → State
with_nodes s ns = record { nodes = ns; classes = s.classes; orderings = s.orderings }

unfoldable pub with_classes : State → List Class → State
with_classes s cs = record { nodes = s.nodes; classes = cs; orderings = s.orderings }

unfoldable pub with_orderings : State → List (List ℕ) → State
with_orderings s os = record { nodes = s.nodes; classes = s.classes; orderings = os }

-- what a call on the arena, or on the group, comes to in a session
unfoldable pub on_nodes : State → (Added → Reply) → Added × List Node → Reply × State
on_nodes s reply o = (reply o.0, with_nodes s o.1)

unfoldable pub on_classes : State → Outcome → Reply × State
on_classes s o = (unless o.number, with_classes s o.classes)

-- a constant that a record says: 12 for a flavour over 2, or a value other than 0 where none is known, comes first
unfoldable pub say_constant : ℕ → ℕ → ℕ → List Node → List Class → Outcome
say_constant e flavour value ns cs =
    if sayable flavour value then add_constant true 256 ns e (constant_from (flavour + 1) value) cs
    else refused 12 cs

-- the expression, the options of key k
abbrev pub key_expr : List (ℕ × ℕ) → ℕ → ℕ
key_expr keys k = (get_or keys k (0, 0)).0

abbrev pub key_options : List (ℕ × ℕ) → ℕ → ℕ
key_options keys k = (get_or keys k (0, 0)).1

-- a key as one number
unfoldable pub key_number : ℕ × ℕ → ℕ
key_number p = p.0 * 4 + p.1

-- an ordering is added and the list reduced: 12 for options over 3, 1 for an unknown expression, 5 where the list is full
unfoldable pub add_ordering : List (ℕ × ℕ) → List Node → List (List ℕ) → ℕ × List (List ℕ)
add_ordering keys ns os =
    if each (λ k. leb (key_options keys k) 3) (length keys) then
    (if each (λ k. ltb (key_expr keys k) (length ns)) (length keys) then
    (if fits (os ++ built_all (map key_number keys ∷ [])) then (0, (reduced same_key (os ++ built_all (map key_number keys ∷ []))).orderings) else (5, os))
    else (1, os))
    else (12, os)

-- one record: what is answered, and the state afterwards
unfoldable pub step : Record → State → Reply × State
step (column name index) s = on_nodes s added_reply (add_column name index s.nodes)
step (literal value) s = on_nodes s added_reply (add_literal value s.nodes)
step (operation label children) s = on_nodes s added_reply (add_operation label children s.nodes)
step (equal_pair a b) s = on_classes s (add_equal 256 s.nodes a b s.classes)
step (constant e flavour value) s = on_classes s (say_constant e flavour value s.nodes s.classes)
step (normal_form_of e) s = on_nodes s (normal_reply e) (normalize_expr e s.nodes s.classes)
step (equality_of a b) s = (equality_reply a b (equal_answer a b s.nodes s.classes), s)
step (one_ordering keys) s = (unless (add_ordering keys s.nodes s.orderings).0, with_orderings s (add_ordering keys s.nodes s.orderings).1)

-- the state after records
unfoldable pub after : State → List Record → State
after s [] = s
after s (r ∷ rs) = after (step r s).1 rs
