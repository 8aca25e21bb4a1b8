-- How large a session's state is, and which numbers a record is answered with.
use Rattle.arena.specs.declared.Refusal.TheVariants.{TooManyChildren, UnknownExpression}
use Rattle.arena.specs.Refusals.{Added, refusal_number}
use Rattle.std.specs.Prelude.{if◌then◌else◌, Option, None, Some, Err, Ok}
use Prim.Native.Nat.{ℕ, ◌+◌, ◌-◌, ◌<◌, ◌≤◌}
use mathlib.Core.Bool.{Bool, true, false, ◌&&◌}
use mathlib.Core.List.{List, [], ◌∷◌, ◌++◌, map}
use mathlib.Core.Path.{◌≡◌, refl}
use native.Mathlib.Omega.{arith}
use borrow.Author.Tests.{ltb-true, leb-true}
use lib.Dec.{eqb, ltb, leb}
use lib.ListN.{length, get_or, take, length-append, length-set}
use Rattle.laws.specs.Tests.{each, first}
use Rattle.laws.proofs.Booleans.{and_left, and_right}
use Rattle.laws.proofs.First.{first_some}
use Rattle.arena.specs.Node.{Node, column, literal, operation, node_at, same_node}
use Rattle.arena.specs.Expression.{Expression, Expressions, col, lit, op, ∅, ◌▹◌, expression_at}
use Rattle.arena.specs.Arena.{Placed, placed, full, and_then, find, placed_at, add, add_expression, add_expressions}
use Rattle.arena.specs.Calls.{answered, add_column, add_literal, add_operation}
use Rattle.classes.specs.Class.{Class}
use Rattle.classes.specs.Group.{total, equal_condition, with_constant}
use Rattle.questions.specs.Questions.{exprs_equal}
use Rattle.classes.specs.Layout.{constant_from}
use Rattle.classes.specs.Steps.{Outcome, refused, fits, judged}
use Rattle.conditions.specs.Steps.{add_equal, add_constant}
use Rattle.conditions.specs.Calls.{sayable}
use Rattle.questions.specs.Calls.{equal_answer}
use Rattle.normal.specs.Normal.{normal}
use Rattle.normal.specs.Calls.{normalize_expr}
use Rattle.orderings.specs.Ordering.{same_key}
use Rattle.orderings.specs.Lists.{built_all, ordering_at}
use Rattle.reduction.specs.Reduction.{reduced}
use Rattle.orderings.specs.Calls.{fits as fits_list}
use Rattle.reduction.specs.Fewer.{length_removed}
use Rattle.reduction.proofs.Kept.{Cuts, begun, cut, gone, reduced-cuts}
use Rattle.records.specs.Record.{Record, column as column_record, literal as literal_record, operation as operation_record, equal_pair, constant, normal_form_of, equality_of, one_ordering}
use Rattle.session_steps.specs.State.{State, start, Reply, quiet, normal_form, equality, refusal, unless, added_reply, normal_reply, equality_reply, with_nodes, with_classes, with_orderings, on_nodes, on_classes, say_constant, key_expr, key_options, key_number, add_ordering, step}

-- a state within document 01's bounds
pub record Small (s : State) : Type 0 where
  pub nodes : length s.nodes ≤ 1024
  pub classes : length s.classes ≤ 64
  pub members : total s.classes ≤ 256
  pub orderings : length s.orderings ≤ 32

pub small-start : Small start
unfolding start total
small-start = record { nodes = omega arith; classes = omega arith; members = omega arith; orderings = omega arith }

-- what adding comes to: a number of a node, and an arena within its bound
unfoldable PlacedSmall : Placed ℕ → Type 0
PlacedSmall (placed i ms) = (i < 1024) × (length ms ≤ 1024)
PlacedSmall full = Unit {0}

unfoldable PlacedFew : Placed (List ℕ) → Type 0
PlacedFew (placed is ms) = length ms ≤ 1024
PlacedFew full = Unit {0}

add_small : (n : Node) (ns : List Node) → length ns ≤ 1024 → PlacedSmall (add n ns)
unfolding add placed_at find PlacedSmall
add_small n ns l = go (first (λ i. same_node n (node_at ns i)) (length ns)) refl
  where
    new : (b : Bool) → ltb (length ns) 1024 ≡ b → PlacedSmall (if b then placed (length ns) (ns ++ (n ∷ [])) else full)
    new true e = let a = ltb-true (length ns) 1024 e in (a, omega (arith, length-append ns (n ∷ [])))
    new false e = tt

    go : (o : Option ℕ) → first (λ i. same_node n (node_at ns i)) (length ns) ≡ o → PlacedSmall (placed_at o n ns)
    go (Some i) e = let b = (first_some (λ i. same_node n (node_at ns i)) (length ns) i e).below in (omega arith, l)
    go None e = new (ltb (length ns) 1024) refl

then-small : (p : Placed (List ℕ)) (f : List ℕ → List Node → Placed ℕ) → PlacedFew p → ((is : List ℕ) (ms : List Node) → length ms ≤ 1024 → PlacedSmall (f is ms)) → PlacedSmall (and_then p f)
unfolding and_then PlacedFew PlacedSmall
then-small (placed is ms) f h g = g is ms h
then-small full f h g = tt

then-few : (p : Placed (List ℕ)) (i : ℕ) → PlacedFew p → PlacedFew (and_then p (λ is ms. placed (i ∷ is) ms))
unfolding and_then PlacedFew
then-few (placed is ms) i h = h
then-few full i h = tt

one-few : (p : Placed ℕ) (f : ℕ → List Node → Placed (List ℕ)) → PlacedSmall p → ((i : ℕ) (ms : List Node) → length ms ≤ 1024 → PlacedFew (f i ms)) → PlacedFew (and_then p f)
unfolding and_then PlacedFew PlacedSmall
one-few (placed i ms) f h g = g i ms h.1
one-few full f h g = tt

mutual
  unfolding add_expression add_expressions PlacedFew

  expression-small : (x : Expression) (ns : List Node) → length ns ≤ 1024 → PlacedSmall (add_expression x ns)
  expression-small (col name index) ns l = add_small (column name index) ns l
  expression-small (lit v) ns l = add_small (literal v) ns l
  expression-small (op label children) ns l =
      then-small (add_expressions children ns) (λ ks ms. add (operation label ks) ms) (expressions-few children ns l)
      (λ ks ms m. add_small (operation label ks) ms m)

  expressions-few : (es : Expressions) (ns : List Node) → length ns ≤ 1024 → PlacedFew (add_expressions es ns)
  expressions-few ∅ ns l = l
  expressions-few (e ▹ es) ns l =
      one-few (add_expression e ns) (λ k ms. and_then (add_expressions es ms) (λ ks os. placed (k ∷ ks) os)) (expression-small e ns l)
      (λ k ms m. then-few (add_expressions es ms) k (expressions-few es ms m))

-- what a call on the arena comes to: a number of a node or a refusal below 10, and an arena within its bound
unfoldable AddedSmall : Added → Type 0
AddedSmall (Ok i) = i < 1024
AddedSmall (Err k) = refusal_number k < 10

abbrev NodesSmall : Added × List Node → Type 0
NodesSmall o = AddedSmall o.0 × (length o.1 ≤ 1024)

answered-small : (ns : List Node) (p : Placed ℕ) → length ns ≤ 1024 → PlacedSmall p → NodesSmall (answered ns p)
unfolding answered PlacedSmall AddedSmall
answered-small ns (placed i ms) l h = h
answered-small ns full l h = (omega arith, l)

column-small : (name index : ℕ) (ns : List Node) → length ns ≤ 1024 → NodesSmall (add_column name index ns)
unfolding add_column
column-small name index ns l = answered-small ns (add (column name index) ns) l (add_small (column name index) ns l)

literal-small : (value : ℕ) (ns : List Node) → length ns ≤ 1024 → NodesSmall (add_literal value ns)
unfolding add_literal
literal-small value ns l = answered-small ns (add (literal value) ns) l (add_small (literal value) ns l)

operation-small : (label : ℕ) (children : List ℕ) (ns : List Node) → length ns ≤ 1024 → NodesSmall (add_operation label children ns)
unfolding add_operation AddedSmall
operation-small label children ns l = go (each (λ k. ltb (get_or children k 0) (length ns)) (length children)) (leb (length children) 8)
  where
    go : (b c : Bool) → NodesSmall (if b then (if c then answered ns (add (operation label children) ns) else (Err TooManyChildren, ns)) else (Err UnknownExpression, ns))
    go true true = answered-small ns (add (operation label children) ns) l (add_small (operation label children) ns l)
    go true false = (omega arith, l)
    go false c = (omega arith, l)

-- a normal form is asked only of a node that is there
unfoldable pub NormalSmall : ℕ → Added → Type 0
NormalSmall e (Ok i) = (e < 1024) × (i < 1024)
NormalSmall e (Err k) = refusal_number k < 10

normal-small : (e : ℕ) (ns : List Node) (cs : List Class) → length ns ≤ 1024 → NormalSmall e (normalize_expr e ns cs).0 × (length (normalize_expr e ns cs).1 ≤ 1024)
unfolding normalize_expr NormalSmall answered PlacedSmall
normal-small e ns cs l = go (ltb e (length ns)) refl
  where
    made : Placed ℕ
    made = add_expression (normal ns cs (expression_at ns e)) ns

    at : e < length ns → (p : Placed ℕ) → PlacedSmall p → NormalSmall e (answered ns p).0 × (length (answered ns p).1 ≤ 1024)
    at b (placed i ms) h = ((omega arith, h.0), h.1)
    at b full h = (omega arith, l)

    go : (b : Bool) → ltb e (length ns) ≡ b → NormalSmall e (if b then answered ns made else (Err UnknownExpression, ns)).0 × (length (if b then answered ns made else (Err UnknownExpression, ns)).1 ≤ 1024)
    go true q = at (ltb-true e (length ns) q) made (expression-small (normal ns cs (expression_at ns e)) ns l)
    go false q = (omega arith, l)

-- what a call on the group comes to
unfoldable ClassesSmall : Outcome → Type 0
ClassesSmall o = (o.number < 100) × ((length o.classes ≤ 64) × (total o.classes ≤ 256))

module _ (cs : List Class) (l : length cs ≤ 64) (m : total cs ≤ 256) where
  refused-small : (k : ℕ) → k < 100 → ClassesSmall (refused k cs)
  unfolding refused ClassesSmall
  refused-small k b = (b, (l, m))

  judged-small : (o : Bool × List Class) → ClassesSmall (judged 256 cs o)
  unfolding judged ClassesSmall fits
  judged-small o = go (leb (total o.1) 256 && leb (length o.1) 64) refl
    where
      go : (b : Bool) → (leb (total o.1) 256 && leb (length o.1) 64) ≡ b → ClassesSmall (if b then record { number = 0; answer = o.0; classes = o.1 } else refused 4 cs)
      go true q = (
        omega arith,
        (
          leb-true (length o.1) 64 (and_right (leb (total o.1) 256) (leb (length o.1) 64) q),
          leb-true (total o.1) 256 (and_left (leb (total o.1) 256) (leb (length o.1) 64) q),
        ),
      )
      go false q = refused-small 4 (omega arith)

  equal-small : (ns : List Node) (a b : ℕ) → ClassesSmall (add_equal 256 ns a b cs)
  unfolding add_equal
  equal-small ns a b = go (ltb a (length ns) && ltb b (length ns))
    where
      go : (t : Bool) → ClassesSmall (if t then judged 256 cs (equal_condition ns cs a b) else refused 1 cs)
      go true = judged-small (equal_condition ns cs a b)
      go false = refused-small 1 (omega arith)

  constant-small : (e flavour value : ℕ) (ns : List Node) → ClassesSmall (say_constant e flavour value ns cs)
  unfolding say_constant add_constant
  constant-small e flavour value ns = go (sayable flavour value) (ltb e (length ns))
    where
      go : (t b : Bool) → ClassesSmall (if t then (if b then judged 256 cs (false, with_constant true ns cs e (constant_from (flavour + 1) value)) else refused 1 cs) else refused 12 cs)
      go true true = judged-small (false, with_constant true ns cs e (constant_from (flavour + 1) value))
      go true false = refused-small 1 (omega arith)
      go false b = refused-small 12 (omega arith)

-- reduction makes no list longer
cuts-fewer : {m : ℕ → ℕ → Bool} {os ps : List (List ℕ)} {c : ℕ} → Cuts m os ps c → length ps ≤ length os
cuts-fewer begun = omega arith
cuts-fewer (cut {ps} t i j n o b) = omega (arith, cuts-fewer t, length-set ps i (take (length (ordering_at ps i) - (n + 1)) (ordering_at ps i)))
cuts-fewer (gone {ps} t i j n o b) = omega (arith, cuts-fewer t, length_removed ps i)

ordering-small : (keys : List (ℕ × ℕ)) (ns : List Node) (os : List (List ℕ)) → length os ≤ 32 → ((add_ordering keys ns os).0 < 100) × (length (add_ordering keys ns os).1 ≤ 32)
unfolding add_ordering fits_list
ordering-small keys ns os l =
    go (each (λ k. leb (key_options keys k) 3) (length keys)) (each (λ k. ltb (key_expr keys k) (length ns)) (length keys)) (leb (length more) 32) refl
    (each (λ i. leb (length (ordering_at more i)) 16) (length more))
  where
    more : List (List ℕ)
    more = os ++ built_all (map key_number keys ∷ [])

    result : Bool → Bool → Bool → ℕ × List (List ℕ)
    result a b c = if a then (if b then (if c then (0, (reduced same_key more).orderings) else (5, os)) else (1, os)) else (12, os)

    go : (a b c : Bool) → leb (length more) 32 ≡ c → (d : Bool) → ((result a b (c && d)).0 < 100) × (length (result a b (c && d)).1 ≤ 32)
    go true true true q true = (omega arith, omega (arith, cuts-fewer (reduced-cuts same_key more), leb-true (length more) 32 q))
    go true true true q false = (omega arith, l)
    go true true false q d = (omega arith, l)
    go true false c q d = (omega arith, l)
    go false b c q d = (omega arith, l)

-- the numbers of a reply
unfoldable pub Tells : Reply → Type 0
Tells quiet = Unit {0}
Tells (normal_form e r) = (e < 1024) × (r < 1024)
Tells (equality a b v) = (a < 1024) × (b < 1024)
Tells (refusal number) = number < 100

unless-tells : (n : ℕ) → n < 100 → Tells (unless n)
unfolding unless Tells
unless-tells n l = go (eqb n 0)
  where
    go : (b : Bool) → Tells (if b then quiet else refusal n)
    go true = tt
    go false = l

added-tells : (a : Added) → AddedSmall a → Tells (added_reply a)
unfolding added_reply Tells AddedSmall
added-tells (Ok i) h = tt
added-tells (Err k) h = omega arith

normal-tells : (e : ℕ) (a : Added) → NormalSmall e a → Tells (normal_reply e a)
unfolding normal_reply Tells NormalSmall
normal-tells e (Ok i) h = h
normal-tells e (Err k) h = omega arith

equality-tells : (a b : ℕ) (ns : List Node) (cs : List Class) → length ns ≤ 1024 → Tells (equality_reply a b (equal_answer a b ns cs))
unfolding equal_answer equality_reply Tells
equality-tells a b ns cs l = go (ltb a (length ns)) refl (ltb b (length ns)) refl (exprs_equal ns cs a b)
  where
    go : (p : Bool) → ltb a (length ns) ≡ p → (q : Bool) → ltb b (length ns) ≡ q → (t : Bool) → Tells (equality_reply a b (if p && q then Ok t else Err UnknownExpression))
    go true e true f true = let x = ltb-true a (length ns) e in let y = ltb-true b (length ns) f in (omega arith, omega arith)
    go true e true f false = let x = ltb-true a (length ns) e in let y = ltb-true b (length ns) f in (omega arith, omega arith)
    go true e false f t = omega arith
    go false e q f t = omega arith

-- a record keeps a state within its bounds, and its answer's numbers are small
pub record Answered (o : Reply × State) : Type 0 where
  pub tells : Tells o.0
  pub small : Small o.1

nodes-answered : (s : State) (reply : Added → Reply) (o : Added × List Node) → Small s → Tells (reply o.0) → length o.1 ≤ 1024 → Answered (on_nodes s reply o)
unfolding on_nodes with_nodes
nodes-answered s reply o h t l = record { tells = t; small = record { nodes = l; classes = h.classes; members = h.members; orderings = h.orderings } }

classes-answered : (s : State) (o : Outcome) → Small s → ClassesSmall o → Answered (on_classes s o)
unfolding on_classes with_classes ClassesSmall
classes-answered s o h c = record { tells = unless-tells o.number c.0; small = record { nodes = h.nodes; classes = c.1.0; members = c.1.1; orderings = h.orderings } }

pub step-answered : (x : Record) (s : State) → Small s → Answered (step x s)
unfolding step with_orderings
step-answered (column_record name index) s h =
    let a = column-small name index s.nodes h.nodes in nodes-answered s added_reply (add_column name index s.nodes) h (added-tells (add_column name index s.nodes).0 a.0) a.1
step-answered (literal_record value) s h =
    let a = literal-small value s.nodes h.nodes in nodes-answered s added_reply (add_literal value s.nodes) h (added-tells (add_literal value s.nodes).0 a.0) a.1
step-answered (operation_record label children) s h =
    let a = operation-small label children s.nodes h.nodes in
    nodes-answered s added_reply (add_operation label children s.nodes) h (added-tells (add_operation label children s.nodes).0 a.0) a.1
step-answered (equal_pair a b) s h = classes-answered s (add_equal 256 s.nodes a b s.classes) h (equal-small s.classes h.classes h.members s.nodes a b)
step-answered (constant e flavour value) s h =
    classes-answered s (say_constant e flavour value s.nodes s.classes) h (constant-small s.classes h.classes h.members e flavour value s.nodes)
step-answered (normal_form_of e) s h =
    let a = normal-small e s.nodes s.classes h.nodes in
    nodes-answered s (normal_reply e) (normalize_expr e s.nodes s.classes) h (normal-tells e (normalize_expr e s.nodes s.classes).0 a.0) a.1
step-answered (equality_of a b) s h = record { tells = equality-tells a b s.nodes s.classes h.nodes; small = h }
step-answered (one_ordering keys) s h =
    let o = ordering-small keys s.nodes s.orderings h.orderings in
    record {
      tells = unless-tells (add_ordering keys s.nodes s.orderings).0 o.0;
      small = record { nodes = h.nodes; classes = h.classes; members = h.members; orderings = o.1 };
    }

-- the answer to the question for a normal form is one, or a refusal below 10
pub normal-answered : (e : ℕ) (s : State) → Small s → NormalSmall e (normalize_expr e s.nodes s.classes).0
normal-answered e s h = (normal-small e s.nodes s.classes h.nodes).0
