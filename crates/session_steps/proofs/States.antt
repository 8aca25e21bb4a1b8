-- What every session keeps: its state stays good, and a refusal leaves it as it was.
use Rattle.arena.specs.declared.Refusal.TheVariants.{TooManyChildren, UnknownExpression}
use Rattle.arena.specs.declared.Refusal.{Refusal}
use Rattle.arena.specs.Refusals.{Added}
use Rattle.std.specs.Prelude.{if◌then◌else◌, Err, Ok}
use Prim.Native.Nat.{ℕ, suc, ◌+◌, ◌<◌, ◌≤◌}
use mathlib.Core.Bool.{Bool, true, false}
use mathlib.Core.List.{List, [], ◌∷◌, ◌++◌, map}
use mathlib.Core.Path.{◌≡◌, refl, ap}
use native.Mathlib.Omega.{arith}
use lib.Dec.{ltb, leb}
use lib.ListN.{length, get_or}
use Rattle.laws.specs.Tests.{each}
use Rattle.arena.specs.Node.{Node, operation}
use Rattle.arena.specs.Expression.{expression_at}
use Rattle.arena.specs.Arena.{Sound, Placed, placed, full, add, add_expression}
use Rattle.arena.specs.Calls.{answered, add_column, add_literal, add_operation, added_number}
use Rattle.classes.specs.declared.Constant.{Constant}
use Rattle.classes.specs.Class.{Class}
use Rattle.classes.specs.Group.{total}
use Rattle.classes.specs.Good.{Good}
use Rattle.classes.specs.Steps.{Outcome as GroupOutcome, refused}
use Rattle.conditions.specs.Steps.{add_equal, add_constant}
use Rattle.classes.specs.Layout.{constant_from}
use Rattle.conditions.specs.Calls.{sayable}
use Rattle.demands.proofs.Answers.{add_equal-keeps, add_constant-keeps}
use Rattle.demands.proofs.GoodKept.{empty-good}
use Rattle.group_checks.proofs.HeldLaws.{Fit}
use Rattle.normal.specs.Normal.{normal}
use Rattle.normal.specs.Calls.{normalize_expr}
use Rattle.normal.proofs.NormalKept.{Kept, form-kept}
use Rattle.normal.proofs.NormalValue.{good-extended}
use Rattle.orderings.specs.Ordering.{same_key}
use Rattle.orderings.specs.Lists.{built_all}
use Rattle.reduction.specs.Reduction.{reduced}
use Rattle.orderings.specs.Good.{Good as GoodList}
use Rattle.orderings.specs.Calls.{fits as list_fits}
use Rattle.records.specs.Record.{Record, column, literal, operation as operation_record, equal_pair, constant, normal_form_of, equality_of, one_ordering, WellFormed}
use Rattle.session_steps.specs.State.{State, start, Reply, quiet, normal_form, equality, refusal, unless, added_reply, normal_reply, with_nodes, with_classes, with_orderings, on_nodes, on_classes, say_constant, key_expr, key_options, key_number, add_ordering, step, after}
use Rattle.session_steps.proofs.NodesKept.{column-kept, literal-kept, operation-kept}
use Rattle.session_steps.proofs.ClassesKept.{equal-fit, constant-fit}
use Rattle.session_steps.proofs.OrderingsKept.{ordering-good}

-- a good state: a sound arena, a group over it of at most 256 members in at most 64 classes, a list of orderings
pub record GoodState (s : State) : Type 0 where
  pub arena : Sound s.nodes
  pub group : Good s.nodes s.classes
  pub members : total s.classes ≤ 256
  pub classes-few : length s.classes ≤ 64
  pub list : GoodList s.orderings

-- a session starts from one
pub start-good : GoodState start
unfolding start total
start-good =
    record {
      arena = record { few = omega arith; allowed = λ i l. absurd (omega arith); distinct = λ i j a b. absurd (omega arith) };
      group = empty-good [];
      members = omega arith;
      classes-few = omega arith;
      list = record { few = omega arith; each = λ i l. absurd (omega arith) };
    }

module _ (s : State) (g : GoodState s) where
  -- a call on the arena
  nodes-good : (reply : Added → Reply) (o : Added × List Node) → Kept added_number s.nodes o → GoodState (on_nodes s reply o).1
  unfolding on_nodes with_nodes
  nodes-good reply o k =
      record {
        arena = k.sound;
        group = good-extended s.classes k.extends g.group;
        members = g.members;
        classes-few = g.classes-few;
        list = g.list;
      }

  -- the group as the calls see it
  pub group-fit : Fit s.nodes 256 s.classes
  group-fit = record { low = omega arith; high = omega arith; few = g.classes-few; within = g.members; good = g.group }

  -- a call on the group
  classes-good : (o : GroupOutcome) → Fit s.nodes 256 o.classes → GoodState (on_classes s o).1
  unfolding on_classes with_classes
  classes-good o f = record { arena = g.arena; group = f.good; members = f.within; classes-few = f.few; list = g.list }

  -- a call on the orderings
  orderings-good : (os : List (List ℕ)) → GoodList os → GoodState (with_orderings s os)
  unfolding with_orderings
  orderings-good os l = record { arena = g.arena; group = g.group; members = g.members; classes-few = g.classes-few; list = l }

-- every record leaves a good state good
pub step-good : (x : Record) (s : State) → WellFormed x → GoodState s → GoodState (step x s).1
unfolding step WellFormed
step-good (column name index) s w g = nodes-good s g added_reply (add_column name index s.nodes) (column-kept name index s.nodes g.arena w.1)
step-good (literal value) s w g = nodes-good s g added_reply (add_literal value s.nodes) (literal-kept value s.nodes g.arena)
step-good (operation_record label children) s w g = nodes-good s g added_reply (add_operation label children s.nodes) (operation-kept label children s.nodes g.arena)
step-good (equal_pair a b) s w g = classes-good s g (add_equal 256 s.nodes a b s.classes) (equal-fit s.nodes 256 a b s.classes (group-fit s g))
step-good (constant e flavour value) s w g =
    classes-good s g (say_constant e flavour value s.nodes s.classes) (constant-fit s.nodes e flavour value s.classes (group-fit s g))
step-good (normal_form_of e) s w g = nodes-good s g (normal_reply e) (normalize_expr e s.nodes s.classes) (form-kept e s.nodes s.classes g.arena g.group)
step-good (equality_of a b) s w g = g
step-good (one_ordering keys) s w g = orderings-good s g (add_ordering keys s.nodes s.orderings).1 (ordering-good keys s.nodes s.orderings g.list)

-- so do all records of a session
pub after-good : (s : State) (xs : List Record) → ((k : ℕ) → k < length xs → WellFormed (get_or xs k (literal 0))) → GoodState s → GoodState (after s xs)
unfolding after
after-good s [] w g = g
after-good s (x ∷ xs) w g = after-good (step x s).1 xs (λ k l. w (suc k) (omega arith)) (step-good x s (w 0 (omega arith)) g)

-- a reply that is a refusal
abbrev refusing : Reply → ℕ
refusing quiet = 0
refusing (normal_form e r) = 0
refusing (equality a b v) = 0
refusing (refusal n) = 1

-- a call on the arena whose refusals hand it back
abbrev Leaves : List Node → Added × List Node → Type 0
Leaves ns o = (k : Refusal) → o.0 ≡ Err k → o.1 ≡ ns

abbrev is_refused : Added → ℕ
is_refused (Ok i) = 0
is_refused (Err k) = 1

answered-leaves : (ns : List Node) (p : Placed ℕ) → Leaves ns (answered ns p)
unfolding answered
answered-leaves ns (placed i ms) k q = let z : ◌≡◌ {A = ℕ} 0 1 = ap is_refused q in absurd (omega arith)
answered-leaves ns full k q = refl

operation-leaves : (label : ℕ) (children : List ℕ) (ns : List Node) → Leaves ns (add_operation label children ns)
unfolding add_operation
operation-leaves label children ns = go (each (λ k. ltb (get_or children k 0) (length ns)) (length children)) (leb (length children) 8)
  where
    out : Bool → Bool → Added × List Node
    out a b = if a then (if b then answered ns (add (operation label children) ns) else (Err TooManyChildren, ns)) else (Err UnknownExpression, ns)

    go : (a b : Bool) → Leaves ns (out a b)
    go true true = answered-leaves ns (add (operation label children) ns)
    go true false = λ k q. refl
    go false b = λ k q. refl

normal-leaves : (e : ℕ) (ns : List Node) (cs : List Class) → Leaves ns (normalize_expr e ns cs)
unfolding normalize_expr
normal-leaves e ns cs = go (ltb e (length ns))
  where
    out : Bool → Added × List Node
    out a = if a then answered ns (add_expression (normal ns cs (expression_at ns e)) ns) else (Err UnknownExpression, ns)

    go : (a : Bool) → Leaves ns (out a)
    go true = answered-leaves ns (add_expression (normal ns cs (expression_at ns e)) ns)
    go false = λ k q. refl

-- a refusal of such a call leaves the state
nodes_leave : (s : State) (reply : Added → Reply) (o : Added × List Node) → Leaves s.nodes o → ((i : ℕ) → refusing (reply (Ok i)) ≡ 0)
    → (n : ℕ) → (on_nodes s reply o).0 ≡ refusal n → (on_nodes s reply o).1 ≡ s
unfolding on_nodes with_nodes
nodes_leave s reply o l h n q = ap (λ (ns : List Node). with_nodes s ns) (go o.0 refl)
  where
    go : (a : Added) → o.0 ≡ a → o.1 ≡ s.nodes
    go (Ok i) e = let z : ◌≡◌ {A = ℕ} (refusing (reply o.0)) 1 = ap refusing q in let w : refusing (reply o.0) ≡ refusing (reply (Ok i)) = ap (λ (a : Added). refusing (reply a)) e in absurd (omega (arith, h i))
    go (Err k) e = l k e

-- a number that is told is a refusal's
told-not-zero : (number n : ℕ) → unless number ≡ refusal n → number ≡ 0 → ⊥
unfolding unless
told-not-zero number n q z = let w : ◌≡◌ {A = ℕ} 0 1 = ap refusing (rw z at q) in omega arith

-- a call on the group whose refusals hand it back
abbrev Keeps : List Class → GroupOutcome → Type 0
Keeps cs o = (o.number ≡ 0 → ⊥) → o.classes ≡ cs

constant-keeps : (e flavour value : ℕ) (ns : List Node) (cs : List Class) → Keeps cs (say_constant e flavour value ns cs)
unfolding say_constant refused
constant-keeps e flavour value ns cs = go (sayable flavour value)
  where
    said : Constant
    said = constant_from (flavour + 1) value

    go : (b : Bool) → Keeps cs (if b then add_constant true 256 ns e said cs else refused 12 cs)
    go true = add_constant-keeps true 256 ns e said cs
    go false = λ h. refl

classes_leave : (s : State) (o : GroupOutcome) → Keeps s.classes o → (n : ℕ) → (on_classes s o).0 ≡ refusal n → (on_classes s o).1 ≡ s
unfolding on_classes with_classes
classes_leave s o k n q = ap (λ (cs : List Class). with_classes s cs) (k (told-not-zero o.number n q))

-- an ordering that is refused leaves the list
ordering-keeps : (keys : List (ℕ × ℕ)) (ns : List Node) (os : List (List ℕ)) → ((add_ordering keys ns os).0 ≡ 0 → ⊥) → (add_ordering keys ns os).1 ≡ os
unfolding add_ordering
ordering-keeps keys ns os =
    go (each (λ k. leb (key_options keys k) 3) (length keys)) (each (λ k. ltb (key_expr keys k) (length ns)) (length keys)) (list_fits more)
  where
    more : List (List ℕ)
    more = os ++ built_all (map key_number keys ∷ [])

    out : Bool → Bool → Bool → ℕ × List (List ℕ)
    out a b c = if a then (if b then (if c then (0, (reduced same_key more).orderings) else (5, os)) else (1, os)) else (12, os)

    go : (a b c : Bool) → ((out a b c).0 ≡ 0 → ⊥) → (out a b c).1 ≡ os
    go true true true = λ h. absurd (h refl)
    go true true false = λ h. refl
    go true false c = λ h. refl
    go false b c = λ h. refl

-- a record that is refused leaves the state as it was, whatever the state and the record
pub refused-leaves : (x : Record) (s : State) (n : ℕ) → (step x s).0 ≡ refusal n → (step x s).1 ≡ s
unfolding step add_column add_literal added_reply normal_reply with_orderings
refused-leaves (column name index) s n q = nodes_leave s added_reply (add_column name index s.nodes) (answered-leaves s.nodes _) (λ i. refl) n q
refused-leaves (literal value) s n q = nodes_leave s added_reply (add_literal value s.nodes) (answered-leaves s.nodes _) (λ i. refl) n q
refused-leaves (operation_record label children) s n q =
    nodes_leave s added_reply (add_operation label children s.nodes) (operation-leaves label children s.nodes) (λ i. refl) n q
refused-leaves (equal_pair a b) s n q = classes_leave s (add_equal 256 s.nodes a b s.classes) (add_equal-keeps 256 s.nodes a b s.classes) n q
refused-leaves (constant e flavour value) s n q =
    classes_leave s (say_constant e flavour value s.nodes s.classes) (constant-keeps e flavour value s.nodes s.classes) n q
refused-leaves (normal_form_of e) s n q =
    nodes_leave s (normal_reply e) (normalize_expr e s.nodes s.classes) (normal-leaves e s.nodes s.classes) (λ i. refl) n q
refused-leaves (equality_of a b) s n q = refl
refused-leaves (one_ordering keys) s n q =
    ap (λ (os : List (List ℕ)). with_orderings s os) (ordering-keeps keys s.nodes s.orderings (told-not-zero (add_ordering keys s.nodes s.orderings).0 n q))
