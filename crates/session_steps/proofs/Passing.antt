-- Every state of a session passes the calls' own checks, so that the effects of Effects.antt hold for each of its records.
use Rattle.arena.specs.Refusals.{Added}
use Prim.Native.Nat.{ℕ, suc, ◌-◌, ◌<◌, ◌≤◌}
use mathlib.Core.Bool.{Bool, true, false}
use mathlib.Core.List.{List, [], ◌∷◌, map}
use mathlib.Core.Path.{◌≡◌, refl, sym, ap, ◌∙◌, subst}
use native.Mathlib.Omega.{arith}
use borrow.Author.Tests.{ltb-true, ltb-false}
use lib.Dec.{ltb}
use lib.ListN.{length, get_or, replicate, length-append, length-replicate, length-map, get_or-eq_default}
use Rattle.arena.specs.Node.{Node}
use Rattle.arena.specs.Arena.{Sound, Extends}
use Rattle.arena.specs.Layout.{encode as cells_for}
use Rattle.arena.specs.Calls.{add_column, add_literal, add_operation, added_number}
use Rattle.arena.proofs.Layouts.{decode-encode, count-encode, encode-holds, holds-lawful}
use Rattle.group_checks.proofs.HeldLaws.{Fit, held_number}
use Rattle.normal.specs.Calls.{normalize_expr}
use Rattle.normal.proofs.NormalKept.{Kept, form-kept}
use Rattle.orderings.specs.Good.{Good as GoodList}
use Rattle.orderings.specs.Layout.{row, encode as list_for}
use Rattle.orderings.specs.Calls.{list_number}
use Rattle.orderings.specs.declared.Listed.{Listed}
use Rattle.orderings.proofs.Codec.{decode-encode as orderings-again, place-encode}
use Rattle.orderings.specs.Lists.{ordering_at}
use Rattle.orderings.specs.declared.Ordering.{Ordering}
use Rattle.orderings.proofs.ListChecks.{Sized}
use Rattle.orderings.proofs.ListHeld.{Known, number-held, held_number as list-number}
use Rattle.ordering_laws.proofs.ListMade.{add-passes}
use Rattle.records.specs.Record.{Record, column, literal, operation, equal_pair, constant, normal_form_of, equality_of, one_ordering, WellFormed}
use Rattle.session_steps.specs.State.{State, start, Reply, added_reply, normal_reply, with_nodes, on_nodes, on_classes, with_classes, with_orderings, add_ordering, step, after}
use Rattle.session_steps.specs.Inner.{lent_keys, listed_of}
use Rattle.session_steps.proofs.States.{GoodState, start-good, step-good, group-fit}
use Rattle.session_steps.proofs.NodesKept.{column-kept, literal-kept, operation-kept}
use Rattle.session_steps.proofs.Effects.{Passes, cells_of, list_of, ordering-is}

-- the layout of a good list has its lengths
sized_for : (os : List (List ℕ)) → GoodList os → Sized (list_for os)
unfolding list_for row
sized_for os g = record {
  places = omega (arith, g.few, length-append (map row os) (replicate (32 - length os) (row [])), length-map os row, length-replicate (32 - length os) (row []));
  keys = λ i l. ap (λ (r : Ordering). length r.keys) (place-encode os i) ∙ long (ordering_at os i) (short i (ltb i (length os)) refl);
}
  where
    long : (o : List ℕ) → length o ≤ 16 → length (row o).keys ≡ 16
    long o l = omega (arith, length-append o (replicate (16 - length o) 0), length-replicate {A = ℕ} (16 - length o) 0)

    short : (i : ℕ) (b : Bool) → ltb i (length os) ≡ b → length (ordering_at os i) ≤ 16
    short i true e = (g.each i (ltb-true i (length os) e)).few
    short i false e = omega (arith, ap {B = ℕ} length (get_or-eq_default os [] (ltb-false i (length os) e)))

-- a good state whose list passes: every part passes
passing : (s : State) → GoodState s → list_number (cells_of s) (list_of s) ≡ 0 → Passes s
passing s g z = record {
  sound = g.arena;
  group = held_number (cells_of s) (holds-lawful (cells_of s) (encode-holds s.nodes g.arena)) 256 s.classes
      (subst (λ (ns : List Node). Fit ns 256 s.classes) (sym (decode-encode s.nodes g.arena)) (group-fit s g));
  list = z;
}

module _ (s : State) (g : GoodState s) (p : Passes s) where
  -- the expressions of its keys are in the arena
  keys-there : Known (length s.nodes) s.orderings
  keys-there =
      rw (count-encode s.nodes g.arena, orderings-again s.orderings) at
      (number-held (cells_of s) (list_of s) (sized_for s.orderings g.list) p.list).known

  -- so the list passes over more nodes
  list-more : (ms : List Node) → Sound ms → Extends s.nodes ms → list_number (cells_for ms) (list_of s) ≡ 0
  list-more ms sound x =
      list-number (cells_for ms) (holds-lawful (cells_for ms) (encode-holds ms sound)) s.orderings g.list
      (λ i k a b. omega (arith, keys-there i k a b, count-encode ms sound, ap {B = ℕ} length x.is, length-append s.nodes x.more))

  nodes-list : (reply : Added → Reply) (o : Added × List Node) → Kept added_number s.nodes o → list_number (cells_of (on_nodes s reply o).1) (list_of (on_nodes s reply o).1) ≡ 0
  unfolding on_nodes with_nodes
  nodes-list reply o k = list-more o.1 k.sound k.extends

  -- a list with an ordering added is the call's, which passes again
  ordering-list : (keys : List (ℕ × ℕ)) → list_number (cells_of s) (list_for (add_ordering keys s.nodes s.orderings).1) ≡ 0
  unfolding listed_of
  ordering-list keys =
      ap (λ (r : Listed). list_number (cells_of s) r.list) (sym (ordering-is s p keys))
      ∙ add-passes (cells_of s) (list_of s) (lent_keys keys) (sized_for s.orderings g.list) p.list

-- the list passes after every record
step-list : (x : Record) (s : State) → WellFormed x → GoodState s → Passes s → list_number (cells_of (step x s).1) (list_of (step x s).1) ≡ 0
unfolding step WellFormed on_classes with_classes with_orderings
step-list (column name index) s w g p = nodes-list s g p added_reply (add_column name index s.nodes) (column-kept name index s.nodes g.arena w.1)
step-list (literal value) s w g p = nodes-list s g p added_reply (add_literal value s.nodes) (literal-kept value s.nodes g.arena)
step-list (operation label children) s w g p = nodes-list s g p added_reply (add_operation label children s.nodes) (operation-kept label children s.nodes g.arena)
step-list (equal_pair a b) s w g p = p.list
step-list (constant e flavour value) s w g p = p.list
step-list (normal_form_of e) s w g p = nodes-list s g p (normal_reply e) (normalize_expr e s.nodes s.classes) (form-kept e s.nodes s.classes g.arena g.group)
step-list (equality_of a b) s w g p = p.list
step-list (one_ordering keys) s w g p = ordering-list s g p keys

-- every part passes after every record
pub step-passes : (x : Record) (s : State) → WellFormed x → GoodState s → Passes s → Passes (step x s).1
step-passes x s w g p = passing (step x s).1 (step-good x s w g) (step-list x s w g p)

-- and before the first
pub start-passes : Passes start
unfolding start
start-passes = passing start start-good (list-number (cells_of start) (holds-lawful (cells_of start) (encode-holds [] start-good.arena)) [] start-good.list (λ i k a b. absurd (omega arith)))

-- so every state of a session passes the calls' own checks
pub session-passes : (s : State) (xs : List Record) → ((k : ℕ) → k < length xs → WellFormed (get_or xs k (literal 0))) → GoodState s → Passes s → Passes (after s xs)
unfolding after
session-passes s [] w g p = p
session-passes s (x ∷ xs) w g p =
    session-passes (step x s).1 xs (λ k l. w (suc k) (omega arith)) (step-good x s (w 0 (omega arith)) g) (step-passes x s (w 0 (omega arith)) g p)
