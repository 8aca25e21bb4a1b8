-- The steps of the walk of the normal form in cells: a node without children, the loop over children, and the node over what was made of them.
use Rattle.arena.specs.Refusals.{Added}
use Rattle.arena.specs.declared.Refusal.{Refusal}
use Rattle.std.specs.Prelude.{Err, Ok}
use Prim.Native.Nat.{ℕ, ◌+◌, ◌-◌, ◌<◌, ◌≤◌}
use mathlib.Core.Bool.{true, false}
use mathlib.Core.List.{List}
use mathlib.Core.Path.{◌≡◌, refl, sym, ap, ◌∙◌, subst}
use native.Mathlib.Omega.{arith}
use lib.ListN.{length, get_or, set, take, drop, take-append-drop}
use lib.Seq.{length-take-le, take-append-le}
use Rattle.arena.specs.Node.{Node, operation, node_at, child_numbers}
use Rattle.arena.specs.Expression.{Expression, Expressions, op, those, over, expressions, expression_at}
use Rattle.arena.specs.Arena.{Allowed, Sound, Extends, Small, AllSmall, full, and_then, add, add_expression}
use Rattle.arena.specs.Layout.{row, count, row_of, node_of, children_of, decode}
use Rattle.arena.specs.Inner.{Holds, Known, Placeable, told, Grew, Memo, noted, Walked, map_all, told_all, WalkedAll}
use Rattle.arena.proofs.Nodes.{extends-none, extends-both, extends-longer}
use Rattle.arena.proofs.NodeCells.{node-column, node-literal, node-operation}
use Rattle.arena.proofs.Rows.{node_row}
use Rattle.arena.proofs.Trees.{expression-is, expression-small}
use Rattle.arena.proofs.Growing.{AddedExpressions, add-expressions}
use Rattle.arena.proofs.Layouts.{length-decode, node-decode}
use Rattle.arena.proofs.Walking.{PlacedRow, Through, memo-kept, memo-answers, memo-noted, grew-number, through-begins, through-child, through-more, through_fails}
use Rattle.normal.specs.Normal.{replaced, normal_by}
use Rattle.normal.specs.Inner.{replacement, olds, rewriting, Ready, ReadyAll}
use Rattle.normal.proofs.Rewriting.{sound-before, normal-small, operation-small, operation-is, leaf_added, rewritten-full, rewritten-added}

module _ (old : ℕ) (s : List ℕ) (l : old ≤ count s) where
  long : old ≤ length (decode s)
  long = omega (arith, length-decode s)

  -- the arena extends the nodes that were there before
  pub olds-extended : Extends (olds old s) (decode s)
  olds-extended = record { more = drop old (decode s); is = sym (take-append-drop old (decode s)) }

  -- their count
  pub olds-count : length (olds old s) ≡ old
  olds-count = length-take-le old (decode s) long

  -- they stay the same when nodes are added
  same-olds : (t : List ℕ) → Extends (decode s) (decode t) → olds old t ≡ olds old s
  same-olds t x = ap (take old) x.is ∙ take-append-le old (decode s) x.more long

  -- and so does the rewriting
  pub same-rewriting : (firsts t : List ℕ) → Extends (decode s) (decode t) → ◌≡◌ {A = Expression → Expression} (rewriting old firsts t) (rewriting old firsts s)
  same-rewriting firsts t x = ap {B = Expression → Expression} (λ (ns : List Node) (y : Expression). normal_by ns (λ e. get_or firsts e 0) y) (same-olds t x)

  -- what was walked after nodes were added was walked by the same rewriting
  pub same-walked : (firsts t u memo : List ℕ) (e : ℕ) (a : Added) → Extends (decode s) (decode t) → Walked (rewriting old firsts t) t u memo e a → Walked (rewriting old firsts s) t u memo e a
  same-walked firsts t u memo e a x w = subst (λ (F : Expression → Expression). Walked F t u memo e a) (same-rewriting firsts t x) w

module _ (old : ℕ) (firsts s memo : List ℕ) (e : ℕ) (d : Ready old firsts s memo e) where
  sound : Sound (decode s)
  sound = d.holds.sound

  extended : Extends (olds old s) (decode s)
  extended = olds-extended old s d.there

  counted : length (olds old s) ≡ old
  counted = olds-count old s d.there

  -- node e is in the arena
  pub ready-below : e < length (decode s)
  ready-below = omega (arith, length-decode s, d.there, d.below)

  pub ready-known : Known s e
  ready-known = record { holds = d.holds; below = omega (arith, d.there, d.below) }

  inside-olds : (k : ℕ) → k < length (olds old s) → get_or firsts k 0 < length (olds old s)
  inside-olds k l = omega (arith, counted, d.inside k (omega (arith, counted)))

  small : Small (expression_at (decode s) e)
  small = expression-small (decode s) sound e ready-below

  -- an arena can hold the rewritten expression
  pub ready-small : Small (rewriting old firsts s (expression_at (decode s) e))
  ready-small = normal-small (olds old s) (λ k. get_or firsts k 0) (sound-before extended sound) inside-olds (expression_at (decode s) e) small

  -- the memo has an entry for node e
  pub memo-hit : (get_or memo e 0 ≡ 0 → ⊥) → Walked (rewriting old firsts s) s s memo e (Ok (get_or memo e 0 - 1))
  memo-hit h = memo-answers (rewriting old firsts s) s memo e d.holds d.memo_true h

  module _ (t memo₂ : List ℕ) (a : Added) (w : Walked (rewriting old firsts s) s t memo₂ e a) where
    -- a number that is answered is one of the arena
    pub answer-small : (i : ℕ) → a ≡ Ok i → i < 1024
    answer-small i q =
        let g : Grew (rewriting old firsts s (expression_at (decode s) e)) s t (Ok i) = subst (Grew (rewriting old firsts s (expression_at (decode s) e)) s t) q w.grew in
        let n = grew-number (rewriting old firsts s) (rewriting old firsts s (expression_at (decode s) e)) s t i d.holds ready-small g in
        omega (arith, n.0, length-decode t, w.grew.holds.few)

    -- and it is noted
    pub answer-noted : Walked (rewriting old firsts s) s t (noted memo₂ e a) e a
    answer-noted = memo-noted (rewriting old firsts s) s t memo₂ e a d.holds ready-below ready-small w

  -- a node without children: what replaces it is there
  pub leaf_walked : length (child_numbers (node_at (decode s) e)) ≡ 0 → Walked (rewriting old firsts s) s s memo e (Ok (replacement old firsts e))
  unfolding told
  leaf_walked q =
      record {
        grew =
            record {
              holds = d.holds;
              extends = extends-none (decode s);
              is = sym (leaf_added (olds old s) (decode s) firsts old extended sound counted d.inside e d.below q);
            };
        memo_true = d.memo_true;
      }

  -- the children of another are walked
  pub ready-all : (length (child_numbers (node_at (decode s) e)) ≡ 0 → ⊥) → (r : List ℕ) → r ≡ row_of s e → ReadyAll old firsts s memo r e
  unfolding child_numbers
  ready-all h r q =
      let n : node_at (decode s) e ≡ node_of (row_of s e) = node-decode s e ready-known.below in
      let o : node_of (row_of s e) ≡ operation (get_or (row_of s e) 1 0) (children_of (row_of s e)) = node-operation (row_of s e) (λ w. h (ap (λ (m : Node). length (child_numbers m)) (n ∙ node-column (row_of s e) w))) (λ w. h (ap (λ (m : Node). length (child_numbers m)) (n ∙ node-literal (row_of s e) w))) in
      record {
        ready = d;
        node = rw q (n ∙ o);
        row_is = rw q (sym (d.holds.coded e ready-known.below) ∙ ap row o);
      }

module _ (old : ℕ) (firsts s memo r : List ℕ) (e : ℕ) (d : ReadyAll old firsts s memo r e) where
  children-allowed : (length (children_of r) ≤ 8) × ((k : ℕ) → k < length (children_of r) → get_or (children_of r) k 0 < e)
  unfolding Allowed
  children-allowed = subst (Allowed e) d.node (d.ready.holds.sound.allowed e (ready-below old firsts s memo e d.ready))

  -- at most 8 children
  pub children_eight : length (children_of r) ≤ 8
  children_eight = children-allowed.0

  -- a child is lower
  child-lower : (k : ℕ) → k < length (children_of r) → get_or (children_of r) k 0 < e
  child-lower = children-allowed.1

  -- so it is in the arena
  child-known : (k : ℕ) → k < length (children_of r) → get_or (children_of r) k 0 < length (decode s)
  child-known k l = omega (arith, child-lower k l, ready-below old firsts s memo e d.ready)

  -- the loop over the children can begin
  pub loop_begins : Through (rewriting old firsts s) s s memo r r 0
  loop_begins = through-begins (rewriting old firsts s) s r memo d.ready.holds d.ready.memo_true d.row_is

  -- it has come to child k
  module _ (t memo₂ r' : List ℕ) (k : ℕ) (h : Through (rewriting old firsts s) s t memo₂ r r' k) (l : k < length (children_of r)) where
    child : get_or r' (3 + k) 0 ≡ get_or (children_of r) k 0
    child = through-child (rewriting old firsts s) s r t memo₂ r' k h l

    -- which is lower
    pub loop_lower : get_or r' (3 + k) 0 < e
    loop_lower = omega (arith, child, child-lower k l)

    -- and can be walked
    pub loop_ready : Ready old firsts t memo₂ (get_or r' (3 + k) 0)
    loop_ready =
        record {
          holds = h.holds;
          there = omega (arith, d.ready.there, length-decode s, length-decode t, extends-longer h.extends);
          inside = d.ready.inside;
          below = omega (arith, loop_lower, d.ready.below);
          memo_true = subst (λ (F : Expression → Expression). Memo F (decode t) memo₂) (sym (same-rewriting old s d.ready.there firsts t h.extends)) h.memo_true;
        }

    module _ (u memo₃ : List ℕ) (a : Added) (w : Walked (rewriting old firsts t) t u memo₃ (get_or r' (3 + k) 0) a) where
      -- it was, by the same rewriting
      walked : (b : Added) → a ≡ b → Walked (rewriting old firsts s) t u memo₃ (get_or (children_of r) k 0) b
      walked b q =
          let v : Walked (rewriting old firsts s) t u memo₃ (get_or r' (3 + k) 0) b = same-walked old s d.ready.there firsts t u memo₃ (get_or r' (3 + k) 0) b h.extends (subst (Walked (rewriting old firsts t) t u memo₃ (get_or r' (3 + k) 0)) q w) in
          subst (λ (c : ℕ). Walked (rewriting old firsts s) t u memo₃ c b) child v

      -- and has a number
      pub loop_more : (i : ℕ) → a ≡ Ok i → Through (rewriting old firsts s) s u memo₃ r (set r' (3 + k) i) (k + 1)
      loop_more i q = through-more (rewriting old firsts s) s r t memo₂ r' k h l u memo₃ (child-known k l) i (walked (Ok i) q)

      -- or there was no room
      pub loop_fails : (j : Refusal) → a ≡ Err j → WalkedAll (rewriting old firsts s) s u memo₃ r r' false
      loop_fails j q = through_fails (rewriting old firsts s) s r t memo₂ r' k h l u memo₃ (child-known k l) j (walked (Err j) q)

  -- the children, and what is made of them
  abbrev children : Expressions
  children = those (expressions (decode s)) (children_of r)

  abbrev made : Expressions
  made = map_all (rewriting old firsts s) children

  -- the operation over that
  abbrev rewritten : Expression
  rewritten = op (get_or r 1 0) made

  expression : expression_at (decode s) e ≡ op (get_or r 1 0) children
  unfolding over
  expression = expression-is (decode s) d.ready.holds.sound e (ready-below old firsts s memo e d.ready) ∙ ap (over (expressions (decode s))) d.node

  -- it is looked up
  rewriting-is : rewriting old firsts s (expression_at (decode s) e) ≡ replaced (olds old s) (λ k. get_or firsts k 0) rewritten
  rewriting-is = ap (rewriting old firsts s) expression ∙ operation-is (olds old s) (λ k. get_or firsts k 0) (get_or r 1 0) children

  rewritten-small : Small rewritten
  rewritten-small =
      operation-small (olds old s) (λ k. get_or firsts k 0) (sound-before (extended old firsts s memo e d.ready) d.ready.holds.sound) (inside-olds old firsts s memo e d.ready) (get_or r 1 0) children
      (subst Small expression (small old firsts s memo e d.ready))

  -- no room for it
  refused-walked : (t memo₂ : List ℕ) → Holds t → Extends (decode s) (decode t) → Memo (rewriting old firsts s) (decode t) memo₂ → add_expression rewritten (decode s) ≡ full → (k : Refusal) → Walked (rewriting old firsts s) s t memo₂ e (Err k)
  unfolding told
  refused-walked t memo₂ h x m q k =
      record {
        grew =
            record {
              holds = h;
              extends = x;
              is = sym (ap (λ (y : Expression). add_expression y (decode s)) rewriting-is ∙ rewritten-full (olds old s) (decode s) firsts old (extended old firsts s memo e d.ready) d.ready.holds.sound (counted old firsts s memo e d.ready) d.ready.inside rewritten q);
            };
        memo_true = m;
      }

  module _ (t memo₂ r' : List ℕ) where
    -- no room for the children: no room for the expression
    pub children-full : WalkedAll (rewriting old firsts s) s t memo₂ r r' false → (k : Refusal) → Walked (rewriting old firsts s) s t memo₂ e (Err k)
    unfolding told_all add_expression and_then
    children-full w k = refused-walked t memo₂ w.holds w.extends w.memo_true (rw (← w.is)) k

    module _ (w : WalkedAll (rewriting old firsts s) s t memo₂ r r' true) where
      all_small : AllSmall made
      unfolding Small
      all_small = rewritten-small.1

      added : AddedExpressions made (decode s) (children_of r') (decode t)
      unfolding told_all
      added = add-expressions made (decode s) d.ready.holds.sound all_small (children_of r') (decode t) (sym w.is)

      allowed : Allowed (count t) (operation (get_or r 1 0) (children_of r'))
      unfolding Allowed Small
      allowed =
          let c : length (children_of r') ≤ 8 = rw added.counted rewritten-small.0 in
          (c, λ k l. rw (length-decode t) at (added.below k l))

      node : node_of r' ≡ operation (get_or r 1 0) (children_of r')
      node = ap node_of (w.row_is refl) ∙ node_row (count t) (operation (get_or r 1 0) (children_of r')) allowed

      -- the operation over the rewritten children can be placed
      pub operation-placeable : Placeable t r'
      operation-placeable = record { holds = w.holds; coded = ap row node ∙ sym (w.row_is refl); allowed = subst (Allowed (count t)) (sym node) allowed }

      -- placing it adds the rewritten expression
      placing_is : add_expression rewritten (decode s) ≡ add (node_of r') (decode t)
      unfolding told_all add_expression and_then
      placing_is = rw (← w.is, node)

      -- there was no room
      pub operation-full : (u : List ℕ) (j : Refusal) → PlacedRow r' t u (Err j) → (k : Refusal) → Walked (rewriting old firsts s) s u memo₂ e (Err k)
      unfolding told
      operation-full u j p k =
          refused-walked u memo₂ p.holds (extends-both w.extends p.extends) (memo-kept (rewriting old firsts s) memo₂ p.extends w.memo_true) (placing_is ∙ sym p.is) k

      -- it has a number, and what replaces that is the answer
      pub operation-walked : (u : List ℕ) (i : ℕ) → PlacedRow r' t u (Ok i) → Walked (rewriting old firsts s) s u memo₂ e (Ok (replacement old firsts i))
      unfolding told
      operation-walked u i p =
          record {
            grew =
                record {
                  holds = p.holds;
                  extends = extends-both w.extends p.extends;
                  is = sym (ap (λ (y : Expression). add_expression y (decode s)) rewriting-is ∙ rewritten-added (olds old s) (decode s) firsts old (extended old firsts s memo e d.ready) d.ready.holds.sound (counted old firsts s memo e d.ready) d.ready.inside rewritten rewritten-small i (decode u) (placing_is ∙ sym p.is));
                };
            memo_true = memo-kept (rewriting old firsts s) memo₂ p.extends w.memo_true;
          }
