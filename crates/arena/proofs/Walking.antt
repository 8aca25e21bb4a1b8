-- Walks that rewrite an expression and add what they make of it, for any rewriting F: placing, the memo, and the loop over a node's children.
use Rattle.arena.specs.declared.Refusal.TheVariants.{ArenaFull}
use Rattle.arena.specs.Refusals.{Added}
use Rattle.std.specs.Prelude.{Err, Ok}
use Prim.Native.Nat.{ℕ, zero, suc, ◌+◌, ◌-◌, ◌<◌}
use mathlib.Core.Bool.{true, false}
use mathlib.Core.List.{List, [], ◌∷◌, ◌++◌, append-nil, append_assoc}
use mathlib.Core.Path.{◌≡◌, refl, sym, ap, ◌∙◌, subst}
use native.Mathlib.Decide.{ℕ_discrete, dec_lt}
use native.Mathlib.Nat.{add_comm}
use native.Mathlib.Numerals.{add-one, add-three}
use native.Mathlib.Omega.{arith}
use lib.ListN.{length, get_or, set, drop, replicate, length-append, get_or-append}
use lib.Seq.{get_or-set_other, get_or-set_same, set_out, drop-cons, drop-length, set_at, get_or_at, append_snoc}
use Rattle.laws.proofs.Table.{length-table, table_is, table_cong}
use Rattle.arena.specs.Node.{Node, operation}
use Rattle.arena.specs.Expression.{Expression, expressions, expression_at, those}
use Rattle.arena.specs.Arena.{Extends, Small, Placed, placed, full, and_then, add, add_expression, add_expressions}
use Rattle.arena.specs.declared.Refusal.{Refusal}
use Rattle.arena.specs.Layout.{row, node_of, children_of, decode, encode}
use Rattle.arena.specs.Calls.{answered, in_cells}
use Rattle.arena.specs.Inner.{Holds, Placeable, told, Grew, Noted, Memo, noted, Walked, map_all, told_all, operation_row, WalkedAll}
use Rattle.arena.proofs.Nodes.{add-node, extends-none, extends-both, extends-longer}
use Rattle.arena.proofs.Trees.{expression-kept}
use Rattle.arena.proofs.Growing.{add-expression, add_expression-old}
use Rattle.arena.proofs.Layouts.{length-decode, coded-cells, decode-encode, encode-holds}

-- ---- placing

-- what a placing of a row comes to
pub record PlacedRow (r s t : List ℕ) (a : Added) : Type 0 where
  pub holds : Holds t
  pub extends : Extends (decode s) (decode t)
  pub is : told a (decode t) ≡ add (node_of r) (decode s)

pub placed_row : (r s t : List ℕ) (a : Added) → Placeable s r → (a, t) ≡ in_cells (answered (decode s) (add (node_of r) (decode s))) → PlacedRow r s t a
unfolding in_cells answered told
placed_row r s t a p e = go (add (node_of r) (decode s)) refl
  where
    go : (o : Placed ℕ) → add (node_of r) (decode s) ≡ o → PlacedRow r s t a
    go (placed i ms) q =
        let w : ◌≡◌ {A = Added × List ℕ} (a, t) (Ok i, encode ms) = e ∙ rw q in
        let w0 : a ≡ Ok i = ap (λ (o : Added × List ℕ). o.0) w in
        let w1 : t ≡ encode ms = ap (λ (o : Added × List ℕ). o.1) w in
        let n = add-node (node_of r) (decode s) p.holds.sound (rw (length-decode s) p.allowed) i ms q in
        let d : decode t ≡ ms = ap decode w1 ∙ decode-encode ms n.sound in
        record {
          holds = subst Holds (sym w1) (encode-holds ms n.sound);
          extends = subst (Extends (decode s)) (sym d) n.extends;
          is = rw (w0, d, q);
        }
    go full q =
        let w : ◌≡◌ {A = Added × List ℕ} (a, t) (Err ArenaFull, encode (decode s)) = e ∙ rw q in
        let w0 : a ≡ Err ArenaFull = ap (λ (o : Added × List ℕ). o.0) w in
        let w1 : t ≡ s = ap (λ (o : Added × List ℕ). o.1) w ∙ coded-cells s p.holds in
        record {
          holds = subst Holds (sym w1) p.holds;
          extends = subst (λ (l : List ℕ). Extends (decode s) (decode l)) (sym w1) (extends-none (decode s));
          is = rw (w0, q);
        }

-- ---- the memo

module _ (F : Expression → Expression) where
  -- an empty memo is true
  pub memo-none : (ns : List Node) (n : ℕ) → Memo F ns (replicate {A = ℕ} n 0)
  memo-none ns n e h = absurd (h (zeros n e))
    where
      zeros : (n e : ℕ) → get_or (replicate {A = ℕ} n 0) e 0 ≡ 0
      zeros zero e = refl
      zeros (suc n) zero = refl
      zeros (suc n) (suc e) = zeros n e

  -- it stays true when nodes are added
  pub memo-kept : {ns ms : List Node} (memo : List ℕ) → Extends ns ms → Memo F ns memo → Memo F ms memo
  memo-kept {ns} {ms} memo x m e h =
      let o = m e h in
      record {
        known = omega (arith, extends-longer x, o.known);
        old = omega (arith, extends-longer x, o.old);
        is = expression-kept x (get_or memo e 0 - 1) o.old ∙ o.is ∙ ap F (sym (expression-kept x e o.known));
      }

  -- an answer is noted
  pub memo-more : (ns : List Node) (memo : List ℕ) (e i : ℕ) → Memo F ns memo → e < length ns → i < length ns → expression_at ns i ≡ F (expression_at ns e) → Memo F ns (set memo e (i + 1))
  memo-more ns memo e i m a b q j h = at (ℕ_discrete j e)
    where
      new : get_or (set memo e (i + 1)) j 0 ≡ i + 1 → j ≡ e → Noted F ns j (get_or (set memo e (i + 1)) j 0)
      new v t =
          let w : get_or (set memo e (i + 1)) j 0 - 1 ≡ i = omega arith in
          record { known = omega arith; old = omega arith; is = rw (w, t) q }

      old : get_or (set memo e (i + 1)) j 0 ≡ get_or memo j 0 → Noted F ns j (get_or (set memo e (i + 1)) j 0)
      old v = subst (Noted F ns j) (sym v) (m j (λ z. h (v ∙ z)))

      inside : Dec (e < length memo) → j ≡ e → Noted F ns j (get_or (set memo e (i + 1)) j 0)
      inside (yes l) t = new (rw t (get_or-set_same memo e (i + 1) 0 l)) t
      inside (no l) t = old (ap (λ (l : List ℕ). get_or l j 0) (set_out memo e (i + 1) (omega arith)))

      at : Dec (j ≡ e) → Noted F ns j (get_or (set memo e (i + 1)) j 0)
      at (yes t) = inside (dec_lt e (length memo)) t
      at (no t) = old (get_or-set_other memo e j (i + 1) 0 t)

  -- an entry answers for the expression: it is there, and nothing is added
  pub memo-answers : (s memo : List ℕ) (e : ℕ) → Holds s → Memo F (decode s) memo → (get_or memo e 0 ≡ 0 → ⊥) → Walked F s s memo e (Ok (get_or memo e 0 - 1))
  unfolding told
  memo-answers s memo e h m z =
      let o = m e z in
      record {
        grew =
            record {
              holds = h;
              extends = extends-none (decode s);
              is = sym (add_expression-old (F (expression_at (decode s) e)) (decode s) h.sound (get_or memo e 0 - 1) o.old o.is);
            };
        memo_true = m;
      }

  -- what grew has the number that was answered
  pub grew-number : (x : Expression) (s t : List ℕ) (i : ℕ) → Holds s → Small x → Grew x s t (Ok i) → (i < length (decode t)) × (expression_at (decode t) i ≡ x)
  unfolding told
  grew-number x s t i h m g =
      let a = add-expression x (decode s) h.sound m i (decode t) (sym g.is) in
      (a.below, a.is)

  -- an answer is noted for its expression
  pub memo-noted : (s t memo : List ℕ) (e : ℕ) (a : Added) → Holds s → e < length (decode s) → Small (F (expression_at (decode s) e)) → Walked F s t memo e a → Walked F s t (noted memo e a) e a
  unfolding noted
  memo-noted s t memo e (Ok i) h b m w =
      let g = grew-number (F (expression_at (decode s) e)) s t i h m w.grew in
      let x = w.grew.extends in
      record {
        grew = w.grew;
        memo_true = memo-more (decode t) memo e i w.memo_true (omega (arith, extends-longer x)) g.0 (g.1 ∙ ap F (sym (expression-kept x e b)));
      }
  memo-noted s t memo e (Err k) h b m w = w

-- ---- the loop over children

-- what was placed, after what was placed before
unfoldable pub prefixed : List ℕ → Placed (List ℕ) → Placed (List ℕ)
prefixed done (placed ks ms) = placed (done ++ ks) ms
prefixed done full = full

-- how far the loop has come: k children are done, their new numbers stand in the row, and the rest is to be added
pub record Through (F : Expression → Expression) (s t memo r r' : List ℕ) (k : ℕ) : Type 0 where
  pub holds : Holds t
  pub extends : Extends (decode s) (decode t)
  pub memo_true : Memo F (decode t) memo
  pub done : List ℕ
  pub counted : length done ≡ k
  pub row_is : r' ≡ operation_row r (done ++ drop k (children_of r))
  pub goes : add_expressions (map_all F (those (expressions (decode s)) (children_of r))) (decode s)
      ≡ prefixed done (add_expressions (map_all F (those (expressions (decode s)) (drop k (children_of r)))) (decode t))

-- how many children a row has
pub children-count : (r : List ℕ) → length (children_of r) ≡ get_or r 2 0
unfolding children_of
children-count r = length-table (λ k. get_or r (3 + k) 0) (get_or r 2 0)

-- the children of an operation's row
pub children-row : (label : ℕ) (ks : List ℕ) → children_of (row (operation label ks)) ≡ ks
unfolding children_of row
children-row label ks =
    sym (table_is (λ k. get_or (ks ++ replicate (8 - length ks) 0) k 0) (length ks) ks 0 refl (λ i b. sym (get_or-append ks (replicate (8 - length ks) 0) 0 i b)) ∙ table_cong _ _ (length ks) (λ i b. rw (add_comm 3 i, add-three)))

-- an operation's row, parted at a child
split-row : (label c : ℕ) (done rest : List ℕ) → row (operation label (done ++ (c ∷ rest))) ≡ (3 ∷ label ∷ length (done ++ (c ∷ rest)) ∷ done) ++ (c ∷ (rest ++ replicate (8 - length (done ++ (c ∷ rest))) 0))
unfolding row
split-row label c done rest = ap (λ (l : List ℕ). 3 ∷ label ∷ length (done ++ (c ∷ rest)) ∷ l) (append_assoc done (c ∷ rest) (replicate (8 - length (done ++ (c ∷ rest))) 0))

module _ (label c i k : ℕ) (done rest : List ℕ) (n : length done ≡ k) where
  front : length (3 ∷ label ∷ length (done ++ (c ∷ rest)) ∷ done) ≡ 3 + k
  front = omega arith

  row-child : get_or (row (operation label (done ++ (c ∷ rest)))) (3 + k) 0 ≡ c
  row-child = rw (split-row label c done rest) (get_or_at (3 ∷ label ∷ length (done ++ (c ∷ rest)) ∷ done) c (rest ++ replicate (8 - length (done ++ (c ∷ rest))) 0) 0 (3 + k) front)

  same_length : length (done ++ (c ∷ rest)) ≡ length (done ++ (i ∷ rest))
  same_length = length-append done (c ∷ rest) ∙ sym (length-append done (i ∷ rest))

  row-set : set (row (operation label (done ++ (c ∷ rest)))) (3 + k) i ≡ row (operation label (done ++ (i ∷ rest)))
  row-set =
      rw (split-row label c done rest, split-row label i done rest, ← same_length)
      (set_at (3 ∷ label ∷ length (done ++ (c ∷ rest)) ∷ done) c (rest ++ replicate (8 - length (done ++ (c ∷ rest))) 0) i (3 + k) front)

pub prefixed-none : (o : Placed (List ℕ)) → o ≡ prefixed [] o
unfolding prefixed
prefixed-none (placed ks ms) = refl
prefixed-none full = refl

pub prefixed-more : (done : List ℕ) (i : ℕ) (o : Placed (List ℕ)) → prefixed done (and_then o (λ ks os. placed (i ∷ ks) os)) ≡ prefixed (done ++ (i ∷ [])) o
unfolding prefixed and_then
prefixed-more done i (placed ks ms) = ap (λ (l : List ℕ). placed l ms) (sym (append_snoc done i ks))
prefixed-more done i full = refl

module _ (F : Expression → Expression) (s r : List ℕ) where
  -- nothing done
  pub through-begins : (memo : List ℕ) → Holds s → Memo F (decode s) memo → r ≡ operation_row r (children_of r) → Through F s s memo r r 0
  through-begins memo h m q =
      record {
        holds = h;
        extends = extends-none (decode s);
        memo_true = m;
        done = [];
        counted = refl;
        row_is = q;
        goes = prefixed-none (add_expressions (map_all F (those (expressions (decode s)) (children_of r))) (decode s));
      }

  module _ (t memo r' : List ℕ) (k : ℕ) (h : Through F s t memo r r' k) (l : k < length (children_of r)) where
    -- the rest begins with child k
    rest : drop k (children_of r) ≡ get_or (children_of r) k 0 ∷ drop (k + 1) (children_of r)
    rest = drop-cons (children_of r) k 0 l ∙ rw add-one

    -- the row, parted at child k
    parted : r' ≡ operation_row r (h.done ++ (get_or (children_of r) k 0 ∷ drop (k + 1) (children_of r)))
    parted = h.row_is ∙ ap (λ (l : List ℕ). operation_row r (h.done ++ l)) rest

    -- child k stands in the row
    pub through-child : get_or r' (3 + k) 0 ≡ get_or (children_of r) k 0
    through-child =
        ap (λ (l : List ℕ). get_or l (3 + k) 0) parted
        ∙ row-child (get_or r 1 0) (get_or (children_of r) k 0) 0 k h.done (drop (k + 1) (children_of r)) h.counted

    -- what is added after child k
    abbrev after : ℕ → List Node → Placed (List ℕ)
    after i ms = and_then (add_expressions (map_all F (those (expressions (decode s)) (drop (k + 1) (children_of r)))) ms) (λ ks os. placed (i ∷ ks) os)

    -- what is to be added, child k first
    turn : add_expressions (map_all F (those (expressions (decode s)) (drop k (children_of r)))) (decode t) ≡ and_then (add_expression (F (expression_at (decode s) (get_or (children_of r) k 0))) (decode t)) after
    unfolding add_expressions map_all those
    turn = rw rest

    module _ (u memo₂ : List ℕ) (below : get_or (children_of r) k 0 < length (decode s)) where
      same : expression_at (decode t) (get_or (children_of r) k 0) ≡ expression_at (decode s) (get_or (children_of r) k 0)
      same = expression-kept h.extends (get_or (children_of r) k 0) below

      -- child k is done
      pub through-more : (i : ℕ) → Walked F t u memo₂ (get_or (children_of r) k 0) (Ok i) → Through F s u memo₂ r (set r' (3 + k) i) (k + 1)
      unfolding told and_then
      through-more i w =
          let a : add_expression (F (expression_at (decode s) (get_or (children_of r) k 0))) (decode t) ≡ placed i (decode u) = ap (λ (x : Expression). add_expression (F x) (decode t)) (sym same) ∙ sym w.grew.is in
          record {
            holds = w.grew.holds;
            extends = extends-both h.extends w.grew.extends;
            memo_true = w.memo_true;
            done = h.done ++ (i ∷ []);
            counted = length-append h.done (i ∷ []) ∙ rw h.counted;
            row_is =
                ap (λ (l : List ℕ). set l (3 + k) i) parted
                ∙ row-set (get_or r 1 0) (get_or (children_of r) k 0) i k h.done (drop (k + 1) (children_of r)) h.counted
                ∙ ap (operation_row r) (sym (append_snoc h.done i (drop (k + 1) (children_of r))));
            goes = h.goes ∙ ap (prefixed h.done) (turn ∙ ap (λ (o : Placed ℕ). and_then o after) a) ∙ prefixed-more h.done i (add_expressions (map_all F (those (expressions (decode s)) (drop (k + 1) (children_of r)))) (decode u));
          }

      -- there was no room for child k
      pub through_fails : (j : Refusal) → Walked F t u memo₂ (get_or (children_of r) k 0) (Err j) → WalkedAll F s u memo₂ r r' false
      unfolding told and_then told_all prefixed
      through_fails j w =
          let a : add_expression (F (expression_at (decode s) (get_or (children_of r) k 0))) (decode t) ≡ full = ap (λ (x : Expression). add_expression (F x) (decode t)) (sym same) ∙ sym w.grew.is in
          record {
            holds = w.grew.holds;
            extends = extends-both h.extends w.grew.extends;
            memo_true = w.memo_true;
            is = sym (h.goes ∙ ap (prefixed h.done) (turn ∙ ap (λ (o : Placed ℕ). and_then o after) a));
            row_is = λ z. absurd (let q : ◌≡◌ {A = ℕ} 0 1 = cc in omega arith);
          }

  -- all done
  pub through-ends : (t memo r' : List ℕ) (k : ℕ) → Through F s t memo r r' k → length (children_of r) ≡ k → WalkedAll F s t memo r r' true
  unfolding told_all prefixed add_expressions map_all those
  through-ends t memo r' k h e =
      let d : drop k (children_of r) ≡ [] = rw (← e) (drop-length (children_of r)) in
      let q : r' ≡ operation_row r h.done = h.row_is ∙ rw (d, append-nil) in
      let c : children_of r' ≡ h.done = ap children_of q ∙ children-row (get_or r 1 0) h.done in
      record {
        holds = h.holds;
        extends = h.extends;
        memo_true = h.memo_true;
        is = sym (h.goes ∙ rw (d, append-nil, c));
        row_is = λ z. rw c q;
      }
