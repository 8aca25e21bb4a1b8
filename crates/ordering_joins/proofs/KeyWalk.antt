-- The walks that shift the keys of an ordering and the orderings of a list: how far the loop has come, and what is answered at its end.
use Rattle.arena.specs.Refusals.{Added}
use Rattle.std.specs.Prelude.{Result, Err, Ok}
use Rattle.arena.specs.declared.Refusal.{Refusal}
use Rattle.arena.proofs.Refusals.{ok-not-err}
use Prim.Native.Nat.{ℕ, ◌+◌, ◌*◌, ◌<◌, ◌≤◌}
use mathlib.Core.Bool.{true}
use mathlib.Core.List.{List, [], ◌∷◌, ◌++◌, append-nil}
use mathlib.Core.Path.{◌≡◌, refl, sym, ap, ◌∙◌, subst}
use native.Mathlib.Omega.{arith}
use lib.ListN.{length, get_or, drop, length-append}
use Rattle.arena.specs.Node.{Node}
use Rattle.arena.specs.Expression.{Expression, expression_at}
use Rattle.arena.specs.Arena.{Extends, Placed, placed, full, and_then, add_expression}
use Rattle.shifting.specs.Shift.{can_move}
use Rattle.arena.specs.Layout.{decode as nodes}
use Rattle.arena.specs.Inner.{Holds, Memo, Grew, Walked, told}
use Rattle.shifting.specs.Inner.{Ready, lifted, shifted_by}
use Rattle.arena.proofs.Nodes.{extends-none, extends-both, extends-longer}
use Rattle.arena.proofs.Trees.{expression-kept}
use Rattle.arena.proofs.Layouts.{length-decode as nodes-count}
use Rattle.arena.proofs.Walking.{grew-number}
use Rattle.shifting.proofs.Shifts.{ready-small}
use Rattle.orderings.specs.Ordering.{expr_of, options_of, pushed, extended, built}
use Rattle.orderings.specs.Lists.{ordering_at}
use Rattle.ordering_joins.specs.Offset.{keys_move, shifted_keys, shifted_lists}
use Rattle.orderings.specs.Layout.{row, keys_of, encode, decode}
use Rattle.orderings.specs.Inner.{ShortOrdering, Short, extended_of, appended, empties}
use Rattle.ordering_joins.specs.Inner.{ReadyKeys, told_keys, ShiftedKeys, ReadyLists, told_lists, ShiftedLists}
use Rattle.orderings.specs.declared.Ordering.{Ordering}
use Rattle.orderings.specs.declared.Orderings.{Orderings}
use Rattle.orderings.proofs.Codec.{keys-row, size_is, key-is, decode-encode, length-decode, count-few, place_in, place-keys}
use Rattle.orderings.proofs.OneOrdering.{pushed-fewer, built-fewer, built-more}
use Rattle.orderings.proofs.Extending.{row-short, short-size, fitting, unfitting}
use Rattle.orderings.proofs.Appending.{short-more, appended-is, short-encode, short-all}
use Rattle.ordering_joins.proofs.KeyTests.{few-keys, key-place, key-there, list-place, place_inside, place-there}
use Rattle.ordering_joins.proofs.Offsets.{keys-each, lists-each, following, following-none, following-more, after_key, keys_step, keys-done, build_of, after_ordering, lists-step, lists-done, shifted_keys_cong, keys_move_cong, Inside, grown-shift, grown-moves}

-- k keys are done: their shifted expressions are in the arena, the ordering is built from them, and the rest is to be added
pub record KeysTo (lift : ℕ) (s t memo : List ℕ) (o out : Ordering) (k : ℕ) : Type 0 where
  pub below : k ≤ o.size
  pub holds : Holds t
  pub extends : Extends (nodes s) (nodes t)
  pub memo_true : Memo (shifted_by lift) (nodes t) memo
  pub done : List ℕ
  pub counted : length done ≡ k
  pub short : ShortOrdering out
  pub out-is : keys_of out ≡ built done
  pub goes : shifted_keys (lifted lift) (nodes s) (keys_of o) (nodes s) ≡ following done (shifted_keys (lifted lift) (nodes s) (drop k (keys_of o)) (nodes t))

module _ (lift : ℕ) (s memo : List ℕ) (o : Ordering) (d : ReadyKeys lift s memo o) where
  abbrev keys : List ℕ
  keys = keys_of o

  -- nothing done
  pub keys-begin : (out : Ordering) → out ≡ row [] → KeysTo lift s s memo o out 0
  unfolding built extended
  keys-begin out e =
      record {
        below = omega arith;
        holds = d.keys.holds;
        extends = extends-none (nodes s);
        memo_true = d.memo_true;
        done = [];
        counted = refl;
        short = subst ShortOrdering (sym e) (row-short [] (omega arith));
        out-is = ap keys_of e ∙ keys-row [];
        goes = following-none (shifted_keys (lifted lift) (nodes s) keys (nodes s));
      }

  module _ (t memo₁ : List ℕ) (out : Ordering) (k : ℕ) (h : KeysTo lift s t memo₁ o out k) where
    module _ (l : k < o.size) where
      -- key k
      abbrev key : ℕ
      key = get_or o.keys k 0

      place : k < length keys
      place = key-place s o d.keys k l

      key-at : get_or keys k 0 ≡ key
      key-at = key-is o k l

      there : expr_of key < length (nodes s)
      there = omega (arith, key-there s o d.keys k l, nodes-count s)

      -- its expression is as it was
      same : expression_at (nodes t) (expr_of key) ≡ expression_at (nodes s) (expr_of key)
      same = expression-kept h.extends (expr_of key) there

      ready : Ready lift t memo₁ (expr_of key)
      ready = record {
        known = record { holds = h.holds; below = omega (arith, there, extends-longer h.extends, nodes-count t) };
        small = d.small;
        moves = ap (can_move (lifted lift)) same ∙ subst (λ (x : ℕ). can_move (lifted lift) (expression_at (nodes s) (expr_of x)) ≡ true) key-at (keys-each (lifted lift) (nodes s) keys d.moves k place);
        memo_true = h.memo_true;
      }

      -- it can be walked
      pub key-ready : (e : ℕ) → e ≡ expr_of key → Ready lift t memo₁ e
      key-ready e q = subst (Ready lift t memo₁) (sym q) ready

      -- what is to be added after it
      abbrev after : ℕ → List Node → Placed (List ℕ)
      after e ms = after_key (lifted lift) (nodes s) key (drop (k + 1) keys) e ms

      module _ (u memo₂ : List ℕ) (e : ℕ) (x : e ≡ expr_of key) (a : Added) (v : Walked (shifted_by lift) t u memo₂ e a) where
        w : Walked (shifted_by lift) t u memo₂ (expr_of key) a
        w = subst (λ (n : ℕ). Walked (shifted_by lift) t u memo₂ n a) x v

        -- what was added, by the arena as it was
        added : add_expression (shifted_by lift (expression_at (nodes s) (expr_of key))) (nodes t) ≡ told a (nodes u)
        added = ap (λ (y : Expression). add_expression (shifted_by lift y) (nodes t)) (sym same) ∙ sym w.grew.is

        -- what is to be added, key k first
        turn : shifted_keys (lifted lift) (nodes s) (drop k keys) (nodes t) ≡ and_then (told a (nodes u)) after
        turn =
            keys_step (lifted lift) (nodes s) keys k (nodes t) place
            ∙ ap (λ (y : ℕ). and_then (add_expression (shifted_by lift (expression_at (nodes s) (expr_of y))) (nodes t)) (after_key (lifted lift) (nodes s) y (drop (k + 1) keys))) key-at
            ∙ ap (λ (z : Placed ℕ). and_then z after) added

        -- it has a number
        module _ (i : ℕ) (q : a ≡ Ok i) where
          pub number-few : i < 1024
          number-few =
              let x = shifted_by lift (expression_at (nodes t) (expr_of key)) in
              let g = grew-number (shifted_by lift) x t u i h.holds (ready-small lift t memo₁ (expr_of key) ready) (subst (λ (b : Added). Grew (shifted_by lift (expression_at (nodes t) (expr_of key))) t u b) q w.grew) in
              omega (arith, g.0, nodes-count u, w.grew.holds.few)

          -- the next key has a place
          pub keys-fit : (n : ℕ) (j : Refusal) → Err j ≡ extended_of (pushed (keys_of out) n) → ⊥
          keys-fit n j y =
              let size = ap (λ (p : List ℕ). length p) h.out-is in
              omega (arith, (unfitting (pushed (keys_of out) n) j y).0, pushed-fewer (keys_of out) n, size, built-fewer h.done, h.counted, few-keys s o d.keys)

          -- one more is done
          pub keys-more : (n : ℕ) → n ≡ i * 4 + options_of key → (next : Ordering) → Ok next ≡ extended_of (pushed (keys_of out) n) → KeysTo lift s u memo₂ o next (k + 1)
          unfolding told and_then
          keys-more n z next y =
              let ks : List ℕ = pushed (keys_of out) n in
              let f = fitting ks next y in
              let c : length ks ≤ 16 = f.few in
              let r : next ≡ row ks = f.is in
              let rest : Placed (List ℕ) = shifted_keys (lifted lift) (nodes s) (drop (k + 1) keys) (nodes u) in
              record {
                below = omega arith;
                holds = w.grew.holds;
                extends = extends-both h.extends w.grew.extends;
                memo_true = w.memo_true;
                done = h.done ++ (n ∷ []);
                counted = length-append h.done (n ∷ []) ∙ rw h.counted;
                short = subst ShortOrdering (sym r) (row-short ks c);
                out-is = ap keys_of r ∙ keys-row ks ∙ ap (λ (p : List ℕ). pushed p n) h.out-is ∙ sym (built-more h.done n);
                goes =
                    h.goes ∙ ap (following h.done) (turn ∙ ap (λ (b : Added). and_then (told b (nodes u)) after) q)
                    ∙ ap (λ (m : ℕ). following h.done (and_then rest (λ js ps. placed (m ∷ js) ps))) (sym z) ∙ following-more h.done n rest;
              }

        -- there was no room
        pub keys-fail : (j : Refusal) → a ≡ Err j → ShiftedKeys lift s u memo₂ o (Err j)
        unfolding told and_then following told_keys
        keys-fail j q =
            record {
              holds = w.grew.holds;
              extends = extends-both h.extends w.grew.extends;
              memo_true = w.memo_true;
              short = λ out e. absurd (ok-not-err (sym e));
              is = sym (ap build_of (h.goes ∙ ap (following h.done) (turn ∙ ap (λ (b : Added). and_then (told b (nodes u)) after) q)));
            }

    -- all done
    pub keys_end : o.size ≤ k → ShiftedKeys lift s t memo₁ o (Ok out)
    unfolding and_then following told_keys
    keys_end l =
        let r = keys-done (lifted lift) (nodes s) keys k (nodes t) (omega (arith, size_is o)) in
        record {
          holds = h.holds;
          extends = h.extends;
          memo_true = h.memo_true;
          short = λ r e. let q : out ≡ r = cc in subst ShortOrdering q h.short;
          is =
              ap (λ (p : List ℕ). placed p (nodes t)) (h.out-is ∙ ap built (sym (append-nil h.done)))
              ∙ sym (ap build_of (h.goes ∙ ap (following h.done) r));
        }

-- i orderings are done: they stand in the list, and the rest is to be added
pub record ListsTo (lift : ℕ) (s t memo : List ℕ) (g list : Orderings) (i : ℕ) : Type 0 where
  pub below : i ≤ g.count
  pub holds : Holds t
  pub extends : Extends (nodes s) (nodes t)
  pub memo_true : Memo (shifted_by lift) (nodes t) memo
  pub counted : list.count ≡ i
  pub short : Short list
  pub goes : shifted_lists (lifted lift) (nodes s) (decode g) (nodes s) ≡ following (decode list) (shifted_lists (lifted lift) (nodes s) (drop i (decode g)) (nodes t))

module _ (lift : ℕ) (s memo : List ℕ) (g : Orderings) (d : ReadyLists lift s memo g) where
  abbrev lists : List (List ℕ)
  lists = decode g

  pub few-lists : g.count ≤ 32
  few-lists = count-few g d.list.held

  -- nothing done
  pub lists-begin : (list : Orderings) → list ≡ empties → ListsTo lift s s memo g list 0
  unfolding encode
  lists-begin list e = subst (λ (l : Orderings). ListsTo lift s s memo g l 0) (sym e) (record {
    below = omega arith;
    holds = d.list.holds;
    extends = extends-none (nodes s);
    memo_true = d.memo_true;
    counted = refl;
    short = short-encode [] (omega arith) (λ i l. absurd (omega arith));
    goes =
        following-none (shifted_lists (lifted lift) (nodes s) lists (nodes s))
        ∙ ap (λ (l : List (List ℕ)). following l (shifted_lists (lifted lift) (nodes s) lists (nodes s))) (sym (decode-encode []));
  })

  module _ (t memo₁ : List ℕ) (list : Orderings) (i : ℕ) (h : ListsTo lift s t memo₁ g list i) where
    module _ (l : i < g.count) where
      -- ordering i
      abbrev ordering : List ℕ
      ordering = ordering_at lists i

      spot : i < length lists
      spot = list-place s g d.list i l

      keys-is : keys_of (place_in g i) ≡ ordering
      keys-is = place-keys g d.list.held i l

      inside : Inside (nodes s) ordering
      inside = place_inside s g d.list i l

      -- it can be walked
      pub ordering-ready : ReadyKeys lift t memo₁ (place_in g i)
      ordering-ready =
          record {
            keys = place-there s g d.list i l t h.holds h.extends;
            small = d.small;
            moves =
                ap (keys_move (lifted lift) (nodes t)) keys-is
                ∙ keys_move_cong (lifted lift) (lifted lift) (nodes t) (nodes s) ordering (grown-moves (lifted lift) h.extends ordering inside)
                ∙ lists-each (lifted lift) (nodes s) lists d.moves i spot;
            memo_true = h.memo_true;
          }

      -- what is to be added after it
      abbrev after_it : List ℕ → List Node → Placed (List (List ℕ))
      after_it o ms = after_ordering (lifted lift) (nodes s) (drop (i + 1) lists) o ms

      module _ (u memo₂ : List ℕ) (one : Result Ordering Refusal) (v : ShiftedKeys lift t u memo₂ (place_in g i) one) where
        -- what is to be added, ordering i first
        turn_it : shifted_lists (lifted lift) (nodes s) (drop i lists) (nodes t) ≡ and_then (told_keys one (nodes u)) after_it
        turn_it =
            lists-step (lifted lift) (nodes s) lists i (nodes t) spot
            ∙ ap (λ (z : Placed (List ℕ)). and_then (build_of z) after_it)
            (sym (ap (λ (ks : List ℕ). shifted_keys (lifted lift) (nodes t) ks (nodes t)) keys-is ∙ shifted_keys_cong (lifted lift) (lifted lift) (nodes t) (nodes s) ordering (grown-shift (lifted lift) h.extends ordering inside) (nodes t)))
            ∙ ap (λ (z : Placed (List ℕ)). and_then z after_it) (sym v.is)

        -- there is a place for it
        pub list-room : list.count < 32
        list-room = omega (arith, h.counted, few-lists)

        -- one more is done
        pub lists-more : (more : Ordering) → one ≡ Ok more → (r : Orderings) → r ≡ appended list more → ListsTo lift s u memo₂ g r (i + 1)
        unfolding told_keys and_then
        lists-more one₁ f r z =
            let w : ShortOrdering one₁ = v.short one₁ f in
            let new : List ℕ = keys_of one₁ in
            let more : List (List ℕ) = decode list ++ (new ∷ []) in
            let rest : Placed (List (List ℕ)) = shifted_lists (lifted lift) (nodes s) (drop (i + 1) lists) (nodes u) in
            let e : r ≡ encode more = z ∙ ap (appended list) (sym w.coded) ∙ appended-is list new h.short list-room in
            let c : decode r ≡ more = ap decode e ∙ decode-encode more in
            let size = ap (λ (y : List (List ℕ)). length y) c in
            let fit : told_keys one (nodes u) ≡ placed new (nodes u) = rw f in
            record {
              below = omega arith;
              holds = v.holds;
              extends = extends-both h.extends v.extends;
              memo_true = v.memo_true;
              counted = omega (arith, size, length-append (decode list) (new ∷ []), length-decode r, length-decode list, h.counted);
              short = subst Short (sym e) (short-encode more (omega (arith, length-append (decode list) (new ∷ []), length-decode list, list-room)) (short-more (decode list) new (short-all list h.short) (short-size one₁ w)));
              goes =
                  h.goes ∙ ap (following (decode list)) (turn_it ∙ ap (λ (y : Placed (List ℕ)). and_then y after_it) fit)
                  ∙ following-more (decode list) new rest ∙ ap (λ (y : List (List ℕ)). following y rest) (sym c);
            }

        -- there was no room
        pub lists-fail : (j : Refusal) → one ≡ Err j → ShiftedLists lift s u g (Err j)
        unfolding told_keys and_then following told_lists
        lists-fail j f =
            let fit : told_keys one (nodes u) ≡ full = rw f in
            record {
              holds = v.holds;
              extends = extends-both h.extends v.extends;
              is =
                  sym (ap (λ (y : Placed (List (List ℕ))). and_then y (λ os ps. placed (encode os) ps))
                  (h.goes ∙ ap (following (decode list)) (turn_it ∙ ap (λ (y : Placed (List ℕ)). and_then y after_it) fit)));
            }

    -- all done
    pub lists_end : g.count ≤ i → ShiftedLists lift s t g (Ok list)
    unfolding and_then following told_lists
    lists_end l =
        let r = lists-done (lifted lift) (nodes s) lists i (nodes t) (omega (arith, length-decode g)) in
        record {
          holds = h.holds;
          extends = h.extends;
          is =
              ap (λ (y : Orderings). placed y (nodes t)) (sym (ap encode (append-nil (decode list)) ∙ h.short.coded))
              ∙ sym (ap (λ (y : Placed (List (List ℕ))). and_then y (λ os ps. placed (encode os) ps)) (h.goes ∙ ap (following (decode list)) r));
        }
