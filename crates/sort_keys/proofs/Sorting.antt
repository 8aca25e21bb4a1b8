-- The walk over sort keys: how far the loop has come, and what is answered at its end.
use Rattle.arena.specs.Refusals.{Added}
use Rattle.arena.specs.declared.Refusal.{Refusal}
use Rattle.std.specs.Prelude.{if◌then◌else◌, Err, Ok}
use Prim.Native.Nat.{ℕ, ◌+◌, ◌*◌, ◌/◌, ◌<◌, ◌≤◌}
use mathlib.Core.Bool.{Bool, true, false}
use mathlib.Core.List.{List, [], ◌∷◌, ◌++◌, append-nil}
use mathlib.Core.Path.{◌≡◌, refl, sym, ap, ◌∙◌, subst}
use native.Mathlib.Decide.{ℕ_discrete}
use native.Mathlib.Numerals.{add-one}
use native.Mathlib.Omega.{arith}
use lib.ListN.{length, get_or, take, drop, length-append, get_or-append}
use lib.Seq.{drop-cons, drop-length, get_or_at}
use Rattle.arena.specs.Node.{Node}
use Rattle.arena.specs.Expression.{Expression, Expressions, expressions, expression_at, those}
use Rattle.arena.specs.Arena.{Extends, Placed, placed, full, and_then, add_expression, add_expressions}
use Rattle.arena.specs.Layout.{decode}
use Rattle.arena.specs.Inner.{Holds, Known, told, Memo, Walked, map_all}
use Rattle.arena.proofs.Nodes.{extends-none, extends-both, extends-longer}
use Rattle.arena.proofs.Trees.{expression-kept}
use Rattle.arena.proofs.Layouts.{length-decode}
use Rattle.arena.proofs.Walking.{prefixed, prefixed-none, prefixed-more, grew-number}
use Rattle.sort_keys.specs.Keys.{Key, exprs_of, with_exprs}
use Rattle.sort_keys.specs.Layout.{keys_of, sorted}
use Rattle.normal.specs.Inner.{rewriting, Ready}
use Rattle.sort_keys.specs.Inner.{ReadyKeys, uniform_by, pushed, kept_key, without, kept_of, told_sorted, SortedAll}
use Rattle.sort_keys.specs.declared.Sorted.{Sorted}
use Rattle.normal.proofs.Steps.{same-rewriting, same-walked, ready-small}
use Rattle.sort_keys.proofs.KeyLaws.{pushed-key, without-append, with-below, with-more, keys-count, exprs-count, key-at, expr-at}
use Rattle.sort_keys.proofs.Uniform.{kept-kept}

-- k keys are done: their normal forms are in the arena, those that are kept are answered, and the rest is to be added
pub record SortedTo (old : ℕ) (firsts marks s t memo numbers : List ℕ) (out : Sorted) (k : ℕ) : Type 0 where
  pub holds : Holds t
  pub extends : Extends (decode s) (decode t)
  pub memo_true : Memo (rewriting old firsts s) (decode t) memo
  pub done : List ℕ
  pub counted : length done ≡ k
  pub below : (j : ℕ) → j < length done → get_or done j 0 < length (decode t)
  pub out-is : out ≡ sorted (take 16 (kept_of (decode t) old marks (with_exprs done (keys_of numbers))))
  pub goes : add_expressions (map_all (rewriting old firsts s) (those (expressions (decode s)) (exprs_of (keys_of numbers)))) (decode s)
      ≡ prefixed done (add_expressions (map_all (rewriting old firsts s) (those (expressions (decode s)) (drop k (exprs_of (keys_of numbers))))) (decode t))

-- one more key at the end of those that are kept
kept_more : (ns : List Node) (old : ℕ) (marks : List ℕ) (ks : List Key) (e options : ℕ)
    → kept_key ns old marks (sorted (take 16 (kept_of ns old marks ks))) e options ≡ sorted (take 16 (kept_of ns old marks (ks ++ (record { expr = e; options = options } ∷ []))))
unfolding kept_key without
kept_more ns old marks ks e options = rw (without-append (uniform_by ns old marks) ks (record { expr = e; options = options } ∷ [])) (go (uniform_by ns old marks e))
  where
    k : Key
    k = record { expr = e; options = options }

    go : (b : Bool) → (if b then sorted (take 16 (kept_of ns old marks ks)) else pushed (sorted (take 16 (kept_of ns old marks ks))) e options) ≡ sorted (take 16 (kept_of ns old marks ks ++ (if b then [] else k ∷ [])))
    go true = ap (λ (l : List Key). sorted (take 16 l)) (sym (append-nil (kept_of ns old marks ks)))
    go false = pushed-key (kept_of ns old marks ks) e options

module _ (old : ℕ) (firsts marks s memo numbers : List ℕ) (d : ReadyKeys old firsts s memo numbers) where
  -- the expressions of the keys, and what they are rewritten to
  abbrev exprs : List ℕ
  exprs = exprs_of (keys_of numbers)

  abbrev F : Expression → Expression
  F x = rewriting old firsts s x

  abbrev rewritten_from : ℕ → Expressions
  rewritten_from k = map_all F (those (expressions (decode s)) (drop k exprs))

  -- nothing done
  pub sorted-begins : (out : Sorted) → out ≡ sorted [] → SortedTo old firsts marks s s memo numbers out 0
  unfolding with_exprs without
  sorted-begins out e =
      record {
        holds = d.holds;
        extends = extends-none (decode s);
        memo_true = d.memo_true;
        done = [];
        counted = refl;
        below = λ j l. absurd (omega arith);
        out-is = e;
        goes = prefixed-none (add_expressions (rewritten_from 0) (decode s));
      }

  -- key k
  module _ (t memo₁ : List ℕ) (out : Sorted) (k : ℕ) (h : SortedTo old firsts marks s t memo₁ numbers out k) (l : k < length numbers / 2) where
    abbrev expr : ℕ
    expr = get_or numbers (2 * k) 0

    abbrev options : ℕ
    options = get_or numbers (2 * k + 1) 0

    -- it can be walked
    pub key-ready : Ready old firsts t memo₁ expr
    key-ready =
        record {
          holds = h.holds;
          there = omega (arith, d.there, length-decode s, length-decode t, extends-longer h.extends);
          inside = d.inside;
          below = d.keys.below k l;
          memo_true = subst (λ (G : Expression → Expression). Memo G (decode t) memo₁) (sym (same-rewriting old s d.there firsts t h.extends)) h.memo_true;
        }

    -- its expression is as it was
    same : expression_at (decode t) expr ≡ expression_at (decode s) expr
    same = expression-kept h.extends expr (omega (arith, d.keys.below k l, d.there, length-decode s))

    -- the rest begins with it
    rest : drop k exprs ≡ expr ∷ drop (k + 1) exprs
    rest = drop-cons exprs k 0 (omega (arith, exprs-count numbers)) ∙ rw (add-one, expr-at numbers k l)

    -- what is added after it
    abbrev after : ℕ → List Node → Placed (List ℕ)
    after i ms = and_then (add_expressions (rewritten_from (k + 1)) ms) (λ ks os. placed (i ∷ ks) os)

    -- what is to be added, key k first
    turn : add_expressions (rewritten_from k) (decode t) ≡ and_then (add_expression (F (expression_at (decode s) expr)) (decode t)) after
    unfolding add_expressions map_all those
    turn = rw rest

    module _ (u memo₂ : List ℕ) where
      -- what was walked, by the rewriting of the beginning
      added : (o : Placed ℕ) → o ≡ add_expression (rewriting old firsts t (expression_at (decode t) expr)) (decode t) → add_expression (F (expression_at (decode s) expr)) (decode t) ≡ o
      added o e =
          ap (λ (x : Expression). add_expression (F x) (decode t)) (sym same)
          ∙ ap (λ (G : Expression → Expression). add_expression (G (expression_at (decode t) expr)) (decode t)) (sym (same-rewriting old s d.there firsts t h.extends)) ∙ sym e

      module _ (a : Added) (i : ℕ) (q : a ≡ Ok i) (v : Walked (rewriting old firsts t) t u memo₂ expr a) where
        w : Walked (rewriting old firsts t) t u memo₂ expr (Ok i)
        w = subst (Walked (rewriting old firsts t) t u memo₂ expr) q v

        -- the answer is a number of the arena
        answer-below : i < length (decode u)
        answer-below = (grew-number (rewriting old firsts t) (rewriting old firsts t (expression_at (decode t) expr)) t u i h.holds (ready-small old firsts t memo₁ expr key-ready) w.grew).0

        -- it can be kept
        pub key-known : (Known u i × (old ≤ 1024)) × (options ≤ 3)
        key-known = (
          (
            record { holds = w.grew.holds; below = rw (length-decode u) at answer-below },
            omega (arith, d.there, d.holds.few),
          ),
          d.keys.options k l,
        )

        -- one more is done
        pub sorted_more : (next : Sorted) → next ≡ kept_key (decode u) old marks out i options → SortedTo old firsts marks s u memo₂ numbers next (k + 1)
        unfolding told and_then
        sorted_more next e =
            let x = w.grew.extends in
            let es = h.done in
            let ks = keys_of numbers in
            let few : length es < length ks = omega (arith, h.counted, keys-count numbers) in
            let same_keys : kept_of (decode u) old marks (with_exprs es ks) ≡ kept_of (decode t) old marks (with_exprs es ks) =
            kept-kept x old marks (with_exprs es ks) (with-below (length (decode t)) es ks h.below) in
            let o : (get_or ks (length es) (record { expr = 0; options = 0 })).options ≡ options = rw h.counted (ap (λ (c : Key). c.options) (key-at numbers k l)) in
            let m : with_exprs (es ++ (i ∷ [])) ks ≡ with_exprs es ks ++ (record { expr = i; options = options } ∷ []) =
            with-more es ks i (record { expr = 0; options = 0 }) few ∙ ap (λ (n : ℕ). with_exprs es ks ++ (record { expr = i; options = n } ∷ [])) o in
            record {
              holds = w.grew.holds;
              extends = extends-both h.extends x;
              memo_true = (same-walked old s d.there firsts t u memo₂ expr (Ok i) h.extends w).memo_true;
              done = es ++ (i ∷ []);
              counted = length-append es (i ∷ []) ∙ rw h.counted;
              below = λ j b. at j b (ℕ_discrete j (length es));
              out-is =
                  e ∙ ap (λ (z : Sorted). kept_key (decode u) old marks z i options) (h.out-is ∙ ap (λ (z : List Key). sorted (take 16 z)) (sym same_keys))
                  ∙ kept_more (decode u) old marks (with_exprs es ks) i options ∙ ap (λ (z : List Key). sorted (take 16 (kept_of (decode u) old marks z))) (sym m);
              goes = h.goes ∙ ap (prefixed es) (turn ∙ ap (λ (z : Placed ℕ). and_then z after) (added (placed i (decode u)) w.grew.is)) ∙ prefixed-more es i (add_expressions (rewritten_from (k + 1)) (decode u));
            }
          where
            at : (j : ℕ) → j < length (h.done ++ (i ∷ [])) → Dec (j ≡ length h.done) → get_or (h.done ++ (i ∷ [])) j 0 < length (decode u)
            at j b (yes q) = rw (q, get_or_at h.done i [] 0 (length h.done) refl) answer-below
            at j b (no q) =
                let c : j < length h.done = omega (arith, length-append h.done (i ∷ [])) in
                rw (get_or-append h.done (i ∷ []) 0 j c) (omega (arith, h.below j c, extends-longer w.grew.extends))

      -- there was no room
      pub sorted_fails : (a : Added) (j : Refusal) → a ≡ Err j → Walked (rewriting old firsts t) t u memo₂ expr a → SortedAll old firsts marks s u numbers (Err j)
      unfolding told and_then prefixed told_sorted
      sorted_fails a j q v =
          let w : Walked (rewriting old firsts t) t u memo₂ expr (Err j) = subst (Walked (rewriting old firsts t) t u memo₂ expr) q v in
          record {
            holds = w.grew.holds;
            extends = extends-both h.extends w.grew.extends;
            is = sym (ap (λ (z : Placed (List ℕ)). and_then z (λ es ms. placed (sorted (take 16 (kept_of ms old marks (with_exprs es (keys_of numbers))))) ms)) (h.goes ∙ ap (prefixed h.done) (turn ∙ ap (λ (z : Placed ℕ). and_then z after) (added full w.grew.is))));
          }

  -- all done
  pub sorted-ends : (t memo₁ : List ℕ) (out : Sorted) (k : ℕ) → SortedTo old firsts marks s t memo₁ numbers out k → k ≡ length numbers / 2 → SortedAll old firsts marks s t numbers (Ok out)
  unfolding told_sorted prefixed add_expressions map_all those and_then sorted
  sorted-ends t memo₁ out k h e =
      let c : k ≡ length exprs = e ∙ sym (exprs-count numbers) in
      let r : drop k exprs ≡ [] = rw c (drop-length exprs) in
      let a : add_expressions (rewritten_from 0) (decode s) ≡ placed h.done (decode t) = h.goes ∙ rw (r, append-nil) in
      record {
        holds = h.holds;
        extends = h.extends;
        is =
            ap (λ (z : Sorted). told_sorted (Ok z) (decode t)) h.out-is
            ∙ sym (ap (λ (z : Placed (List ℕ)). and_then z (λ es ms. placed (sorted (take 16 (kept_of ms old marks (with_exprs es (keys_of numbers))))) ms)) a);
      }
