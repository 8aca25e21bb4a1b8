-- The walk over the sources' normal forms: how far the loop has come, and what is answered at its end.
use Rattle.arena.specs.declared.Refusal.{Refusal}
use Rattle.arena.specs.Refusals.{Added}
use Rattle.std.specs.Prelude.{Err, Ok}
use Prim.Native.Nat.{ℕ, ◌+◌, ◌<◌, ◌≤◌}
use mathlib.Core.Bool.{true, false}
use mathlib.Core.List.{List, [], ◌∷◌, ◌++◌, append-nil}
use mathlib.Core.Path.{◌≡◌, sym, ap, ◌∙◌, subst}
use native.Mathlib.Numerals.{add-one}
use native.Mathlib.Omega.{arith}
use lib.ListN.{length, set, take, drop, length-set}
use lib.Seq.{drop-cons, drop-length, take-suc-set}
use Rattle.arena.specs.Node.{Node}
use Rattle.arena.specs.Expression.{Expression, Expressions, expressions, expression_at, those}
use Rattle.arena.specs.Arena.{Extends, Placed, placed, and_then, add_expression, add_expressions}
use Rattle.arena.specs.Layout.{decode as nodes}
use Rattle.arena.specs.Inner.{Holds, told, Memo, Walked, map_all}
use Rattle.arena.proofs.Nodes.{extends-none, extends-both, extends-longer}
use Rattle.arena.proofs.Trees.{expression-kept}
use Rattle.arena.proofs.Layouts.{length-decode}
use Rattle.arena.proofs.Walking.{prefixed, prefixed-none, prefixed-more}
use Rattle.normal.specs.Inner.{rewriting, Ready}
use Rattle.normal.proofs.Steps.{same-rewriting, same-walked}
use Rattle.mappings.specs.Mapping.{sources}
use Rattle.mappings.specs.Layout.{decode as mapping}
use Rattle.mappings.specs.declared.Mapping.{Mapping}
use Rattle.group_projection.specs.Inner.{FormsReady, Formed}
use Rattle.mappings.proofs.Targets.{decode-sources}
use Rattle.mappings.proofs.PlaceReads.{read_in, read-source}

-- k sources are done: their normal forms are in the arena, their numbers stand first in the table, and the rest is to be added
pub record FormedTo (old : ℕ) (firsts s : List ℕ) (m : Mapping) (t memo numbers : List ℕ) (k : ℕ) : Type 0 where
  pub holds : Holds t
  pub extends : Extends (nodes s) (nodes t)
  pub memo_true : Memo (rewriting old firsts s) (nodes t) memo
  pub long : length numbers ≡ 64
  pub goes : add_expressions (map_all (rewriting old firsts s) (those (expressions (nodes s)) (sources (mapping m)))) (nodes s)
      ≡ prefixed (take k numbers) (add_expressions (map_all (rewriting old firsts s) (those (expressions (nodes s)) (drop k (sources (mapping m))))) (nodes t))

module _ (old : ℕ) (firsts s : List ℕ) (m : Mapping) (d : FormsReady old firsts s m) where
  -- the expressions of the sources, and what they are rewritten to
  abbrev exprs : List ℕ
  exprs = sources (mapping m)

  abbrev F : Expression → Expression
  F x = rewriting old firsts s x

  abbrev rewritten_from : ℕ → Expressions
  rewritten_from k = map_all F (those (expressions (nodes s)) (drop k exprs))

  -- nothing done
  pub forms-begin : (memo numbers : List ℕ) → Memo F (nodes s) memo → length numbers ≡ 64 → FormedTo old firsts s m s memo numbers 0
  forms-begin memo numbers t l =
      record {
        holds = d.holds;
        extends = extends-none (nodes s);
        memo_true = t;
        long = l;
        goes = prefixed-none (add_expressions (rewritten_from 0) (nodes s));
      }

  -- source k
  module _ (t memo numbers : List ℕ) (k : ℕ) (h : FormedTo old firsts s m t memo numbers k) (l : k < m.count) where
    abbrev expr : ℕ
    expr = (read_in m k).expr

    -- it is an old node
    expr-below : expr < old
    expr-below = omega (arith, read-source m k l, d.below k (omega (arith, decode-sources m)))

    -- it can be walked
    pub form-ready : Ready old firsts t memo expr
    form-ready =
        record {
          holds = h.holds;
          there = omega (arith, d.there, length-decode s, length-decode t, extends-longer h.extends);
          inside = d.inside;
          below = expr-below;
          memo_true = subst (λ (G : Expression → Expression). Memo G (nodes t) memo) (sym (same-rewriting old s d.there firsts t h.extends)) h.memo_true;
        }

    -- its expression is as it was
    same : expression_at (nodes t) expr ≡ expression_at (nodes s) expr
    same = expression-kept h.extends expr (omega (arith, expr-below, d.there, length-decode s))

    -- the rest begins with it
    rest : drop k exprs ≡ expr ∷ drop (k + 1) exprs
    rest = drop-cons exprs k 0 (omega (arith, decode-sources m)) ∙ rw (add-one, read-source m k l)

    -- what is added after it
    abbrev after : ℕ → List Node → Placed (List ℕ)
    after i ms = and_then (add_expressions (rewritten_from (k + 1)) ms) (λ ks os. placed (i ∷ ks) os)

    -- what is to be added, source k first
    turn : add_expressions (rewritten_from k) (nodes t) ≡ and_then (add_expression (F (expression_at (nodes s) expr)) (nodes t)) after
    unfolding add_expressions map_all those
    turn = rw rest

    module _ (u memo₂ : List ℕ) (a : Added) (v : Walked (rewriting old firsts t) t u memo₂ expr a) where
      -- what was walked, by the rewriting of the beginning
      added : add_expression (F (expression_at (nodes s) expr)) (nodes t) ≡ told a (nodes u)
      added =
          ap (λ (x : Expression). add_expression (F x) (nodes t)) (sym same)
          ∙ ap (λ (G : Expression → Expression). add_expression (G (expression_at (nodes t) expr)) (nodes t)) (sym (same-rewriting old s d.there firsts t h.extends))
          ∙ sym v.grew.is

      -- what is to be added, by its answer
      goes_on : add_expressions (rewritten_from 0) (nodes s) ≡ prefixed (take k numbers) (and_then (told a (nodes u)) after)
      goes_on = h.goes ∙ ap (prefixed (take k numbers)) (turn ∙ ap (λ (z : Placed ℕ). and_then z after) added)

      -- one more is done
      pub forms-more : m.count ≤ 64 → (i : ℕ) → a ≡ Ok i → FormedTo old firsts s m u memo₂ (set numbers k i) (k + 1)
      unfolding told and_then
      forms-more few i q =
          let e : take k numbers ++ (i ∷ []) ≡ take (k + 1) (set numbers k i) = sym (rw add-one (take-suc-set numbers k i (omega (arith, h.long)))) in
          record {
            holds = v.grew.holds;
            extends = extends-both h.extends v.grew.extends;
            memo_true = (same-walked old s d.there firsts t u memo₂ expr a h.extends v).memo_true;
            long = length-set numbers k i ∙ h.long;
            goes =
                goes_on ∙ ap (λ (b : Added). prefixed (take k numbers) (and_then (told b (nodes u)) after)) q
                ∙ prefixed-more (take k numbers) i (add_expressions (rewritten_from (k + 1)) (nodes u))
                ∙ ap (λ (l : List ℕ). prefixed l (add_expressions (rewritten_from (k + 1)) (nodes u))) e;
          }

      -- there was no room
      pub forms-fail : (j : Refusal) → a ≡ Err j → (js : List ℕ) → Formed old firsts s u exprs false js
      unfolding told and_then prefixed
      forms-fail j q js =
          record {
            holds = v.grew.holds;
            extends = extends-both h.extends v.grew.extends;
            is = sym (goes_on ∙ ap (λ (b : Added). prefixed (take k numbers) (and_then (told b (nodes u)) after)) q);
          }

  -- all done
  pub forms_end : (t memo numbers : List ℕ) (k : ℕ) → FormedTo old firsts s m t memo numbers k → k ≡ m.count → Formed old firsts s t exprs true (take m.count numbers)
  unfolding prefixed add_expressions map_all those
  forms_end t memo numbers k h e =
      let c : k ≡ length exprs = e ∙ sym (decode-sources m) in
      let r : drop k exprs ≡ [] = rw c (drop-length exprs) in
      let a : add_expressions (rewritten_from 0) (nodes s) ≡ placed (take k numbers) (nodes t) = h.goes ∙ rw (r, append-nil) in
      record {
        holds = h.holds;
        extends = h.extends;
        is = sym (a ∙ ap (λ (n : ℕ). placed (take n numbers) (nodes t)) e);
      }
