-- The normal forms of sort keys over a checked arena and a checked group: what the walk asks, and the answer in each case.
use Rattle.std.specs.Prelude.{Ok, Err}
use Rattle.arena.specs.declared.Refusal.{Refusal}
use Rattle.arena.specs.declared.Refusal.TheVariants.{ArenaFull, TooLarge}
use Prim.Native.Nat.{ℕ, suc, ◌*◌, ◌/◌, ◌<◌, ◌≤◌}
use mathlib.Core.Bool.{true, false}
use mathlib.Core.List.{List, [], ◌∷◌}
use mathlib.Core.Path.{◌≡◌, refl, sym, ap, ap₂, ◌∙◌, subst}
use native.Mathlib.Omega.{arith}
use borrow.Author.Tests.{le-leb, lt-leb}
use lib.Dec.{leb}
use lib.ListN.{length, get_or, take, replicate}
use lib.Seq.{take_all}
use Rattle.arena.specs.Node.{Node}
use Rattle.arena.specs.Expression.{Expression, Expressions, lit, expressions, those}
use Rattle.arena.specs.Arena.{Sound, Small, AllSmall, Placed, placed, full, and_then, add_expressions}
use Rattle.arena.specs.Layout.{count, decode as nodes, encode}
use Rattle.arena.specs.Calls.{in_cells}
use Rattle.arena.specs.Inner.{Holds, map_all}
use Rattle.arena.proofs.Growing.{add-expressions}
use Rattle.arena.proofs.Layouts.{length-decode, coded-cells}
use Rattle.arena.proofs.Walking.{memo-none}
use Rattle.classes.specs.Layout.{decode}
use Rattle.classes.specs.Inner.{Held}
use Rattle.questions.specs.Inner.{Marked}
use Rattle.classes.specs.declared.Group.{Group}
use Rattle.normal.specs.Calls.{normal_forms}
use Rattle.sort_keys.specs.Keys.{exprs_of, with_exprs, sorting}
use Rattle.sort_keys.specs.Layout.{keys_of, sorted}
use Rattle.sort_keys.specs.Calls.{SortedIs, sorted_by}
use Rattle.normal.specs.Inner.{Firsts, rewriting}
use Rattle.sort_keys.specs.Inner.{KeysKnown, ReadyKeys, uniform_by, kept_of, told_sorted, SortedAll}
use Rattle.sort_keys.specs.declared.Sorted.{Sorted}
use Rattle.normal.proofs.Calling.{table-inside, rewriting-normals, whole_ready}
use Rattle.normal.proofs.Steps.{ready-small}
use Rattle.sort_keys.proofs.KeyLaws.{without_fewer, with-below, with-fewer, keys-count, exprs-count, expr-at}
use Rattle.sort_keys.proofs.Uniform.{kept-is}

-- what is made of each of those expressions is small
made-small : (F : Expression → Expression) (es : List Expression) (ks : List ℕ) → ((k : ℕ) → k < length ks → Small (F (get_or es (get_or ks k 0) (lit 0)))) → AllSmall (map_all F (those es ks))
unfolding map_all those AllSmall
made-small F es [] h = tt
made-small F es (k ∷ ks) h = (h 0 (omega arith), made-small F es ks (λ j l. h (suc j) (omega arith)))

-- a walk over keys whose expressions are in the arena, by the tables of a checked group
module _ (s : List ℕ) (g : Group) (old : ℕ) (numbers firsts marks : List ℕ) (h : Holds s) (known : KeysKnown (count s) numbers) (v : Held (nodes s) g)
    (all : old ≡ count s) (f : Firsts (decode g) old firsts) (m : Marked (decode g) old marks) where
  -- it can begin, with an empty memo
  pub keys-ready : (n : ℕ) → ReadyKeys old firsts s (replicate n 0) numbers
  keys-ready n =
      record {
        holds = h;
        there = omega arith;
        inside = table-inside s g old firsts h v all f;
        memo_true = memo-none (rewriting old firsts s) (nodes s) n;
        keys = subst (λ (n : ℕ). KeysKnown n numbers) (sym all) known;
      }

  abbrev F : Expression → Expression
  F x = rewriting old firsts s x

  -- what is added
  abbrev made : Expressions
  made = map_all F (those (expressions (nodes s)) (exprs_of (keys_of numbers)))

  forms : add_expressions made (nodes s) ≡ normal_forms (nodes s) (decode g) (exprs_of (keys_of numbers))
  unfolding normal_forms
  forms = ap (λ (xs : Expressions). add_expressions xs (nodes s)) (rewriting-normals s g old firsts h v all f (those (expressions (nodes s)) (exprs_of (keys_of numbers))))

  all_small : AllSmall made
  all_small =
      made-small F (expressions (nodes s)) (exprs_of (keys_of numbers))
      (λ k l. let b : k < length numbers / 2 = omega (arith, exprs-count numbers) in
      rw (expr-at numbers k b) (ready-small old firsts s (replicate 0 0) (get_or numbers (2 * k) 0) (whole_ready s g old firsts h v all f (get_or numbers (2 * k) 0) (known.below k b) 0)))

  -- the outcome of the call
  abbrev outcome : Placed (List ℕ) → SortedIs × List ℕ
  outcome o = in_cells (sorted_by (keys_of numbers) (nodes s) (decode g) o)

  -- the keys that are kept of what was placed
  abbrev kept : List ℕ → List Node → Placed Sorted
  kept es ms = placed (sorted (take 16 (kept_of ms old marks (with_exprs es (keys_of numbers))))) ms

  module _ (t : List ℕ) (out : SortedIs) (a : SortedAll old firsts marks s t numbers out) where
    refused-is : (k : Refusal) → ◌≡◌ {A = SortedIs × List ℕ} (Err k, s) (in_cells (Err k, nodes s))
    unfolding in_cells
    refused-is k = ap {B = SortedIs × List ℕ} (λ (y : List ℕ). (Err k, y)) (sym (coded-cells s h))

    -- there was no room
    pub sort_full : (j : Refusal) → out ≡ Err j → ◌≡◌ {A = SortedIs × List ℕ} (Err ArenaFull, s) (outcome (normal_forms (nodes s) (decode g) (exprs_of (keys_of numbers))))
    unfolding told_sorted and_then sorted_by
    sort_full j z = go (add_expressions made (nodes s)) refl
      where
        none : full ≡ and_then (add_expressions made (nodes s)) kept
        none = sym (ap (λ (o : SortedIs). told_sorted o (nodes t)) z) ∙ a.is

        go : (o : Placed (List ℕ)) → add_expressions made (nodes s) ≡ o → ◌≡◌ {A = SortedIs × List ℕ} (Err ArenaFull, s) (outcome (normal_forms (nodes s) (decode g) (exprs_of (keys_of numbers))))
        go full q = refused-is ArenaFull ∙ ap outcome (sym q ∙ forms)
        go (placed es ms) q = absurd (let e : full ≡ kept es ms = none ∙ ap (λ (o : Placed (List ℕ)). and_then o kept) q in let y : ◌≡◌ {A = ℕ} 0 1 = cc in omega arith)

    module _ (x : Sorted) (z : out ≡ Ok x) where
      some : placed x (nodes t) ≡ and_then (add_expressions made (nodes s)) kept
      unfolding told_sorted
      some = sym (ap (λ (o : SortedIs). told_sorted o (nodes t)) z) ∙ a.is

      -- more than 16 keys were given
      pub sort_over : 16 < length numbers / 2 → ◌≡◌ {A = SortedIs × List ℕ} (Err TooLarge, s) (outcome (normal_forms (nodes s) (decode g) (exprs_of (keys_of numbers))))
      unfolding and_then sorted_by
      sort_over l = go (add_expressions made (nodes s)) refl
        where
          go : (o : Placed (List ℕ)) → add_expressions made (nodes s) ≡ o → ◌≡◌ {A = SortedIs × List ℕ} (Err TooLarge, s) (outcome (normal_forms (nodes s) (decode g) (exprs_of (keys_of numbers))))
          go full q = absurd (let e : placed x (nodes t) ≡ full = some ∙ ap (λ (o : Placed (List ℕ)). and_then o kept) q in let y : ◌≡◌ {A = ℕ} 0 1 = cc in omega arith)
          go (placed es ms) q =
              let c : leb (length (keys_of numbers)) 16 ≡ false = lt-leb (length (keys_of numbers)) 16 (omega (arith, keys-count numbers)) in
              let over : in_cells (Err TooLarge, nodes s) ≡ outcome (placed es ms) = rw c in
              refused-is TooLarge ∙ over ∙ ap outcome (sym q ∙ forms)

      -- the keys
      pub sort_done : length numbers / 2 ≤ 16 → ◌≡◌ {A = SortedIs × List ℕ} (Ok x, t) (outcome (normal_forms (nodes s) (decode g) (exprs_of (keys_of numbers))))
      unfolding and_then sorted_by in_cells
      sort_done l = go (add_expressions made (nodes s)) refl
        where
          go : (o : Placed (List ℕ)) → add_expressions made (nodes s) ≡ o → ◌≡◌ {A = SortedIs × List ℕ} (Ok x, t) (outcome (normal_forms (nodes s) (decode g) (exprs_of (keys_of numbers))))
          go full q = absurd (let e : placed x (nodes t) ≡ full = some ∙ ap (λ (o : Placed (List ℕ)). and_then o kept) q in let y : ◌≡◌ {A = ℕ} 0 1 = cc in omega arith)
          go (placed es ms) q =
              let ks = keys_of numbers in
              let e : placed x (nodes t) ≡ kept es ms = some ∙ ap (λ (o : Placed (List ℕ)). and_then o kept) q in
              let d : nodes t ≡ ms = cc in
              let r : x ≡ sorted (take 16 (kept_of ms old marks (with_exprs es ks))) = cc in
              let sound : Sound ms = subst Sound d a.holds.sound in
              let below = (add-expressions made (nodes s) h.sound all_small es ms q).below in
              let few : length (kept_of ms old marks (with_exprs es ks)) ≤ 16 = omega (arith, without_fewer (uniform_by ms old marks) (with_exprs es ks), with-fewer es ks, keys-count numbers) in
              let i : x ≡ sorted (sorting ms (decode g) (with_exprs es ks)) =
              r
              ∙ ap sorted (take_all 16 (kept_of ms old marks (with_exprs es ks)) few
              ∙ kept-is (nodes s) ms (decode g) old marks v.good (all ∙ sym (length-decode s)) m sound (with_exprs es ks) (with-below (length ms) es ks below)) in
              let c : t ≡ encode ms = sym (coded-cells t a.holds) ∙ ap encode d in
              let b : leb (length ks) 16 ≡ true = le-leb (length ks) 16 (omega (arith, keys-count numbers)) in
              let within : ◌≡◌ {A = SortedIs × List ℕ} (Ok (sorted (sorting ms (decode g) (with_exprs es ks))), encode ms) (outcome (placed es ms)) = rw b in
              ap₂ {C = SortedIs × List ℕ} (λ (x : Sorted) (y : List ℕ). (Ok x, y)) i c ∙ within ∙ ap outcome (sym q ∙ forms)
