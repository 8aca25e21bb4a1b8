-- Adding the projections of a list of expressions, one after the other, over one table: one expression, how far the walk has come, and its end.
use Rattle.arena.specs.Refusals.{Added}
use Prim.Native.Nat.{ℕ, zero, suc, ◌+◌, ◌<◌, ◌≤◌}
use mathlib.Core.Bool.{Bool, true, false, not}
use mathlib.Core.List.{List, [], ◌∷◌, ◌++◌, map, map-append, append-nil, append_assoc}
use Rattle.std.specs.Prelude.{Option, None, Some, Err, Ok}
use mathlib.Core.Path.{◌≡◌, refl, sym, ap, ◌∙◌, subst}
use native.Mathlib.Decide.{ℕ_discrete}
use native.Mathlib.Numerals.{add-one}
use native.Mathlib.Omega.{arith}
use lib.ListN.{length, get_or, take, drop, drop_of_length-le}
use lib.Seq.{take-suc, take_all, drop-cons}
use Rattle.laws.proofs.Booleans.{true_not_false}
use Rattle.arena.specs.Node.{Node}
use Rattle.arena.specs.Expression.{Expression}
use Rattle.arena.specs.Arena.{Extends, Placed, placed, full, and_then, add_expression}
use Rattle.arena.specs.Layout.{decode as nodes}
use Rattle.arena.specs.Inner.{Holds, told, is_refused}
use Rattle.arena.proofs.Nodes.{extends-none, extends-both, extends-longer}
use Rattle.arena.proofs.Layouts.{length-decode}
use Rattle.projection_table.specs.Projecting.{add_projections}
use Rattle.projection.specs.Inner.{answer_of, Fits, Ready, Settling, Walked, answers_in, told_answers, ReadyOne, WalkedOne, ReadyAll, WalkedAll}
use Rattle.projection_table.specs.Inner.{Says}

-- the projections of expressions, by those of all
abbrev pub projected_by : List (Option Expression) → List ℕ → List (Option Expression)
projected_by xs es = map (λ (e : ℕ). get_or xs e None) es

-- ---- one expression

-- an expression of the list is below 1,024
pub one_below : (s table : List ℕ) (e : ℕ) → ReadyOne s table e → e < 1024
one_below s table e r = omega (arith, r.below, extends-longer r.fits.extends, length-decode s, r.holds.few)

module _ (s table : List ℕ) (e : ℕ) where
  -- where the table says that there is no projection, nothing is added
  nothing : get_or table e 0 ≡ 0 → (os : List Node) (xs : List (Option Expression)) → Fits os xs (nodes s) table → e < length os → told_answers true (answers_in table (e ∷ [])) (nodes s) ≡ add_projections (projected_by xs (e ∷ [])) (nodes s)
  unfolding told_answers add_projections and_then answer_of Says
  nothing z os xs f l =
      let n : get_or xs e None ≡ None = subst (Says os xs (nodes s) e) z (f.says e l) in
      rw (z, n)

  -- so the walk is done
  pub one_none : ReadyOne s table e → get_or table e 0 ≡ 0 → WalkedOne s table s table e true
  one_none r z =
      record {
        holds = r.holds;
        extends = extends-none (nodes s);
        settling = λ j h. refl;
        settled = λ t q. omega (arith, z, q);
        added = λ os xs f l. record { fits = f; is = nothing z os xs f l };
      }

  -- where there is one, it can be walked
  pub one-ready : ReadyOne s table e → (get_or table e 0 ≡ 0 → ⊥) → Ready s table e
  one-ready r z = record { olds = r.olds; all = r.all; holds = r.holds; fits = r.fits; below = r.below; projects = z }

  -- it was walked
  module _ (t table' : List ℕ) where
    told-one : (answer : Added) (x : Expression) (xs : List (Option Expression)) → ((i : ℕ) → answer ≡ Ok i → get_or table' e 0 ≡ i + 2) → get_or xs e None ≡ Some x → told answer (nodes t) ≡ add_expression x (nodes s)
        → told_answers (not (is_refused answer)) (answers_in table' (e ∷ [])) (nodes t) ≡ add_projections (projected_by xs (e ∷ [])) (nodes s)
    unfolding told_answers add_projections and_then told is_refused answer_of
    told-one (Ok i) x xs at n q =
        let two : i + 2 ≡ suc (suc i) = omega arith in
        rw (at i refl, two, n, ← q)
    told-one (Err k) x xs at n q = rw (n, ← q)

    settled-one : (answer : Added) → ((i : ℕ) → answer ≡ Ok i → get_or table' e 0 ≡ i + 2) → not (is_refused answer) ≡ true → get_or table' e 0 ≡ 1 → ⊥
    unfolding is_refused
    settled-one (Ok i) at r q = omega (arith, at i refl, q)
    settled-one (Err k) at r q = true_not_false r refl

    pub one-walked : (answer : Added) → Walked s table t table' e answer → WalkedOne s table t table' e (not (is_refused answer))
    one-walked answer w =
        record {
          holds = w.holds;
          extends = w.extends;
          settling = w.settling;
          settled = settled-one answer w.settled;
          added =
              λ os xs f l. let a = w.added os xs f l in
              record { fits = a.fits; is = told-one answer a.expression xs w.settled a.known a.is };
        }

-- ---- the definition, one projection after the other

-- what was placed, after what had been
abbrev pub after : List (Option ℕ) → Placed (List (Option ℕ)) → Placed (List (Option ℕ))
after done o = and_then o (λ ks ms. placed (done ++ ks) ms)

-- the first projection, then the others
first_then : (x : Option Expression) (xs : List (Option Expression)) (ns : List Node) → add_projections (x ∷ xs) ns ≡ and_then (add_projections (x ∷ []) ns) (λ ks ms. after ks (add_projections xs ms))
unfolding add_projections and_then
first_then None xs ns = refl
first_then (Some x) xs ns = go (add_expression x ns)
  where
    go : (o : Placed ℕ)
        → and_then o (λ k ms. and_then (add_projections xs ms) (λ ks os. placed (Some k ∷ ks) os))
        ≡ and_then (and_then o (λ k ms. and_then (add_projections [] ms) (λ ks os. placed (Some k ∷ ks) os))) (λ ks ms. after ks (add_projections xs ms))
    go (placed k ms) = refl
    go full = refl

-- nothing before
after_none : (o : Placed (List (Option ℕ))) → o ≡ after [] o
unfolding and_then
after_none (placed ks ms) = refl
after_none full = refl

-- two lists before
after_both : (done more : List (Option ℕ)) (o : Placed (List (Option ℕ))) → after done (after more o) ≡ after (done ++ more) o
unfolding and_then
after_both done more (placed ks ms) = ap (λ (l : List (Option ℕ)). placed l ms) (sym (append_assoc done more ks))
after_both done more full = refl

-- ---- the loop

-- the answers of the expressions before k are the same in a table that only settled
answers-kept : (table table' : List ℕ) → Settling table table' → (es : List ℕ) (k : ℕ) → ((j : ℕ) → j < k → get_or table (get_or es j 0) 0 ≡ 1 → ⊥) → answers_in table' (take k es) ≡ answers_in table (take k es)
answers-kept table table' s es zero h = refl
answers-kept table table' s [] (suc k) h = refl
answers-kept table table' s (e ∷ es) (suc k) h = rw (s e (h 0 (omega arith)), answers-kept table table' s es k (λ j l. h (suc j) (omega arith)))

-- one answer more
pub answers-more : (table es : List ℕ) (k : ℕ) → k < length es → answers_in table (take (k + 1) es) ≡ answers_in table (take k es) ++ answers_in table (get_or es k 0 ∷ [])
answers-more table es k l =
    ap (λ (n : ℕ). answers_in table (take n es)) (add-one k)
    ∙ ap (answers_in table) (take-suc es k 0 l)
    ∙ map-append (λ (e : ℕ). answer_of (get_or table e 0)) (take k es) (get_or es k 0 ∷ [])

-- k expressions are done: the table has their answers, and the projections of the others are to be added
pub record DoneTo (os : List Node) (xs : List (Option Expression)) (s t table' es : List ℕ) (k : ℕ) : Type 0 where
  pub fits : Fits os xs (nodes t) table'
  pub goes : add_projections (projected_by xs es) (nodes s) ≡ after (answers_in table' (take k es)) (add_projections (projected_by xs (drop k es)) (nodes t))

-- and so whichever old nodes and projections the table fitted
pub record AllTo (s table t table' es : List ℕ) (k : ℕ) : Type 0 where
  pub within : k ≤ length es
  pub holds : Holds t
  pub extends : Extends (nodes s) (nodes t)
  pub settled : (j : ℕ) → j < k → get_or table' (get_or es j 0) 0 ≡ 1 → ⊥
  pub done : (os : List Node) (xs : List (Option Expression)) → Fits os xs (nodes s) table → ((j : ℕ) → j < length es → get_or es j 0 < length os) → DoneTo os xs s t table' es k

module _ (s table es : List ℕ) (d : ReadyAll s table es) where
  -- nothing done
  pub all-begin : AllTo s table s table es 0
  all-begin =
      record {
        within = omega arith;
        holds = d.holds;
        extends = extends-none (nodes s);
        settled = λ j l. absurd (omega arith);
        done = λ os xs f b. record { fits = f; goes = after_none (add_projections (projected_by xs es) (nodes s)) };
      }

  module _ (t table₁ : List ℕ) (k : ℕ) (h : AllTo s table t table₁ es k) where
    -- all done
    told_end : length es ≤ k → (xs : List (Option Expression)) → add_projections (projected_by xs es) (nodes s) ≡ after (answers_in table₁ (take k es)) (add_projections (projected_by xs (drop k es)) (nodes t))
        → told_answers true (answers_in table₁ es) (nodes t) ≡ add_projections (projected_by xs es) (nodes s)
    unfolding add_projections and_then told_answers
    told_end l xs e =
        sym (e
        ∙ ap (λ (rest : List ℕ). after (answers_in table₁ (take k es)) (add_projections (projected_by xs rest) (nodes t))) (drop_of_length-le es l)
        ∙ ap (λ (ks : List (Option ℕ)). placed ks (nodes t)) (append-nil (answers_in table₁ (take k es)) ∙ ap (answers_in table₁) (take_all k es l)))

    pub all_end : length es ≤ k → WalkedAll s table t table₁ es true
    all_end l =
        record {
          holds = h.holds;
          extends = h.extends;
          added = λ os xs f b. let a = h.done os xs f b in record { fits = a.fits; is = told_end l xs a.goes };
        }

    module _ (l : k < length es) where
      -- expression k can be walked
      pub all-ready : ReadyOne t table₁ (get_or es k 0)
      all-ready = record { olds = d.olds; all = d.all; holds = h.holds; fits = (h.done d.olds d.all d.fits d.below).fits; below = d.below k l }

      module _ (u table₂ : List ℕ) where
        -- what is to be added, this one first
        turn : (ok : Bool) (xs : List (Option Expression)) → told_answers ok (answers_in table₂ (get_or es k 0 ∷ [])) (nodes u) ≡ add_projections (projected_by xs (get_or es k 0 ∷ [])) (nodes t)
            → add_projections (projected_by xs (drop k es)) (nodes t) ≡ and_then (told_answers ok (answers_in table₂ (get_or es k 0 ∷ [])) (nodes u)) (λ ks ms. after ks (add_projections (projected_by xs (drop (k + 1) es)) ms))
        turn ok xs q =
            ap (λ (rest : List ℕ). add_projections (projected_by xs rest) (nodes t)) (drop-cons es k 0 l ∙ ap (λ (n : ℕ). get_or es k 0 ∷ drop n es) (sym (add-one k)))
            ∙ first_then (get_or xs (get_or es k 0) None) (projected_by xs (drop (k + 1) es)) (nodes t)
            ∙ ap (λ (o : Placed (List (Option ℕ))). and_then o (λ ks ms. after ks (add_projections (projected_by xs (drop (k + 1) es)) ms))) (sym q)

        -- there was no room
        told-full : (xs : List (Option Expression)) → add_projections (projected_by xs es) (nodes s) ≡ after (answers_in table₁ (take k es)) (add_projections (projected_by xs (drop k es)) (nodes t))
            → told_answers false (answers_in table₂ (get_or es k 0 ∷ [])) (nodes u) ≡ add_projections (projected_by xs (get_or es k 0 ∷ [])) (nodes t)
            → told_answers false (answers_in table₂ es) (nodes u) ≡ add_projections (projected_by xs es) (nodes s)
        unfolding and_then told_answers
        told-full xs e q = sym (e ∙ ap (after (answers_in table₁ (take k es))) (turn false xs q))

        pub all-full : WalkedOne t table₁ u table₂ (get_or es k 0) false → WalkedAll s table u table₂ es false
        all-full w =
            record {
              holds = w.holds;
              extends = extends-both h.extends w.extends;
              added =
                  λ os xs f b. let a = h.done os xs f b in let one = w.added os xs a.fits (b k l) in
                  record { fits = one.fits; is = told-full xs a.goes one.is };
            }

        -- one more is done
        module _ (w : WalkedOne t table₁ u table₂ (get_or es k 0) true) where
          goes-more : (xs : List (Option Expression)) → add_projections (projected_by xs es) (nodes s) ≡ after (answers_in table₁ (take k es)) (add_projections (projected_by xs (drop k es)) (nodes t))
              → told_answers true (answers_in table₂ (get_or es k 0 ∷ [])) (nodes u) ≡ add_projections (projected_by xs (get_or es k 0 ∷ [])) (nodes t)
              → add_projections (projected_by xs es) (nodes s) ≡ after (answers_in table₂ (take (k + 1) es)) (add_projections (projected_by xs (drop (k + 1) es)) (nodes u))
          unfolding and_then told_answers
          goes-more xs e q =
              e
              ∙ ap (after (answers_in table₁ (take k es))) (turn true xs q)
              ∙ after_both (answers_in table₁ (take k es)) (answers_in table₂ (get_or es k 0 ∷ [])) (add_projections (projected_by xs (drop (k + 1) es)) (nodes u))
              ∙ ap (λ (done : List (Option ℕ)). after done (add_projections (projected_by xs (drop (k + 1) es)) (nodes u)))
              (sym (answers-more table₂ es k l ∙ ap (λ (done : List (Option ℕ)). done ++ answers_in table₂ (get_or es k 0 ∷ [])) (answers-kept table₁ table₂ w.settling es k h.settled)))

          settled-more : (j : ℕ) → j < k + 1 → get_or table₂ (get_or es j 0) 0 ≡ 1 → ⊥
          settled-more j b q = at (ℕ_discrete j k)
            where
              at : Dec (j ≡ k) → ⊥
              at (yes e) = w.settled refl (subst (λ (i : ℕ). get_or table₂ (get_or es i 0) 0 ≡ 1) e q)
              at (no n) = let old = h.settled j (omega arith) in old (sym (w.settling (get_or es j 0) old) ∙ q)

          pub all_more : AllTo s table u table₂ es (k + 1)
          all_more =
              record {
                within = omega arith;
                holds = w.holds;
                extends = extends-both h.extends w.extends;
                settled = settled-more;
                done =
                    λ os xs f b. let a = h.done os xs f b in let one = w.added os xs a.fits (b k l) in
                    record { fits = one.fits; goes = goes-more xs a.goes one.is };
              }
