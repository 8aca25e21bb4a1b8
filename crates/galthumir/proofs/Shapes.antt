-- What the exported functions share: a call's outcome put into numbers, and the chosen one of two records.
use Prim.Native.Nat.{ℕ, ◌<◌}
use mathlib.Core.List.{List, [], ◌∷◌}
use mathlib.Core.Path.{◌≡◌, refl, ap, ◌∙◌}
use native.Mathlib.Omega.{arith}
use Rattle.std.specs.Prelude.{Ok, Err, Result, Option, Bool, true, false, ◌++◌, map, eqb, ltb, leb, get_or, drop, if◌then◌else◌}
use borrow.Author.Tests.{le-ltb}
use lib.ListN.{length}
use Rattle.arena.specs.declared.Refusal.{Refusal}
use Rattle.arena.specs.Refusals.{refusal, refusal_number, number_of, outcome}
use Rattle.arena.proofs.Refusals.{ok-zero, err-refusal, refused-number, Listed}
use Rattle.laws.specs.Tests.{each}
use Rattle.arena.specs.Node.{Node}
use Rattle.arena.specs.Arena.{Placed, placed, full}
use Rattle.arena.specs.Layout.{decode}
use Rattle.arena.specs.Calls.{in_cells}
use Rattle.classes.specs.Layout.{decode as classes}
use Rattle.classes.specs.declared.Group.{Group}
use Rattle.normal.specs.Calls.{on_checked}
use Rattle.mappings.specs.Lent.{mapping_lent}
use Rattle.mappings.specs.Calls.{project_number}
use Rattle.mappings.proofs.ProjectNumbers.{project-listed}
use Rattle.projection.specs.Calls.{output_of, written_answer, project_expressions, projected_expressions, told_list}
use Rattle.projection_table.specs.Projecting.{project_all}
use Rattle.records.proofs.Numbers.{chosen_number-listed}
use Rattle.records.specs.Chosen.{side_of, number_of as side_number, chosen_part, chosen_number}
use Rattle.answers.specs.Answers.{on_first, side, chosen_in}

-- a call's answer put into numbers, beside the memory that the call leaves
pub on-first : {A B : Type 0} (f : A → B) (o : A × List ℕ) (a : A) (s : List ℕ) (b : B) → ◌≡◌ {A = A × List ℕ} (a, s) o → b ≡ f a → ◌≡◌ {A = B × List ℕ} (b, s) (on_first f o)
unfolding on_first
on-first f o a s b e q = ap (λ x. (x, s)) q ∙ ap (on_first f) e

-- a kind over 9 chooses no side
pub chosen_large : (kind : ℕ) (left right : List ℕ) → 9 < kind → chosen_number kind left right ≡ 12
unfolding chosen_number side_number side_of
chosen_large kind left right l = rw (le-ltb kind 4 (omega arith), le-ltb kind 7 (omega arith), le-ltb kind 10 (omega arith))

module _ (old : List ℕ) (kind : ℕ) (left right : List ℕ) where
  -- a refusal by the kind alone
  pub chosen-unknown : 9 < kind → ◌≡◌ {A = ℕ × List ℕ} (12, old) (chosen_in old kind left right)
  unfolding chosen_in
  chosen-unknown l = rw (chosen_large kind left right l)

  -- a refusal
  pub chosen-refused : (r : Refusal) → outcome (chosen_number kind left right) ≡ Err r → ◌≡◌ {A = ℕ × List ℕ} (refusal_number r, old) (chosen_in old kind left right)
  unfolding chosen_in
  chosen-refused r e =
      let p = err-refusal (chosen_number kind left right) r e in
      let n : refusal_number r ≡ chosen_number kind left right = ap refusal_number p.1 ∙ refused-number (chosen_number kind left right) (chosen_number-listed kind left right) p.0 in
      rw (p.0, n)

  -- a part that is handed back
  pub chosen-done : outcome (chosen_number kind left right) ≡ Ok tt → ◌≡◌ {A = ℕ × List ℕ} (0, side kind ∷ length (chosen_part kind left right) ∷ []) (chosen_in old kind left right)
  unfolding chosen_in
  chosen-done e = rw (ok-zero (chosen_number kind left right) e)

-- ---- the projections of a list

-- the number of the call stands in the table
pub projected-listed : (es out numbers cells : List ℕ) (g : Group) → Listed (projected_expressions es out numbers cells g).0.0
unfolding on_checked project_expressions written_answer in_cells outcome refusal
projected-listed es out numbers cells g =
    go (eqb (project_number cells g numbers) 0) (each (λ k. ltb (get_or es k 0) (length (decode cells))) (length es)) (project_all (decode cells) (classes g) (mapping_lent numbers) es)
  where
    fit : (c : Bool) (ks : List (Option ℕ)) (ms : List Node) → Listed (in_cells {A = ℕ × List ℕ} (if c then ((0, map output_of ks ++ drop (length ks) out), ms) else ((8, out), decode cells))).0.0
    fit true ks ms = refl
    fit false ks ms = refl

    go : (a b : Bool) (p : Placed (List (Option ℕ))) → Listed (if a then in_cells {A = ℕ × List ℕ} (if b then written_answer out (decode cells) p else ((1, out), decode cells)) else ((project_number cells g numbers, out), cells)).0.0
    go true true (placed ks ms) = fit (leb (length ks) (length out)) ks ms
    go true true full = refl
    go true false p = refl
    go false b p = project-listed cells g numbers

-- what a call over a list answers, as the number of its answer
pub list-told : (o : (ℕ × List ℕ) × List ℕ) (r : Result (Unit {0}) Refusal) (n : ℕ) (t s : List ℕ) → ((r, t), s) ≡ told_list o → Listed o.0.0 → n ≡ number_of r → ◌≡◌ {A = (ℕ × List ℕ) × List ℕ} ((n, t), s) o
list-told o r n t s h l e =
    let q : n ≡ o.0.0 = e ∙ ap number_of (ap (λ (x : (Result (Unit {0}) Refusal × List ℕ) × List ℕ). x.0.0) h) ∙ l in
    let p : t ≡ o.0.1 = ap (λ (x : (Result (Unit {0}) Refusal × List ℕ) × List ℕ). x.0.1) h in
    let z : s ≡ o.1 = ap (λ (x : (Result (Unit {0}) Refusal × List ℕ) × List ℕ). x.1) h in
    λ i. ((q i, p i), z i)
