-- The answers of a list in the output, and the whole call on a list over what is checked already.
use Prim.Native.Nat.{ℕ, zero, suc, ◌+◌, ◌-◌, ◌<◌, ◌≤◌}
use mathlib.Core.Bool.{Bool, true, false}
use mathlib.Core.List.{List, [], ◌∷◌, ◌++◌, map, map-append}
use mathlib.Core.Path.{◌≡◌, refl, sym, ap, ap₂, ◌∙◌}
use native.Mathlib.Numerals.{add-one}
use native.Mathlib.Omega.{arith}
use borrow.Author.Tests.{le-leb, lt-leb}
use lib.Dec.{leb}
use lib.ListN.{length, get_or, set, take, drop, length-map, length-append, length-drop}
use lib.Seq.{length-take-le, take_all, drop-cons, set_at, append_snoc}
use Rattle.arena.specs.Layout.{count, decode as nodes}
use Rattle.arena.specs.Calls.{in_cells}
use Rattle.arena.specs.Inner.{Holds}
use Rattle.arena.proofs.Nodes.{extends-none}
use Rattle.arena.proofs.Layouts.{length-decode, coded-cells}
use Rattle.classes.specs.Class.{Class}
use Rattle.mappings.specs.Mapping.{Mapped}
use Rattle.projection_table.specs.Projecting.{projections, project_all}
use Rattle.projection.specs.Calls.{output_of, written_answer}
use Rattle.projection.specs.Inner.{answer_of, answers_in, told_answers, Fits, ReadyAll, WalkedAll}
use Rattle.projection_table.specs.Inner.{Tabled}
use Rattle.projection.proofs.ListLaws.{answers-more}

-- ---- an entry in the output

pub output-none : (entry : ℕ) → entry < 2 → 4294967295 ≡ output_of (answer_of entry)
unfolding output_of answer_of
output-none zero l = refl
output-none (suc zero) l = refl
output-none (suc (suc i)) l = absurd (omega arith)

pub output-some : (entry : ℕ) → 2 ≤ entry → entry - 2 ≡ output_of (answer_of entry)
unfolding output_of answer_of
output-some zero l = absurd (omega arith)
output-some (suc zero) l = absurd (omega arith)
output-some (suc (suc i)) l = omega arith

-- ---- the loop that writes

-- the outputs of expressions, by a table
abbrev pub outputs : List ℕ → List ℕ → List ℕ
outputs table es = map output_of (answers_in table es)

module _ (table es out : List ℕ) where
  -- the output after k writes
  abbrev pub written_to : ℕ → List ℕ
  written_to k = outputs table (take k es) ++ drop k out

  outputs-count : (k : ℕ) → k ≤ length es → length (outputs table (take k es)) ≡ k
  outputs-count k l = length-map (answers_in table (take k es)) output_of ∙ length-map (take k es) (λ (e : ℕ). answer_of (get_or table e 0)) ∙ length-take-le k es l

  -- it is as long as before
  pub written-length : (k : ℕ) → k ≤ length es → length es ≤ length out → length (written_to k) ≡ length out
  written-length k l m = omega (arith, length-append (outputs table (take k es)) (drop k out), outputs-count k l, length-drop k out)

  -- one write more
  pub written-more : (k a : ℕ) → k < length es → length es ≤ length out → a ≡ output_of (answer_of (get_or table (get_or es k 0) 0)) → set (written_to k) k a ≡ written_to (k + 1)
  written-more k a l m q =
      let d : drop k out ≡ get_or out k 0 ∷ drop (suc k) out = drop-cons out k 0 (omega arith) in
      let more : outputs table (take (k + 1) es) ≡ outputs table (take k es) ++ (a ∷ []) =
      ap (map output_of) (answers-more table es k l) ∙ map-append output_of (answers_in table (take k es)) (answers_in table (get_or es k 0 ∷ [])) ∙ ap (λ (b : ℕ). outputs table (take k es) ++ (b ∷ [])) (sym q) in
      ap (λ (rest : List ℕ). set (outputs table (take k es) ++ rest) k a) d
      ∙ set_at (outputs table (take k es)) (get_or out k 0) (drop (suc k) out) a k (outputs-count k (omega arith))
      ∙ sym (append_snoc (outputs table (take k es)) a (drop (suc k) out))
      ∙ ap₂ {C = List ℕ} (λ (o : List ℕ) (n : ℕ). o ++ drop n out) (sym more) (sym (add-one k))

  -- all are written
  pub written_end : (k : ℕ) → k ≤ length es → length es ≤ k → written_to k ≡ outputs table es ++ drop (length es) out
  written_end k a b =
      let n : k ≡ length es = omega arith in
      ap₂ {C = List ℕ} (λ (l : List ℕ) (j : ℕ). outputs table l ++ drop j out) (take_all k es b) n

-- ---- the call over what is checked already

module _ (s es : List ℕ) (h : Holds s) (below : (k : ℕ) → k < length es → get_or es k 0 < count s) (cs : List Class) (ps : List Mapped) (table : List ℕ) (tabled : Tabled (nodes s) (projections (nodes s) cs ps) (nodes s) table) where
  known : (k : ℕ) → k < length es → get_or es k 0 < length (nodes s)
  known k l = omega (arith, below k l, length-decode s)

  fits : Fits (nodes s) (projections (nodes s) cs ps) (nodes s) table
  fits = record { extends = extends-none (nodes s); says = tabled }

  -- the walk can begin
  pub list-ready : ReadyAll s table es
  list-ready = record { olds = nodes s; all = projections (nodes s) cs ps; holds = h; fits = fits; below = known }

  -- what the call comes to
  abbrev outcome : List ℕ → (ℕ × List ℕ) × List ℕ
  outcome out = in_cells (written_answer out (nodes s) (project_all (nodes s) cs ps es))

  module _ (t table' : List ℕ) (out : List ℕ) where
    all_told : (ok : Bool) → WalkedAll s table t table' es ok → told_answers ok (answers_in table' es) (nodes t) ≡ project_all (nodes s) cs ps es
    unfolding project_all
    all_told ok w = (w.added (nodes s) (projections (nodes s) cs ps) fits known).is

    -- there was no room
    pub list_full : WalkedAll s table t table' es false → ◌≡◌ {A = (ℕ × List ℕ) × List ℕ} ((3, out), s) (outcome out)
    unfolding told_answers written_answer in_cells
    list_full w = rw (← all_told false w, coded-cells s h)

    module _ (w : WalkedAll s table t table' es true) where
      count-is : length (answers_in table' es) ≡ length es
      count-is = length-map es (λ (e : ℕ). answer_of (get_or table' e 0))

      -- the output is too short
      pub list-short : length out < length es → ◌≡◌ {A = (ℕ × List ℕ) × List ℕ} ((8, out), s) (outcome out)
      unfolding told_answers written_answer in_cells
      list-short l =
          let b : leb (length (answers_in table' es)) (length out) ≡ false = lt-leb (length (answers_in table' es)) (length out) (omega (arith, count-is)) in
          rw (← all_told true w, b, coded-cells s h)

      -- the answers are written
      pub list_done : length es ≤ length out → (out' : List ℕ) → out' ≡ outputs table' es ++ drop (length es) out → ◌≡◌ {A = (ℕ × List ℕ) × List ℕ} ((0, out'), t) (outcome out)
      unfolding told_answers written_answer in_cells
      list_done l out' q =
          let b : leb (length (answers_in table' es)) (length out) ≡ true = le-leb (length (answers_in table' es)) (length out) (omega (arith, count-is)) in
          rw (← all_told true w, b, coded-cells t w.holds, count-is) (ap (λ (o : List ℕ). ((0, o), t)) q)
