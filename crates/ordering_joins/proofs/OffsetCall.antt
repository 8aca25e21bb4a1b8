-- Shifting a checked list by an offset: what the walk asks, and the answer in each case.
use Prim.Native.Nat.{ℕ, ◌<◌, ◌≤◌}
use mathlib.Core.Bool.{Bool, true, false}
use mathlib.Core.List.{List}
use mathlib.Core.Path.{◌≡◌, refl, sym, ap, ap₂, ◌∙◌}
use native.Mathlib.Omega.{arith}
use Rattle.std.specs.Prelude.{Result, Ok, Err}
use Rattle.arena.specs.declared.Refusal.{Refusal}
use Rattle.arena.specs.declared.Refusal.TheVariants.{ArenaFull, IndexOutOfRange}
use Rattle.arena.specs.Refusals.{outcome}
use Rattle.arena.proofs.Refusals.{ok-zero, err-refusal}
use lib.IntN.{ℤ}
use lib.ListN.{length, get_or, replicate}
use Rattle.arena.specs.Arena.{Placed, placed, full, and_then}
use Rattle.arena.specs.Expression.{expression_at}
use Rattle.shifting.specs.Shift.{moved, can_move}
use Rattle.arena.specs.Layout.{count, decode as nodes, encode as encode_nodes}
use Rattle.arena.specs.Calls.{in_cells}
use Rattle.shifting.specs.Inner.{lifted, shifted_by}
use Rattle.arena.proofs.Layouts.{coded-cells, lawful-holds}
use Rattle.arena.proofs.Walking.{memo-none}
use Rattle.orderings.specs.Lists.{ordering_at}
use Rattle.ordering_joins.specs.Offset.{lists_move, shifted_lists}
use Rattle.orderings.specs.Layout.{encode, decode}
use Rattle.orderings.specs.Calls.{list_number}
use Rattle.ordering_joins.specs.Calls.{offset_by, offset_list, offset_answer}
use Rattle.ordering_joins.specs.Inner.{ListThere, lists_tabled, ReadyLists, told_lists, ShiftedLists}
use Rattle.orderings.specs.declared.Orderings.{Orderings}
use Rattle.orderings.specs.declared.Listed.{Listed}
use Rattle.orderings.proofs.Codec.{length-decode}
use Rattle.orderings.proofs.Appending.{told}
use Rattle.orderings.proofs.ListChecks.{Sized}
use Rattle.orderings.proofs.ListHeld.{number-lawful, number-held}
use Rattle.ordering_joins.proofs.KeyTests.{place_inside}
use Rattle.ordering_joins.proofs.Offsets.{Inside, lists-tabled, lists_move_cong, shifted_lists_cong, agree-moves, agree-shift}

-- the test by a table of all nodes is the test of the list
pub table-moves : (lift : ℕ) (s : List ℕ) (g : Orderings) → ListThere s g → (table : List Bool) (n : ℕ) → n ≡ count s → ((j : ℕ) → j < n → get_or table j false ≡ can_move (lifted lift) (expression_at (nodes s) j))
    → (b : Bool) → b ≡ lists_tabled table (decode g) → lists_move (lifted lift) (nodes s) (decode g) ≡ b
table-moves lift s g h table n c says b q =
    sym (q ∙ lists-tabled (lifted lift) (nodes s) table n says (decode g) (λ i k l m. omega (arith, h.there i k l m)))

-- a list and the cells
abbrev pub Outcome : Type 0
Outcome = Listed × List ℕ

-- an offset, and the lift that stands for it
module _ (s : List ℕ) (g : Orderings) (offset : ℤ) (lift : ℕ) (h : ListThere s g) (agree : (i : ℕ) → i < 65536 → moved offset i ≡ lifted lift i) where
  inside : (i : ℕ) → i < length (decode g) → Inside (nodes s) (ordering_at (decode g) i)
  inside i l = place_inside s g h i (omega (arith, length-decode g))

  moves-is : lists_move (moved offset) (nodes s) (decode g) ≡ lists_move (lifted lift) (nodes s) (decode g)
  moves-is = lists_move_cong (moved offset) (lifted lift) (nodes s) (nodes s) (decode g) (λ i l. agree-moves (moved offset) (lifted lift) agree (nodes s) h.holds.sound (ordering_at (decode g) i) (inside i l))

  -- the shifted orderings
  abbrev made : Placed (List (List ℕ))
  made = shifted_lists (lifted lift) (nodes s) (decode g) (nodes s)

  made-is : shifted_lists (moved offset) (nodes s) (decode g) (nodes s) ≡ made
  made-is = shifted_lists_cong (moved offset) (lifted lift) (nodes s) (nodes s) (decode g) (λ i l. agree-shift (moved offset) (lifted lift) agree (nodes s) h.holds.sound (ordering_at (decode g) i) (inside i l)) (nodes s)

  -- a column leaves its bounds
  pub offset_out : lists_move (lifted lift) (nodes s) (decode g) ≡ false → ◌≡◌ {A = Outcome} (told (Err IndexOutOfRange) g, s) (in_cells (offset_list offset g (nodes s)))
  unfolding in_cells offset_list
  offset_out q = rw (moves-is ∙ q, coded-cells s h.holds)

  module _ (can : lists_move (lifted lift) (nodes s) (decode g) ≡ true) where
    -- the walk can begin, with an empty memo
    pub offset_ready : lift ≤ 200000 → (n : ℕ) → ReadyLists lift s (replicate {A = ℕ} n 0) g
    offset_ready l n = record { list = h; small = l; moves = can; memo_true = memo-none (shifted_by lift) (nodes s) n }

    outcome-is : in_cells (offset_list offset g (nodes s)) ≡ in_cells (offset_by g (nodes s) made)
    unfolding offset_list
    outcome-is = rw (moves-is ∙ can, made-is)

    module _ (t : List ℕ) (r : Result Orderings Refusal) (a : ShiftedLists lift s t g r) where
      -- there was no room
      pub offset_full : (e : Refusal) → r ≡ Err e → ◌≡◌ {A = Outcome} (told (Err ArenaFull) g, s) (in_cells (offset_list offset g (nodes s)))
      unfolding told_lists and_then offset_by in_cells
      offset_full e z = go made refl
        where
          none : full ≡ and_then made (λ os ps. placed (encode os) ps)
          none = sym (ap (λ (x : Result Orderings Refusal). told_lists x (nodes t)) z) ∙ a.is

          go : (o : Placed (List (List ℕ))) → made ≡ o → ◌≡◌ {A = Outcome} (told (Err ArenaFull) g, s) (in_cells (offset_list offset g (nodes s)))
          go full q = ap (λ (c : List ℕ). (told (Err ArenaFull) g, c)) (sym (coded-cells s h.holds)) ∙ sym (outcome-is ∙ ap (λ (o : Placed (List (List ℕ))). in_cells (offset_by g (nodes s) o)) q)
          go (placed os ms) q =
              absurd (let e : full ≡ placed (encode os) ms = none ∙ ap (λ (o : Placed (List (List ℕ))). and_then o (λ os ps. placed (encode os) ps)) q in let y : ◌≡◌ {A = ℕ} 0 1 = cc in omega arith)

      -- the list
      pub offset_done : (list : Orderings) → r ≡ Ok list → ◌≡◌ {A = Outcome} (told (Ok tt) list, t) (in_cells (offset_list offset g (nodes s)))
      unfolding told_lists and_then offset_by in_cells
      offset_done list z = go made refl
        where
          some : placed list (nodes t) ≡ and_then made (λ os ps. placed (encode os) ps)
          some = sym (ap (λ (x : Result Orderings Refusal). told_lists x (nodes t)) z) ∙ a.is

          go : (o : Placed (List (List ℕ))) → made ≡ o → ◌≡◌ {A = Outcome} (told (Ok tt) list, t) (in_cells (offset_list offset g (nodes s)))
          go full q =
              absurd (let e : placed list (nodes t) ≡ full = some ∙ ap (λ (o : Placed (List (List ℕ))). and_then o (λ os ps. placed (encode os) ps)) q in let y : ◌≡◌ {A = ℕ} 0 1 = cc in omega arith)
          go (placed os ms) q =
              let e : placed list (nodes t) ≡ placed (encode os) ms = some ∙ ap (λ (o : Placed (List (List ℕ))). and_then o (λ os ps. placed (encode os) ps)) q in
              let d : nodes t ≡ ms = cc in
              let b : list ≡ encode os = cc in
              let i : told (Ok tt) list ≡ told (Ok tt) (encode os) = ap (told (Ok tt)) b in
              let c : t ≡ encode_nodes ms = sym (coded-cells t a.holds) ∙ ap encode_nodes d in
              ap₂ {C = Outcome} (λ (x : Listed) (y : List ℕ). (x, y)) i c ∙ sym (outcome-is ∙ ap (λ (o : Placed (List (List ℕ))). in_cells (offset_by g (nodes s) o)) q)

-- a list that passes the check has its keys in the cells
pub number-there : (cells : List ℕ) (g : Orderings) → Sized g → list_number cells g ≡ 0 → ListThere cells g
number-there cells g z e =
    let w = number-held cells g z e in
    record { holds = lawful-holds cells (number-lawful cells g e); held = w.held; there = w.known }

-- the call, where the check refuses, and where it passes
module _ (offset : ℤ) (cells : List ℕ) (g : Orderings) where
  pub offset_refused : (e : Refusal) → outcome (list_number cells g) ≡ Err e → ◌≡◌ {A = Outcome} (told (Err e) g, cells) (offset_answer offset cells g)
  unfolding offset_answer
  offset_refused e q = let r = err-refusal (list_number cells g) e q in rw r.0 (ap (λ (x : Refusal). (told (Err x) g, cells)) r.1)

  pub offset_passed : outcome (list_number cells g) ≡ Ok tt → offset_answer offset cells g ≡ in_cells (offset_list offset g (nodes cells))
  unfolding offset_answer
  offset_passed z = rw (ok-zero (list_number cells g) z)
