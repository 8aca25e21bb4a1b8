-- The promises of the shift, over the function that its contract cites.
use Rattle.arena.specs.declared.Refusal.TheVariants.{IndexOutOfRange, UnknownExpression}
use Rattle.std.specs.Prelude.{if◌then◌else◌, Some, Err, Ok}
use Prim.Native.Nat.{ℕ, ◌+◌, ◌<◌}
use mathlib.Core.Bool.{Bool, true, false}
use mathlib.Core.List.{List}
use Rattle.std.specs.Prelude.{unwrap_or}
use mathlib.Core.Path.{◌≡◌, refl, ap, ap₂, ◌∙◌}
use native.Mathlib.Omega.{arith}
use borrow.Author.Tests.{ltb-true, lt-ltb}
use lib.Dec.{ltb}
use lib.IntN.{ℤ, pos}
use lib.ListN.{length}
use Rattle.laws.proofs.Booleans.{and_both}
use Rattle.arena.specs.Node.{Node}
use Rattle.arena.specs.Expression.{Expression, Expressions, col, lit, op, ∅, ◌▹◌, expression_at}
use Rattle.arena.specs.Value.{Row, Meaning, value}
use Rattle.arena.specs.Arena.{Sound, Small, add_expression}
use Rattle.shifting.specs.Shift.{within, moved, can_move, all_move, shifted, all_shifted}
use Rattle.arena.specs.Calls.{Outcome, answered}
use Rattle.shifting.specs.Calls.{shifted_outcome, add_offset}
use Rattle.arena.proofs.Trees.{expression-small}
use Rattle.arena.proofs.Growing.{add_expression-old}
use Rattle.shifting.proofs.Values.{value_shifted, shifted-small, can_move_cong, shifted_cong, moved-within}
use Rattle.arena.proofs.Promises.{Kept, kept-none, tree_kept, not-number, tree_is}

-- a shifted expression that can move is small
small-shifted : (e : ℕ) (offset : ℤ) (ns : List Node) → Sound ns → e < length ns → can_move (moved offset) (expression_at ns e) ≡ true → Small (shifted (moved offset) (expression_at ns e))
small-shifted e offset ns s l c = shifted-small (moved offset) (moved-within offset) (expression_at ns e) (expression-small ns s e l) c

-- adding a shifted expression keeps it
pub offset_kept : (e : ℕ) (offset : ℤ) (ns : List Node) → Sound ns → Kept ns (add_offset e offset ns)
unfolding add_offset shifted_outcome
offset_kept e offset ns s = go (ltb e (length ns)) refl (can_move (moved offset) (expression_at ns e)) refl
  where
    go : (a : Bool) → ltb e (length ns) ≡ a → (b : Bool) → can_move (moved offset) (expression_at ns e) ≡ b
        → Kept ns (if a then (if b then answered ns (add_expression (shifted (moved offset) (expression_at ns e)) ns) else (Err IndexOutOfRange, ns)) else (Err UnknownExpression, ns))
    go true t true u = tree_kept (shifted (moved offset) (expression_at ns e)) ns s (small-shifted e offset ns s (ltb-true e (length ns) t) u)
    go true t false u = kept-none (Err IndexOutOfRange) ns s
    go false t b u = kept-none (Err UnknownExpression) ns s

-- the number that is answered for a shift is that of the expression with its columns moved
pub offset_is : (e : ℕ) (offset : ℤ) (ns : List Node) (i : ℕ) (ms : List Node) → Sound ns → add_offset e offset ns ≡ (Ok i, ms)
    → (i < length ms) × (expression_at ms i ≡ shifted (moved offset) (expression_at ns e))
unfolding add_offset shifted_outcome
offset_is e offset ns i ms s q = go (ltb e (length ns)) refl (can_move (moved offset) (expression_at ns e)) refl q
  where
    x : Expression
    x = shifted (moved offset) (expression_at ns e)

    go : (a : Bool) → ltb e (length ns) ≡ a → (b : Bool) → can_move (moved offset) (expression_at ns e) ≡ b
        → ◌≡◌ {A = Outcome} (if a then (if b then answered ns (add_expression x ns) else (Err IndexOutOfRange, ns)) else (Err UnknownExpression, ns)) (Ok i, ms)
        → (i < length ms) × (expression_at ms i ≡ x)
    go true t true u q = tree_is x ns i ms s (small-shifted e offset ns s (ltb-true e (length ns) t) u) q
    go true t false u q = absurd (not-number IndexOutOfRange i ns ms q)
    go false t b u q = absurd (not-number UnknownExpression i ns ms q)

-- the value of a shifted expression on a row is the value of the original on the row whose columns are moved accordingly
pub offset_value : {A : Type 0} (e : ℕ) (offset : ℤ) (ns : List Node) (i : ℕ) (ms : List Node) → Sound ns → add_offset e offset ns ≡ (Ok i, ms) → (m : Meaning A) (row : Row A)
    → value (expression_at ms i) m row ≡ value (expression_at ns e) m (λ name index. row name (unwrap_or (moved offset index) index))
offset_value e offset ns i ms s q m row =
    ap (λ (x : Expression). value x m row) (offset_is e offset ns i ms s q).1 ∙ value_shifted (moved offset) (expression_at ns e) m row

-- by 0 an index of 16 bits moves to itself
moved_none : (index : ℕ) → index < 65536 → moved (pos 0) index ≡ Some index
unfolding moved within
moved_none index l = let e : index + 0 ≡ index = omega arith in rw (e, lt-ltb index 65536 l)

mutual
  unfolding can_move all_move

  -- where every index moves to itself, every expression can move
  stay_moves : (x : Expression) → can_move Some x ≡ true
  stay_moves (col name index) = refl
  stay_moves (lit v) = refl
  stay_moves (op label es) = all_stay_moves es

  -- the same for expressions in a row
  all_stay_moves : (es : Expressions) → all_move Some es ≡ true
  all_stay_moves ∅ = refl
  all_stay_moves (x ▹ es) = and_both (stay_moves x) (all_stay_moves es)

mutual
  unfolding shifted all_shifted

  -- and is itself afterwards
  stay_shifted : (x : Expression) → shifted Some x ≡ x
  stay_shifted (col name index) = refl
  stay_shifted (lit v) = refl
  stay_shifted (op label es) = ap (λ (c : Expressions). op label c) (all_stay_shifted es)

  -- the same for expressions in a row
  all_stay_shifted : (es : Expressions) → all_shifted Some es ≡ es
  all_stay_shifted ∅ = refl
  all_stay_shifted (x ▹ es) = ap₂ {C = Expressions} (λ a b. a ▹ b) (stay_shifted x) (all_stay_shifted es)

-- in a sound arena a shift by 0 of a known expression answers its own number and adds nothing
pub offset_none : (e : ℕ) (ns : List Node) → Sound ns → e < length ns → add_offset e (pos 0) ns ≡ (Ok e, ns)
unfolding add_offset shifted_outcome answered
offset_none e ns s l =
    let x = expression_at ns e in
    let h = expression-small ns s e l in
    rw (
      lt-ltb e (length ns) l,
      can_move_cong (moved (pos 0)) Some moved_none x h ∙ stay_moves x,
      shifted_cong (moved (pos 0)) Some moved_none x h ∙ stay_shifted x,
      add_expression-old x ns s e l refl,
    )
