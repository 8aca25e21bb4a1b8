-- Values of expressions are moved with the row when an expression is shifted; when a shift can be made, and what it makes.
use Rattle.std.specs.Prelude.{if◌then◌else◌, Option, None, Some, is_some}
use Prim.Native.Nat.{ℕ, suc, ◌<◌}
use mathlib.Core.Bool.{Bool, true, false}
use mathlib.Core.List.{◌∷◌}
use Rattle.std.specs.Prelude.{unwrap_or}
use mathlib.Core.Path.{◌≡◌, refl, ap, ap₂}
use native.Mathlib.Omega.{arith}
use borrow.Author.Tests.{ltb-true}
use lib.Dec.{ltb}
use lib.IntN.{ℤ, pos, negsuc, ◌+ℤ◌}
use Rattle.laws.proofs.Booleans.{true_not_false, and_left, and_right}
use Rattle.arena.specs.Expression.{Expression, Expressions, col, lit, op, ∅, ◌▹◌, size}
use Rattle.arena.specs.Value.{Row, Meaning, value, values}
use Rattle.arena.specs.Arena.{Small, AllSmall}
use Rattle.shifting.specs.Shift.{within, moved, can_move, all_move, shifted, all_shifted}

mutual
  unfolding value values shifted all_shifted

  -- the value of a shifted expression is the value on the row moved the same way
  pub value_shifted : {A : Type 0} (to : ℕ → Option ℕ) (e : Expression) (m : Meaning A) (row : Row A) → value (shifted to e) m row ≡ value e m (λ name index. row name (unwrap_or (to index) index))
  value_shifted to (col name index) m row = refl
  value_shifted to (lit v) m row = refl
  value_shifted to (op label es) m row = ap (λ vs. m.operation label vs) (values-shifted to es m row)

  -- the same for expressions in a row
  pub values-shifted : {A : Type 0} (to : ℕ → Option ℕ) (es : Expressions) (m : Meaning A) (row : Row A) → values (all_shifted to es) m row ≡ values es m (λ name index. row name (unwrap_or (to index) index))
  values-shifted to ∅ m row = refl
  values-shifted to (e ▹ es) m row = ap₂ (λ v vs. v ∷ vs) (value_shifted to e m row) (values-shifted to es m row)

-- shifting keeps the number of expressions
size-shifted : (to : ℕ → Option ℕ) (es : Expressions) → size (all_shifted to es) ≡ size es
unfolding size all_shifted
size-shifted to ∅ = refl
size-shifted to (e ▹ es) = ap suc (size-shifted to es)

-- an index that can move, by moves to 16 bits, has 16 bits afterwards
index-small : (to : ℕ → Option ℕ) → ((i n : ℕ) → to i ≡ Some n → n < 65536) → (i : ℕ) → is_some (to i) ≡ true → unwrap_or (to i) i < 65536
index-small to h i c = go (to i) refl c
  where
    go : (o : Option ℕ) → to i ≡ o → is_some o ≡ true → unwrap_or o i < 65536
    go None e c = absurd (true_not_false c refl)
    go (Some n) e c = h i n e

module _ (to : ℕ → Option ℕ) (h : (i n : ℕ) → to i ≡ Some n → n < 65536) where
  mutual
    unfolding Small AllSmall can_move all_move shifted all_shifted

    -- a small expression that can move is small afterwards
    pub shifted-small : (e : Expression) → Small e → can_move to e ≡ true → Small (shifted to e)
    shifted-small (col name index) s c = index-small to h index c
    shifted-small (lit v) s c = tt
    shifted-small (op label es) s c = (omega (arith, size-shifted to es), all_shifted-small es s.1 c)

    -- the same for expressions in a row
    pub all_shifted-small : (es : Expressions) → AllSmall es → all_move to es ≡ true → AllSmall (all_shifted to es)
    all_shifted-small ∅ s c = tt
    all_shifted-small (e ▹ es) s c =
        (shifted-small e s.0 (and_left (can_move to e) (all_move to es) c), all_shifted-small es s.1 (and_right (can_move to e) (all_move to es) c))

module _ (to from : ℕ → Option ℕ) (h : (i : ℕ) → i < 65536 → to i ≡ from i) where
  mutual
    unfolding Small AllSmall can_move all_move

    -- moves that agree on 16 bits can move the same small expressions
    pub can_move_cong : (e : Expression) → Small e → can_move to e ≡ can_move from e
    can_move_cong (col name index) s = rw (h index s)
    can_move_cong (lit v) s = refl
    can_move_cong (op label es) s = all_move_cong es s.1

    -- the same for expressions in a row
    pub all_move_cong : (es : Expressions) → AllSmall es → all_move to es ≡ all_move from es
    all_move_cong ∅ s = refl
    all_move_cong (e ▹ es) s = rw (can_move_cong e s.0, all_move_cong es s.1)

  mutual
    unfolding Small AllSmall shifted all_shifted

    -- moves that agree on 16 bits make the same of small expressions
    pub shifted_cong : (e : Expression) → Small e → shifted to e ≡ shifted from e
    shifted_cong (col name index) s = rw (h index s)
    shifted_cong (lit v) s = refl
    shifted_cong (op label es) s = rw (all_shifted_cong es s.1)

    -- the same for expressions in a row
    pub all_shifted_cong : (es : Expressions) → AllSmall es → all_shifted to es ≡ all_shifted from es
    all_shifted_cong ∅ s = refl
    all_shifted_cong (e ▹ es) s = rw (shifted_cong e s.0, all_shifted_cong es s.1)

-- a whole number within 16 bits is less than 65,536
within-small : (z : ℤ) (n : ℕ) → within z ≡ Some n → n < 65536
unfolding within
within-small (pos m) n e = go (ltb m 65536) refl e
  where
    go : (b : Bool) → ltb m 65536 ≡ b → (if b then Some m else None) ≡ Some n → n < 65536
    go true t q = let p : m ≡ n = cc in omega (arith, ltb-true m 65536 t)
    go false t q = absurd (let z : ◌≡◌ {A = ℕ} 0 1 = cc in omega arith)
within-small (negsuc m) n e = absurd (let z : ◌≡◌ {A = ℕ} 0 1 = cc in omega arith)

-- an index moves only to an index of 16 bits
pub moved-within : (offset : ℤ) (i n : ℕ) → moved offset i ≡ Some n → n < 65536
unfolding moved
moved-within offset i n e = within-small (pos i +ℤ offset) n e
