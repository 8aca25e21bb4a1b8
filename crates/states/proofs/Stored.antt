-- The cells that a state is written into: one number before others, a list that a loop has written whole, and rows that stand one directly after the other.
use Prim.Native.Nat.{ℕ, ◌+◌, ◌*◌, ◌<◌, ◌≤◌}
use mathlib.Core.List.{List, [], ◌∷◌, ◌++◌, append_assoc}
use mathlib.Core.Path.{◌≡◌, refl, sym, ap, ◌∙◌}
use native.Mathlib.Numerals.{add-one}
use native.Mathlib.Omega.{arith}
use lib.ListN.{length, set, take, length-set}
use Rattle.states.specs.Cells.{in_row}
use Rattle.states.proofs.Taken.{taken-set, taken-all}

-- a number that is written at a cell stands before what is written after it
pub written-before : (old xs : List ℕ) (at x n : ℕ) → at < length old → n ≡ at + 1 → take n (set old at x) ++ xs ≡ take at old ++ (x ∷ xs)
written-before old xs at x n b e =
    ap (λ (m : ℕ). take m (set old at x) ++ xs) e
    ∙ ap (λ (l : List ℕ). l ++ xs) (taken-set old at x b)
    ∙ append_assoc (take at old) (x ∷ []) xs

-- two writes leave as many cells
pub length_two : (old : List ℕ) (i j x y : ℕ) → length (set (set old i x) j y) ≡ length old
length_two old i j x y = length-set (set old i x) j y ∙ length-set old i x

-- so do three
pub length_three : (old : List ℕ) (i j k x y z : ℕ) → length (set (set (set old i x) j y) k z) ≡ length old
length_three old i j k x y z = length-set (set (set old i x) j y) k z ∙ length_two old i j x y

-- three numbers that are written at cells in a row stand before what is written after them
pub written-three : (old xs : List ℕ) (at x y z : ℕ) → at + 2 < length old → take (at + 3) (set (set (set old at x) (at + 1) y) (at + 2) z) ++ xs ≡ take at old ++ (x ∷ y ∷ z ∷ xs)
written-three old xs at x y z b =
    written-before (set (set old at x) (at + 1) y) xs (at + 2) z (at + 3) (omega (arith, length_two old at (at + 1) x y)) (omega arith)
    ∙ written-before (set old at x) (z ∷ xs) (at + 1) y (at + 2) (omega (arith, length-set old at x)) (omega arith)
    ∙ written-before old (y ∷ z ∷ xs) at x (at + 1) (omega arith) refl

-- a count and the first i of n rows, each of the same width, stand in the cells, if these are as many as their type says, which a write of a row shows
pub record Rows (f : ℕ → List ℕ) (count width n i : ℕ) (cells : List ℕ) : Type 0 where
  pub few : i ≤ n
  pub long : 0 < i → length cells ≡ 1 + width * n
  pub rows : length cells ≡ 1 + width * n → take (1 + width * i) cells ≡ count ∷ in_row f i

module _ (f : ℕ → List ℕ) (count width n : ℕ) where
  -- no row yet
  pub rows_none : (cells : List ℕ) (x : ℕ) → x ≡ count → Rows f count width n 0 (set cells 0 x)
  unfolding in_row
  rows_none cells x e =
      record {
        few = omega arith;
        long = λ l. absurd (omega arith);
        rows =
            λ z.
            let q : 1 + width * 0 ≡ 0 + 1 = omega arith in
            ap (λ (m : ℕ). take m (set cells 0 x)) q
            ∙ taken-set cells 0 x (omega (arith, z, length-set cells 0 x))
            ∙ ap (λ (y : ℕ). y ∷ []) e;
      }

  -- one more
  pub rows_more : (i : ℕ) (now next : List ℕ) → i < n → Rows f count width n i now → length now ≡ 1 + width * n → length next ≡ length now
      → take (1 + width * i + width) next ≡ take (1 + width * i) now ++ f i → Rows f count width n (i + 1) next
  unfolding in_row
  rows_more i now next b h z y e =
      record {
        few = omega arith;
        long = λ l. y ∙ z;
        rows =
            λ w.
            let q : 1 + width * (i + 1) ≡ 1 + width * i + width = omega arith in
            ap (λ (m : ℕ). take m next) q
            ∙ e
            ∙ ap (λ (l : List ℕ). l ++ f i) (h.rows z)
            ∙ rw (add-one i);
      }

  -- all of them
  pub rows_all : (i : ℕ) (cells : List ℕ) → 0 < n → n ≤ i → Rows f count width n i cells → cells ≡ count ∷ in_row f n
  rows_all i cells p b h =
      let q : i ≡ n = omega (arith, h.few) in
      let z : length cells ≡ 1 + width * n = h.long (omega arith) in
      let r : take (1 + width * n) cells ≡ count ∷ in_row f n = rw q at (h.rows z) in
      sym (taken-all cells (1 + width * n) (omega arith)) ∙ r
