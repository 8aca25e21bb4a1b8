-- A list by its places, and the equality of two lists of numbers.
use Prim.Native.Nat.{ℕ, zero, suc, ◌+◌, ◌<◌, ◌≤◌}
use mathlib.Core.Bool.{true}
use mathlib.Core.List.{List, [], ◌∷◌, ◌++◌}
use mathlib.Core.Path.{◌≡◌, refl, sym, ap₂, ◌∙◌}
use native.Mathlib.Decide.{ℕ_discrete}
use native.Mathlib.Numerals.{add-one}
use native.Mathlib.Omega.{arith}
use borrow.Author.Tests.{eqb-true, eq-eqb}
use lib.Dec.{eqb}
use lib.ListN.{length, get_or, take, drop, length-append, get_or-append}
use Rattle.std.proofs.lemmas.List.{length-drop, length-take-le, get_or-take, get_or-drop}
use lib.Seq.{get_or_at, ext_get_or}
use Rattle.laws.specs.Lists.{table, same_numbers}
use Rattle.laws.proofs.Booleans.{and_left, and_right, and_both}

module _ {A : Type 0} (f : ℕ → A) where
  pub length-table : (n : ℕ) → length (table f n) ≡ n
  unfolding table
  length-table zero = refl
  length-table (suc n) = length-append (table f n) (f n ∷ []) ∙ rw (length-table n, add-one)

  -- the element at i is f i
  pub get_or-table : (n i : ℕ) (d : A) → i < n → get_or (table f n) i d ≡ f i
  unfolding table
  get_or-table zero i d l = absurd (omega arith)
  get_or-table (suc n) i d l = at (ℕ_discrete i n) (λ l'. get_or-table n i d l')
    where
      at : Dec (i ≡ n) → (i < n → get_or (table f n) i d ≡ f i) → get_or (table f n ++ (f n ∷ [])) i d ≡ f i
      at (yes q) r = rw q (get_or_at (table f n) (f n) [] d n (length-table n))
      at (no q) r =
          let l' : i < n = omega arith in
          let k : i < length (table f n) = rw (length-table n) l' in
          get_or-append (table f n) (f n ∷ []) d i k ∙ r l'

  -- a list with n elements, f i at i, is the table
  pub table_is : (n : ℕ) (l : List A) (d : A) → length l ≡ n → ((i : ℕ) → i < n → get_or l i d ≡ f i) → l ≡ table f n
  table_is n l d e h =
      ext_get_or d l (table f n) (e ∙ sym (length-table n))
      (λ i b. let b' : i < n = rw e at b in h i b' ∙ sym (get_or-table n i d b'))

-- the table of a function that agrees below n
pub table_cong : {A : Type 0} (f g : ℕ → A) (n : ℕ) → ((i : ℕ) → i < n → f i ≡ g i) → table f n ≡ table g n
unfolding table
table_cong f g zero h = refl
table_cong f g (suc n) h = rw (table_cong f g n (λ i l. h i (omega arith)), h n (omega arith))

-- lists that hold the same numbers are equal, and the other way round
pub same-numbers : (xs ys : List ℕ) → same_numbers xs ys ≡ true → xs ≡ ys
unfolding same_numbers
same-numbers [] [] e = refl
same-numbers [] (y ∷ ys) e = absurd (let z : ◌≡◌ {A = ℕ} 0 1 = cc in omega arith)
same-numbers (x ∷ xs) [] e = absurd (let z : ◌≡◌ {A = ℕ} 0 1 = cc in omega arith)
same-numbers (x ∷ xs) (y ∷ ys) e =
    ap₂ {C = List ℕ} (λ a b. a ∷ b) (eqb-true x y (and_left (eqb x y) (same_numbers xs ys) e)) (same-numbers xs ys (and_right (eqb x y) (same_numbers xs ys) e))

pub numbers-same : (xs : List ℕ) → same_numbers xs xs ≡ true
unfolding same_numbers
numbers-same [] = refl
numbers-same (x ∷ xs) = and_both (eq-eqb x x refl) (numbers-same xs)

-- n elements of a list from a place on, as a table
pub part_is : {A : Type 0} (l : List A) (start n : ℕ) (d : A) → start + n ≤ length l → take n (drop start l) ≡ table (λ k. get_or l (start + k) d) n
part_is l start n d le =
    let b : n ≤ length (drop start l) = omega (arith, length-drop start l) in
    table_is (λ k. get_or l (start + k) d) n (take n (drop start l)) d (length-take-le n (drop start l) b)
    (λ i h. get_or-take n (drop start l) i d h ∙ get_or-drop start l i d)
