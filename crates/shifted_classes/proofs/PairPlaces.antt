-- Lent pairs by their places, and their right sides.
use Prim.Native.Nat.{ℕ, ◌+◌, ◌*◌, ◌/◌, ◌<◌}
use mathlib.Core.List.{List}
use mathlib.Core.Path.{◌≡◌, ap, ◌∙◌}
use native.Mathlib.Omega.{arith}
use lib.ListN.{length, get_or, length-map, get_or-map}
use Rattle.laws.proofs.Table.{length-table, get_or-table}
use Rattle.merging.specs.Inner.{AllBelow}
use Rattle.shifted_classes.specs.Lent.{pairs_lent}
use Rattle.shifted_classes.specs.Inner.{rights_lent}

-- no pair
abbrev pub nowhere : ℕ × ℕ
nowhere = (0, 0)

module _ (numbers : List ℕ) where
  -- half as many pairs as numbers
  pub length_pairs : length (pairs_lent numbers) ≡ length numbers / 2
  unfolding pairs_lent
  length_pairs = length-table (λ k. (get_or numbers (2 * k) 0, get_or numbers (2 * k + 1) 0)) (length numbers / 2)

  -- both sides of pair k
  pub pair-at : (k : ℕ) → k < length numbers / 2 → get_or (pairs_lent numbers) k nowhere ≡ (get_or numbers (2 * k) 0, get_or numbers (2 * k + 1) 0)
  unfolding pairs_lent
  pair-at k l = get_or-table (λ k. (get_or numbers (2 * k) 0, get_or numbers (2 * k + 1) 0)) (length numbers / 2) k nowhere l

  -- as many right sides
  pub length-rights : length (rights_lent numbers) ≡ length numbers / 2
  unfolding rights_lent
  length-rights = length-map (pairs_lent numbers) (λ (p : ℕ × ℕ). p.1) ∙ length_pairs

  -- right side k
  pub right-at : (k : ℕ) → k < length numbers / 2 → get_or (rights_lent numbers) k 0 ≡ get_or numbers (2 * k + 1) 0
  unfolding rights_lent
  right-at k l = get_or-map (λ (p : ℕ × ℕ). p.1) (pairs_lent numbers) k nowhere ∙ ap (λ (p : ℕ × ℕ). p.1) (pair-at k l)

  -- both sides are places of what is lent
  pub right-inside : (k : ℕ) → k < length numbers / 2 → 2 * k + 1 < length numbers
  right-inside k l = omega arith

  -- the right sides are below what all numbers are below
  pub rights-below : (n : ℕ) → AllBelow n numbers → AllBelow n (rights_lent numbers)
  rights-below n h k l =
      let p : k < length numbers / 2 = omega (arith, length-rights) in
      let e = right-at k p in
      let b = h (2 * k + 1) (right-inside k p) in
      omega arith
