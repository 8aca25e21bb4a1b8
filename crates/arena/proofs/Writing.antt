-- The row of an operation, written child by child.
use Prim.Native.Nat.{ℕ, suc, ◌+◌, ◌-◌, ◌<◌, ◌≤◌}
use mathlib.Core.List.{List, ◌∷◌, ◌++◌}
use mathlib.Core.Path.{◌≡◌, sym, ap, ◌∙◌}
use native.Mathlib.Numerals.{add-one}
use native.Mathlib.Omega.{arith}
use lib.ListN.{length, get_or, take, replicate, set}
use lib.Seq.{set_at, take-suc, take_all, append_snoc, length-take-le}
use Rattle.arena.specs.Node.{operation}
use Rattle.arena.specs.Layout.{row}

module _ (label : ℕ) (children : List ℕ) (few : length children ≤ 8) where
  -- the row with the first k children written
  abbrev pub begun : ℕ → List ℕ
  begun k = 3 ∷ label ∷ length children ∷ (take k children ++ replicate (8 - k) 0)

  -- one more child
  pub begun_more : (k : ℕ) → k < length children → set (begun k) (3 + k) (get_or children k 0) ≡ begun (k + 1)
  begun_more k l =
      let e : 8 - k ≡ suc (8 - (k + 1)) = omega arith in
      let s : length (3 ∷ label ∷ length children ∷ take k children) ≡ 3 + k = omega (arith, length-take-le k children (omega arith)) in
      rw e (set_at (3 ∷ label ∷ length children ∷ take k children) 0 (replicate (8 - (k + 1)) 0) (get_or children k 0) (3 + k) s
      ∙ ap (λ (t : List ℕ). 3 ∷ label ∷ length children ∷ t) (sym (append_snoc (take k children) (get_or children k 0) (replicate (8 - (k + 1)) 0)) ∙ rw (add-one, take-suc children k 0 l)))

  -- all of them
  pub begun-done : (k : ℕ) → length children ≤ k → k ≤ length children → begun k ≡ row (operation label children)
  unfolding row
  begun-done k a b = let e : k ≡ length children = omega arith in rw (e, take_all (length children) children (omega arith))
