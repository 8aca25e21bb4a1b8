-- The first numbers of a list that a loop writes one by one, and a part of a list.
use Prim.Native.Nat.{ℕ, ◌+◌, ◌<◌, ◌≤◌}
use mathlib.Core.List.{List, [], ◌∷◌, ◌++◌, append_assoc}
use mathlib.Core.Path.{◌≡◌, sym, ap, ◌∙◌}
use native.Mathlib.Numerals.{add-one}
use native.Mathlib.Omega.{arith}
use lib.ListN.{length, get_or, set, take, drop, length-drop}
use lib.Seq.{take_all, take-suc, take-suc-set, length-take-le, get_or-take, get_or-drop}
use Rattle.laws.proofs.Table.{table_is}
use Rattle.states.specs.Cells.{part}

module _ {A : Type 0} where
  -- after a write at i, the first i + 1 are the first i and what was written
  pub taken-set : (l : List A) (i : ℕ) (x : A) → i < length l → take (i + 1) (set l i x) ≡ take i l ++ (x ∷ [])
  taken-set l i x b = rw add-one (take-suc-set l i x b)

  -- the first i + 1 are the first i and the one at i
  pub taken_next : (xs : List A) (i : ℕ) (d : A) → i < length xs → take (i + 1) xs ≡ take i xs ++ (get_or xs i d ∷ [])
  taken_next xs i d b = rw add-one (take-suc xs i d b)

  -- the first n of a list that has no more are all of it
  pub taken-all : (l : List A) (n : ℕ) → length l ≤ n → take n l ≡ l
  taken-all l n b = take_all n l b

-- n numbers from one on
pub part-taken : (cells : List ℕ) (at n : ℕ) → at + n ≤ length cells → take n (drop at cells) ≡ part cells at n
unfolding part
part-taken cells at n b =
    table_is (λ k. get_or cells (at + k) 0) n (take n (drop at cells)) 0 (length-take-le n (drop at cells) (omega (arith, length-drop at cells)))
    (λ i l. rw (get_or-take n (drop at cells) i 0 l) (get_or-drop at cells i 0))

-- one turn of a loop that writes a list from a cell on
pub written-turn : (old now xs : List ℕ) (at i : ℕ) → at + i < length now → i < length xs → take (at + i) now ≡ take at old ++ take i xs
    → take (at + (i + 1)) (set now (at + i) (get_or xs i 0)) ≡ take at old ++ take (i + 1) xs
written-turn old now xs at i a b e =
    let s : at + (i + 1) ≡ at + i + 1 = omega arith in
    ap (λ (n : ℕ). take n (set now (at + i) (get_or xs i 0))) s
    ∙ taken-set now (at + i) (get_or xs i 0) a
    ∙ ap (λ (l : List ℕ). l ++ (get_or xs i 0 ∷ [])) e
    ∙ append_assoc (take at old) (take i xs) (get_or xs i 0 ∷ [])
    ∙ ap (λ (l : List ℕ). take at old ++ l) (sym (taken_next xs i 0 b))
