-- What a call of an iterator over a range answers where a list is a table: `all`, `any` and `find` of a closure that tests place k, as the
-- list's own test.
use Rattle.std.proofs.Common.{refl, ◌≡◌, ℕ, zero, suc, ◌+◌, Bool, true, false, List, [], ◌∷◌, ◌++◌, map, sym, ap, ◌∙◌, arith}
use Rattle.std.specs.Prelude.{Option}
use Rattle.std.specs.List.{range_with_len, list_all, list_any, FoldsTo}
use Rattle.std.specs.Fn.{Called}
use Rattle.std.specs.Iterator.{YieldsThen}
use Rattle.std.specs.Option.{MatchOption}
use Rattle.std.specs.declared.ops.Range.{Range}
use Rattle.std.proofs.iter.Yields.{nat_range_steps}
use Rattle.std.proofs.lemmas.Iterator.{YieldsList-from_range}
use Rattle.std.proofs.lemmas.Iterator.Search.{all_from_yields_List, any_from_yields_List}
use denote.Param.Members.{Mut}
use native.Mathlib.Nat.{sub-zero}
use Rattle.laws.specs.Lists.{table}

-- a range with one more at its end
range-more : (a n : ℕ) → range_with_len a (suc n) ≡ range_with_len a n ++ ((a + n) ∷ [])
range-more a zero = let z : a ≡ a + 0 = omega arith in ap (λ (x : ℕ). x ∷ []) z
range-more a (suc n) = let z : a + 1 + n ≡ a + suc n = omega arith in ap (λ (xs : List ℕ). a ∷ xs) (rw z at (range-more (a + 1) n))

module _ {B : Type 0} (f : ℕ → B) where
  map-more : (xs : List ℕ) (x : ℕ) → map f (xs ++ (x ∷ [])) ≡ map f xs ++ (f x ∷ [])
  map-more [] x = refl
  map-more (y ∷ xs) x = ap (λ (t : List B). f y ∷ t) (map-more xs x)

  -- a table is a range that was mapped
  pub table-range : (n : ℕ) → map f (range_with_len 0 n) ≡ table f n
  unfolding table
  table-range zero = refl
  table-range (suc n) =
      let z : 0 + n ≡ n = omega arith in
      ap (map f) (range-more 0 n) ∙ map-more (range_with_len 0 n) (0 + n) ∙ rw z (ap (λ (t : List B). t ++ (f n ∷ [])) (table-range n))

-- and a table whose items are mapped is a table
pub map-table : {A B : Type 0} (h : A → B) (f : ℕ → A) (n : ℕ) → map h (table f n) ≡ table (λ k. h (f k)) n
map-table h f n = ap (map h) (sym (table-range f n)) ∙ both (range_with_len 0 n) ∙ table-range (λ k. h (f k)) n
  where
    both : (xs : List ℕ) → map h (map f xs) ≡ map (λ k. h (f k)) xs
    both [] = refl
    both (x ∷ xs) = rw (both xs)

module _ {B : Type 0} (p : B → Bool) (f : ℕ → B) where
  any-map : (xs : List ℕ) → list_any (λ k. p (f k)) xs ≡ list_any p (map f xs)
  any-map [] = refl
  any-map (x ∷ xs) = rw (any-map xs)

  all-map : (xs : List ℕ) → list_all (λ k. p (f k)) xs ≡ list_all p (map f xs)
  all-map [] = refl
  all-map (x ∷ xs) = rw (all-map xs)

  -- what `(0..n).any(..)` answers, of a table
  pub any-table : {F : Type 0} {g : Mut F (ℕ × Unit {0}) Bool} (n : ℕ) (u : Range ℕ) (c : F) → (r : Bool) → (xs : List ℕ) × (o : Option ℕ) × (j : F) × YieldsThen nat_range_steps (record { start = 0; end = n }) xs o u × FoldsTo (λ p x q. Called g p (x, tt) false q) c xs j × MatchOption o (r ≡ false) (λ x. (r ≡ true) × ((h : F) × Called g j (x, tt) true h)) → ((x : ℕ) (b : Bool) (q : F) → Called g c (x, tt) b q → (q ≡ c) × (b ≡ p (f x))) → r ≡ list_any p (table f n)
  any-table n u c r ran closure =
      any_from_yields_List (λ k. p (f k)) u c r ran (YieldsList-from_range 0 n n refl (sub-zero n)) closure ∙ any-map (range_with_len 0 n) ∙ ap (list_any p) (table-range f n)

  -- what `(0..n).all(..)` answers, of a table
  pub all-table : {F : Type 0} {g : Mut F (ℕ × Unit {0}) Bool} (n : ℕ) (u : Range ℕ) (c : F) → (r : Bool) → (xs : List ℕ) × (o : Option ℕ) × (j : F) × YieldsThen nat_range_steps (record { start = 0; end = n }) xs o u × FoldsTo (λ p x q. Called g p (x, tt) true q) c xs j × MatchOption o (r ≡ true) (λ x. (r ≡ false) × ((h : F) × Called g j (x, tt) false h)) → ((x : ℕ) (b : Bool) (q : F) → Called g c (x, tt) b q → (q ≡ c) × (b ≡ p (f x))) → r ≡ list_all p (table f n)
  all-table n u c r ran closure =
      all_from_yields_List (λ k. p (f k)) u c r ran (YieldsList-from_range 0 n n refl (sub-zero n)) closure ∙ all-map (range_with_len 0 n) ∙ ap (list_all p) (table-range f n)
