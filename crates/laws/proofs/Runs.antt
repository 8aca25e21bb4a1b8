-- What a call of an iterator answers, in the words of the tests: `all` over a range as "for all numbers below n", `find` as "the first
-- number below n that", `all` over a slice as "for all places", where the closure computes the test.
use Rattle.std.proofs.Common.{refl, ◌≡◌, ℕ, zero, suc, ◌+◌, ◌<◌, ◌≤◌, Bool, true, false, ◌&&◌, List, [], ◌∷◌, sym, ap, ◌∙◌, ◌-◌, arith, length, get_or, take, drop}
use Rattle.std.specs.Prelude.{Option, None, Some, ⊤}
use Rattle.std.specs.List.{range_with_len, list_all, FoldsTo}
use Rattle.std.specs.Fn.{Called, CalledAt}
use Rattle.std.specs.Iterator.{YieldsThen}
use Rattle.std.specs.Option.{MatchOption}
use Rattle.std.specs.declared.ops.Range.{Range}
use Rattle.std.proofs.iter.Yields.{nat_range_steps}
use Rattle.std.proofs.lemmas.Iterator.{YieldsList, YieldsList-from_range, first_from_Range}
use Rattle.std.proofs.Math.Seq.{take-length}
use Rattle.std.proofs.lemmas.List.{length-drop, get_or-drop}
use Rattle.std.proofs.lemmas.Iterator.Search.{all_from_yields_List}
use denote.Param.Members.{Mut}
use denote.Ref.{Bor}
use native.Mathlib.Nat.{sub-zero}
use native.Mathlib.Numerals.{add-one}
use Rattle.laws.specs.Tests.{each, first}
use Rattle.laws.proofs.Each.{each_cong}
use Rattle.laws.proofs.First.{first-is, first-missing}

and_true : (x : Bool) → x ≡ (x && true)
and_true true = refl
and_true false = refl

and_assoc : (x y z : Bool) → ((x && y) && z) ≡ (x && (y && z))
and_assoc true y z = refl
and_assoc false y z = refl

-- the first one apart
each-first : (p : ℕ → Bool) (n : ℕ) → each p (suc n) ≡ (p 0 && each (λ k. p (k + 1)) n)
unfolding each
each-first p zero = and_true (p 0)
each-first p (suc n) =
    let z : suc n ≡ n + 1 = omega arith in
    ap (λ x. x && p (suc n)) (each-first p n) ∙ rw z (and_assoc (p 0) (each (λ k. p (k + 1)) n) (p (n + 1)))

-- a test of each of the numbers from a on, n of them
list_all-range : (p : ℕ → Bool) (a n : ℕ) → list_all p (range_with_len a n) ≡ each (λ k. p (a + k)) n
unfolding each
list_all-range p a zero = refl
list_all-range p a (suc n) =
    let z : a ≡ a + 0 = omega arith in
    ap (λ x. p a && x) (list_all-range p (a + 1) n ∙ each_cong (λ k. p (a + 1 + k)) (λ k. p (a + (k + 1))) n (λ i l. let y : a + 1 + i ≡ a + (i + 1) = omega arith in rw y)) ∙ ap (λ x. p x && each (λ k. p (a + (k + 1))) n) z ∙ sym (each-first (λ k. p (a + k)) n)

-- a test of each number of a list
pub list_all-each : (p : ℕ → Bool) (xs : List ℕ) → list_all p xs ≡ each (λ k. p (get_or xs k 0)) (length xs)
unfolding each
list_all-each p [] = refl
list_all-each p (x ∷ xs) = ap (λ b. p x && b) (list_all-each p xs ∙ each_cong (λ k. p (get_or xs k 0)) (λ k. p (get_or (x ∷ xs) (k + 1) 0)) (length xs) (λ k l. rw add-one)) ∙ sym (each-first (λ k. p (get_or (x ∷ xs) k 0)) (length xs))

-- what `(0..n).all(..)` answers
pub each-all : {F : Type 0} {g : Mut F (ℕ × Unit {0}) Bool} (p : ℕ → Bool) (n : ℕ) (u : Range ℕ) (f : F) → (r : Bool) → (xs : List ℕ) × (o : Option ℕ) × (j : F) × YieldsThen nat_range_steps (record { start = 0; end = n }) xs o u × FoldsTo (λ p x q. Called g p (x, tt) true q) f xs j × MatchOption o (r ≡ true) (λ x. (r ≡ false) × ((h : F) × Called g j (x, tt) false h)) → ((x : ℕ) (b : Bool) (q : F) → Called g f (x, tt) b q → (q ≡ f) × (b ≡ p x)) → r ≡ each p n
each-all p n u f r ran closure =
    all_from_yields_List p u f r ran (YieldsList-from_range 0 n n refl (sub-zero n)) closure ∙ list_all-range p 0 n ∙ each_cong (λ k. p (0 + k)) p n (λ i l. let z : 0 + i ≡ i = omega arith in rw z)

-- what `(0..n).find(..)` answers
pub first-find : {F : Type 0} {g : Mut F (Bor ℕ × Unit {0}) Bool} (p : ℕ → Bool) (n : ℕ) (u : Range ℕ) (f : F) → (r : Option ℕ) → (xs : List ℕ) × (j : F) × YieldsThen nat_range_steps (record { start = 0; end = n }) xs r u × FoldsTo (λ p x q. CalledAt g p x false q) f xs j × MatchOption r ⊤ (λ x. (h : F) × CalledAt g j x true h) → ((x : ℕ) (b : Bool) (q : F) → CalledAt g f x b q → (q ≡ f) × (b ≡ p x)) → r ≡ first p n
first-find p n u f r ran closure =
    at r (first_from_Range (record { start = 0; end = n }) u f r (λ x. p x ≡ true) (λ x. p x ≡ false) ran (λ x q k. sym (closure x true q k).1) (λ x q k. ((closure x false q k).0, sym (closure x false q k).1)))
  where
    at : (o : Option ℕ) → MatchOption o ((k : ℕ) → 0 ≤ k → k < n → p k ≡ false) (λ i. (0 ≤ i) × (i < n) × (p i ≡ true) × ((k : ℕ) → 0 ≤ k → k < i → p k ≡ false)) → o ≡ first p n
    at None h = sym (first-missing p n (λ j l. h j (omega arith) l))
    at (Some i) h = sym (first-is p n i h.1 h.2 (λ j l. h.3 j (omega arith) l))

-- what `.all(..)` answers over a chain that gives the list xs
pub each-list : {S A F : Type 0} {steps : S → Option A → S → Type 0} {v : A → ℕ} {g : Mut F (A × Unit {0}) Bool} {s : S} {xs : List ℕ} (p : ℕ → Bool) (u : S) (f : F) → (r : Bool) → (ys : List A) × (o : Option A) × (j : F) × YieldsThen steps s ys o u × FoldsTo (λ p x q. Called g p (x, tt) true q) f ys j × MatchOption o (r ≡ true) (λ x. (r ≡ false) × ((h : F) × Called g j (x, tt) false h)) → YieldsList steps v s xs → ((x : A) (b : Bool) (q : F) → Called g f (x, tt) b q → (q ≡ f) × (b ≡ p (v x))) → r ≡ each (λ k. p (get_or xs k 0)) (length xs)
each-list {xs} p u f r ran ys closure = all_from_yields_List p u f r ran ys closure ∙ list_all-each p xs

-- the same from place n of a list on
pub each-drop : (p : ℕ → Bool) (n : ℕ) (xs : List ℕ) → each (λ k. p (get_or (drop n xs) k 0)) (length (drop n xs)) ≡ each (λ k. p (get_or xs (n + k) 0)) (length xs - n)
each-drop p n xs =
    let e = length-drop n xs in
    rw e (each_cong (λ k. p (get_or (drop n xs) k 0)) (λ k. p (get_or xs (n + k) 0)) (length xs - n) (λ i l. ap p (get_or-drop n xs i 0)))

-- what `xs[n..]` lends
pub take-rest : (n : ℕ) (xs : List ℕ) → take (length xs - n) (drop n xs) ≡ drop n xs
take-rest n xs = rw (← length-drop n xs) (take-length (drop n xs))
