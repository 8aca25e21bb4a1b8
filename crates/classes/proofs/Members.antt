-- Whether an expression is among members, and in which class of a struct.
use Prim.Native.Nat.{ℕ, zero, suc, ◌+◌, ◌-◌, ◌<◌, ◌≤◌}
use mathlib.Core.Bool.{Bool, true, false, ◌||◌}
use Rattle.std.specs.List.{list_any}
use mathlib.Core.List.{List, [], ◌∷◌}
use mathlib.Core.Path.{◌≡◌, refl, sym, ap, ◌∙◌, subst}
use native.Mathlib.Numerals.{add-one}
use native.Mathlib.Decide.{ℕ_discrete}
use native.Mathlib.Omega.{arith}
use borrow.Author.Tests.{eq-eqb, ne_eqb}
use lib.Dec.{eqb}
use lib.ListN.{get_or}
use Rattle.laws.specs.Lists.{table}
use Rattle.laws.specs.Tests.{first_from}
use Rattle.laws.proofs.First.{first-begins}
use Rattle.classes.specs.Group.{among, class_at, class_of}
use Rattle.classes.specs.Layout.{sum_to, decode}
use Rattle.classes.specs.Inner.{Coded}
use Rattle.classes.specs.declared.Group.{Group}
use Rattle.classes.proofs.Places.{among-append}
use Rattle.classes.proofs.Codec.{length-decode, members-part}

or_true : (b : Bool) → (b || true) ≡ true
or_true true = refl
or_true false = refl

module _ (e : ℕ) (f : ℕ → ℕ) where
  -- one member more
  turn : (k : ℕ) (b : Bool) → eqb (f k) e ≡ b → among e (table f (suc k)) ≡ (among e (table f k) || (b || false))
  unfolding among table
  turn k b q = among-append e (table f k) (f k ∷ []) ∙ rw q

  pub among_none : among e (table f 0) ≡ false
  unfolding among table
  among_none = refl

  -- a turn that goes on
  pub among-more : (k : ℕ) → among e (table f k) ≡ false → (f k ≡ e → ⊥) → among e (table f (k + 1)) ≡ false
  among-more k r q = rw (add-one, turn k false (ne_eqb (f k) e q), r)

  -- a turn that finds
  pub among-hit : (n k : ℕ) → k < n → f k ≡ e → true ≡ among e (table f n)
  among-hit zero k l q = absurd (omega arith)
  among-hit (suc n) k l q = sym (at (ℕ_discrete k n) (λ l'. sym (among-hit n k l' q)))
    where
      at : Dec (k ≡ n) → (k < n → among e (table f n) ≡ true) → among e (table f (suc n)) ≡ true
      at (yes s) r = turn n true (eq-eqb (f n) e (rw s at q)) ∙ or_true (among e (table f n))
      at (no s) r = turn n (eqb (f n) e) refl ∙ rw (r (omega arith))

  -- the end
  pub among-ends : (n k : ℕ) → k ≤ n → n ≤ k → among e (table f k) ≡ false → false ≡ among e (table f n)
  among-ends n k a b h = let s : k ≡ n = omega arith in sym (rw s at h)

-- the same as the library's search of a slice
pub among-any : (e : ℕ) (xs : List ℕ) → among e xs ≡ list_any (λ y. eqb y e) xs
unfolding among
among-any e [] = refl
among-any e (x ∷ xs) = rw (among-any e xs)

-- class i holds an expression
abbrev pub Holds : Group → ℕ → ℕ → Bool
Holds g e i = among e (class_at (decode g) i).members

module _ (g : Group) (e : ℕ) where
  -- the search begins at the first class
  pub class-begins : class_of (decode g) e ≡ first_from (Holds g e) (g.count - 0) 0
  unfolding class_of
  class-begins = rw (length-decode g) (first-begins (Holds g e) g.count)

  -- the answer for the part of the table is the answer for the class
  pub part-holds : (i start : ℕ) (b : Bool) → Coded g → start ≡ sum_to g.sizes i → b ≡ among e (table (λ k. get_or g.members (start + k) 0) (get_or g.sizes i 0)) → Holds g e i ≡ b
  part-holds i start b v p q =
      sym (subst (λ (s : ℕ). b ≡ among e (table (λ k. get_or g.members (s + k) 0) (get_or g.sizes i 0))) p q ∙ ap (among e) (members-part g v i))
