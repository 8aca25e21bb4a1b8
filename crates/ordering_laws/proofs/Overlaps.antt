-- Overlap in plain words: an ordering ends as another begins. At most one length can match, since no ordering holds an expression twice and keys that match have one expression.
use Prim.Native.Nat.{ℕ, ◌+◌, ◌-◌, ◌<◌, ◌≤◌, min}
use mathlib.Core.Bool.{Bool, true, false}
use mathlib.Core.List.{List}
use Rattle.std.specs.Prelude.{None, Some}
use mathlib.Core.Path.{◌≡◌, sym, ap, ◌∙◌, subst}
use native.Mathlib.Decide.{ℕ_discrete, dec_lt}
use native.Mathlib.Omega.{arith}
use borrow.Author.Tests.{eqb-true, eq-eqb}
use lib.ListN.{length, get_or, take, drop, length-drop}
use lib.Seq.{length-take-le, get_or-take, get_or-drop, ext_get_or}
use Rattle.laws.proofs.Each.{each_all, each_holds}
use Rattle.laws.proofs.Booleans.{true_not_false}
use Rattle.laws.proofs.First.{first_some, first-none, first-only}
use Rattle.orderings.specs.Ordering.{expr_of, same_key}
use Rattle.orderings.specs.Lists.{ordering_at}
use Rattle.reduction.specs.Reduction.{meets, overlap}
use Rattle.orderings.specs.Good.{GoodOrdering}
use Rattle.reduction.specs.Apart.{Apart}

-- each key of an overlap matches
pub meets_at : (m : ℕ → ℕ → Bool) (a b : List ℕ) (n k : ℕ) → meets m a b n ≡ true → k < n → m (get_or a (length a - n + k) 0) (get_or b k 0) ≡ true
unfolding meets
meets_at m a b n k e l = each_holds (λ (k : ℕ). m (get_or a (length a - n + k) 0) (get_or b k 0)) n k e l

-- where there is an overlap, its keys match
pub overlap-meets : (m : ℕ → ℕ → Bool) (a b : List ℕ) (n : ℕ) → overlap m a b ≡ Some n → meets m a b (n + 1) ≡ true
unfolding overlap
overlap-meets m a b n e = (first_some (λ (k : ℕ). meets m a b (k + 1)) (min (length a) (length b)) n e).passes

-- where there is none, no length but 0 matches
pub overlap-none : (m : ℕ → ℕ → Bool) (a b : List ℕ) → overlap m a b ≡ None → (n : ℕ) → 0 < n → n ≤ length a → n ≤ length b → meets m a b n ≡ false
unfolding overlap
overlap-none m a b e n l h k =
    let s : n - 1 + 1 ≡ n = omega arith in
    subst (λ (x : ℕ). meets m a b x ≡ false) s (first-none (λ (k : ℕ). meets m a b (k + 1)) (min (length a) (length b)) e (n - 1) (omega arith))

-- for the same keys: n keys overlap where the suffix of n keys is the prefix of n keys
pub suffix-meets : (a b : List ℕ) (n : ℕ) → drop (length a - n) a ≡ take n b → meets same_key a b n ≡ true
unfolding meets same_key
suffix-meets a b n e =
    each_all (λ (k : ℕ). same_key (get_or a (length a - n + k) 0) (get_or b k 0)) n
    (λ k l. eq-eqb (get_or a (length a - n + k) 0) (get_or b k 0) (sym (get_or-drop (length a - n) a k 0) ∙ ap (λ (o : List ℕ). get_or o k 0) e ∙ get_or-take n b k 0 l))

pub meets-suffix : (a b : List ℕ) (n : ℕ) → n ≤ length a → n ≤ length b → meets same_key a b n ≡ true → drop (length a - n) a ≡ take n b
unfolding same_key
meets-suffix a b n h k e =
    let p : length (drop (length a - n) a) ≡ n = length-drop (length a - n) a ∙ omega arith in
    let q : length (take n b) ≡ n = length-take-le n b k in
    ext_get_or 0 (drop (length a - n) a) (take n b) (p ∙ sym q)
    (λ i l.
    let c : i < n = omega arith in
    get_or-drop (length a - n) a i 0 ∙ eqb-true (get_or a (length a - n + i) 0) (get_or b i 0) (meets_at same_key a b n i e c) ∙ sym (get_or-take n b i 0 c))

-- in a list whose orderings are apart no nonempty suffix of one is a prefix of another
pub apart-suffix : (os : List (List ℕ)) → Apart same_key os → (i j n : ℕ) → i < length os → j < length os → (i ≡ j → ⊥) → 0 < n → n ≤ length (ordering_at os i) → n ≤ length (ordering_at os j)
    → drop (length (ordering_at os i) - n) (ordering_at os i) ≡ take n (ordering_at os j) → ⊥
apart-suffix os f i j n a b d l h k e =
    true_not_false (suffix-meets (ordering_at os i) (ordering_at os j) n e) (overlap-none same_key (ordering_at os i) (ordering_at os j) (f i j a b d) n l h k)

-- keys that match have one expression
abbrev pub OneExpression : (ℕ → ℕ → Bool) → Type 0
OneExpression m = (x y : ℕ) → m x y ≡ true → expr_of x ≡ expr_of y

-- the match on which overlap rests is such a match
pub same_key-one : OneExpression same_key
unfolding same_key
same_key-one x y e = ap (λ (k : ℕ). expr_of k) (eqb-true x y e)

module _ (m : ℕ → ℕ → Bool) (one : OneExpression m) (a b : List ℕ) (g : GoodOrdering a) where
  -- where n keys overlap, the first key of b has the expression that stands n from the end of a
  first-expr : (n : ℕ) → 0 < n → meets m a b n ≡ true → expr_of (get_or a (length a - n) 0) ≡ expr_of (get_or b 0 0)
  first-expr n l e =
      let z : length a - n ≡ length a - n + 0 = omega arith in
      ap (λ (k : ℕ). expr_of (get_or a k 0)) z ∙ one (get_or a (length a - n + 0) 0) (get_or b 0 0) (meets_at m a b n 0 e l)

  -- a longer overlap beside a shorter one would have its expression twice
  not-longer : (n k : ℕ) → 0 < n → n < k → k ≤ length a → meets m a b n ≡ true → meets m a b k ≡ true → ⊥
  not-longer n k l h f e d =
      g.distinct (length a - k) (length a - n) (omega arith) (omega arith) (first-expr k (omega arith) d ∙ sym (first-expr n l e))

  -- at most one overlap length matches
  pub one-overlap : (n k : ℕ) → 0 < n → 0 < k → n ≤ length a → k ≤ length a → meets m a b n ≡ true → meets m a b k ≡ true → n ≡ k
  one-overlap n k l h f t e d = go (ℕ_discrete n k) (dec_lt n k)
    where
      go : Dec (n ≡ k) → Dec (n < k) → n ≡ k
      go (yes q) r = q
      go (no q) (yes r) = absurd (not-longer n k l r t e d)
      go (no q) (no r) = absurd (not-longer k n h (omega arith) f d e)

  -- so the overlap is any length that matches
  pub overlap-only : (n : ℕ) → n < length a → n < length b → meets m a b (n + 1) ≡ true → overlap m a b ≡ Some n
  unfolding overlap
  overlap-only n l h e =
      first-only (λ (k : ℕ). meets m a b (k + 1)) (min (length a) (length b)) n (omega arith) e
      (λ k p d. let q = one-overlap (k + 1) (n + 1) (omega arith) (omega arith) (omega arith) (omega arith) d e in omega arith)
