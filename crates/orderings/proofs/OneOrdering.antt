-- One ordering: building, pushing and extending keep what is there, add no expression twice, and may be grouped in any way.
use Rattle.std.specs.Prelude.{if◌then◌else◌}
use Prim.Native.Nat.{ℕ, zero, suc, ◌+◌, ◌<◌, ◌≤◌}
use mathlib.Core.Bool.{Bool, true, false, ◌||◌}
use mathlib.Core.List.{List, [], ◌∷◌, ◌++◌, append-nil}
use mathlib.Core.Path.{◌≡◌, refl, sym, ap, ◌∙◌, subst}
use native.Mathlib.Decide.{ℕ_discrete}
use native.Mathlib.Omega.{arith}
use borrow.Author.Tests.{eqb-true, eq-eqb}
use lib.Dec.{eqb}
use lib.ListN.{length, get_or, take, length-append, get_or-append}
use lib.Seq.{get_or_at, append_snoc, take-append_seam}
use Rattle.laws.proofs.Booleans.{true_not_false}
use Rattle.orderings.specs.Ordering.{expr_of, has_expr, pushed, extended, built}
use Rattle.orderings.specs.Good.{GoodOrdering}

-- no expression stands twice
abbrev pub NoneTwice : List ℕ → Type 0
NoneTwice o = (i j : ℕ) → i < j → j < length o → expr_of (get_or o i 0) ≡ expr_of (get_or o j 0) → ⊥

-- an expression that an ordering has stands somewhere in it, and one that stands in it it has
pub has-place : (e : ℕ) (o : List ℕ) → has_expr e o ≡ true → (i : ℕ) × (i < length o) × (expr_of (get_or o i 0) ≡ e)
unfolding has_expr
has-place e [] h = absurd (true_not_false h refl)
has-place e (k ∷ o) h = go (eqb (expr_of k) e) refl h (has-place e o)
  where
    go : (b : Bool) → eqb (expr_of k) e ≡ b → (b || has_expr e o) ≡ true → (has_expr e o ≡ true → (i : ℕ) × (i < length o) × (expr_of (get_or o i 0) ≡ e))
        → (i : ℕ) × (i < length (k ∷ o)) × (expr_of (get_or (k ∷ o) i 0) ≡ e)
    go true q s r = (0, omega arith, eqb-true (expr_of k) e q)
    go false q s r = let p = r s in (suc p.0, omega (arith, p.1), p.2)

pub place-has : (e : ℕ) (o : List ℕ) (i : ℕ) → i < length o → expr_of (get_or o i 0) ≡ e → has_expr e o ≡ true
unfolding has_expr
place-has e [] i h q = absurd (omega arith)
place-has e (k ∷ o) zero h q = rw (eq-eqb (expr_of k) e q)
place-has e (k ∷ o) (suc i) h q = go (eqb (expr_of k) e) (place-has e o i (omega arith) q)
  where
    go : (b : Bool) → has_expr e o ≡ true → (b || has_expr e o) ≡ true
    go true r = refl
    go false r = r

-- in two orderings, one after the other
pub has-append : (e : ℕ) (o p : List ℕ) → has_expr e (o ++ p) ≡ (has_expr e o || has_expr e p)
unfolding has_expr
has-append e [] p = refl
has-append e (k ∷ o) p = go (eqb (expr_of k) e) (has-append e o p)
  where
    go : (b : Bool) → has_expr e (o ++ p) ≡ (has_expr e o || has_expr e p) → (b || has_expr e (o ++ p)) ≡ ((b || has_expr e o) || has_expr e p)
    go true h = refl
    go false h = h

-- pushing what is there changes nothing, and what is not there comes to the end
pub pushed-there : (o : List ℕ) (k : ℕ) → has_expr (expr_of k) o ≡ true → pushed o k ≡ o
unfolding pushed
pushed-there o k h = rw h

pub pushed-new : (o : List ℕ) (k : ℕ) → has_expr (expr_of k) o ≡ false → pushed o k ≡ o ++ (k ∷ [])
unfolding pushed
pushed-new o k h = rw h

-- what is there stays there, and the pushed expression is there
pub pushed-keeps : (e : ℕ) (o : List ℕ) (k : ℕ) → has_expr e o ≡ true → has_expr e (pushed o k) ≡ true
pushed-keeps e o k h = go (has_expr (expr_of k) o) refl
  where
    go : (b : Bool) → has_expr (expr_of k) o ≡ b → has_expr e (pushed o k) ≡ true
    go true q = rw (pushed-there o k q) h
    go false q = rw (pushed-new o k q, has-append e o (k ∷ []), h)

pub pushed-has : (o : List ℕ) (k : ℕ) → has_expr (expr_of k) (pushed o k) ≡ true
pushed-has o k = go (has_expr (expr_of k) o) refl
  where
    go : (b : Bool) → has_expr (expr_of k) o ≡ b → has_expr (expr_of k) (pushed o k) ≡ true
    go true q = rw (pushed-there o k q) q
    go false q = rw (pushed-new o k q, has-append (expr_of k) o (k ∷ []), q) (place-has (expr_of k) (k ∷ []) 0 (omega arith) refl)

-- pushing adds no expression twice
pub pushed-none_twice : (o : List ℕ) (k : ℕ) → NoneTwice o → NoneTwice (pushed o k)
pushed-none_twice o k n = go (has_expr (expr_of k) o) refl
  where
    new : has_expr (expr_of k) o ≡ false → NoneTwice (o ++ (k ∷ []))
    new q i j a b e = at (ℕ_discrete j (length o))
      where
        l : length (o ++ (k ∷ [])) ≡ length o + 1
        l = length-append o (k ∷ [])

        at : Dec (j ≡ length o) → ⊥
        at (yes r) =
            let f : i < length o = omega arith in
            let x : get_or (o ++ (k ∷ [])) i 0 ≡ get_or o i 0 = get_or-append o (k ∷ []) 0 i f in
            let y : get_or (o ++ (k ∷ [])) j 0 ≡ k = get_or_at o k [] 0 j (sym r) in
            true_not_false (place-has (expr_of k) o i f (ap (λ (z : ℕ). expr_of z) (sym x) ∙ e ∙ ap (λ (z : ℕ). expr_of z) y)) q
        at (no r) =
            let f : j < length o = omega (arith, l) in
            let x : get_or (o ++ (k ∷ [])) i 0 ≡ get_or o i 0 = get_or-append o (k ∷ []) 0 i (omega arith) in
            let y : get_or (o ++ (k ∷ [])) j 0 ≡ get_or o j 0 = get_or-append o (k ∷ []) 0 j f in
            n i j a f (ap (λ (z : ℕ). expr_of z) (sym x) ∙ e ∙ ap (λ (z : ℕ). expr_of z) y)

    go : (b : Bool) → has_expr (expr_of k) o ≡ b → NoneTwice (pushed o k)
    go true q = rw (pushed-there o k q) n
    go false q = rw (pushed-new o k q) (new q)

-- nor does extending, and so a built ordering holds no expression twice
pub extended-none_twice : (o ks : List ℕ) → NoneTwice o → NoneTwice (extended o ks)
unfolding extended
extended-none_twice o [] n = n
extended-none_twice o (k ∷ ks) n = extended-none_twice (pushed o k) ks (pushed-none_twice o k n)

pub built-none_twice : (ks : List ℕ) → NoneTwice (built ks)
unfolding built
built-none_twice ks = extended-none_twice [] ks (λ i j a b e. omega arith)

-- an ordering extended begins with itself
pub extended-begins : (o ks : List ℕ) → (ls : List ℕ) × (extended o ks ≡ o ++ ls)
unfolding extended
extended-begins o [] = ([], sym (append-nil o))
extended-begins o (k ∷ ks) = go (has_expr (expr_of k) o) refl (extended-begins (pushed o k) ks)
  where
    go : (b : Bool) → has_expr (expr_of k) o ≡ b → (ls : List ℕ) × (extended (pushed o k) ks ≡ pushed o k ++ ls) → (ls : List ℕ) × (extended (pushed o k) ks ≡ o ++ ls)
    go true q r = (r.0, r.1 ∙ ap (λ (p : List ℕ). p ++ r.0) (pushed-there o k q))
    go false q r = (k ∷ r.0, r.1 ∙ ap (λ (p : List ℕ). p ++ r.0) (pushed-new o k q) ∙ append_snoc o k r.0)

pub extended-take : (o ks : List ℕ) → take (length o) (extended o ks) ≡ o
extended-take o ks = let w = extended-begins o ks in ap (λ (p : List ℕ). take (length o) p) w.1 ∙ take-append_seam o w.0

-- extending by keys, and then by more
pub extended-append : (o ks ls : List ℕ) → extended o (ks ++ ls) ≡ extended (extended o ks) ls
unfolding extended
extended-append o [] ls = refl
extended-append o (k ∷ ks) ls = extended-append (pushed o k) ks ls

-- what an ordering has, and what it is extended by, is there afterwards
pub extended-keeps : (e : ℕ) (o ks : List ℕ) → has_expr e o ≡ true → has_expr e (extended o ks) ≡ true
unfolding extended
extended-keeps e o [] h = h
extended-keeps e o (k ∷ ks) h = extended-keeps e (pushed o k) ks (pushed-keeps e o k h)

pub extended-has : (e : ℕ) (o ks : List ℕ) → has_expr e ks ≡ true → has_expr e (extended o ks) ≡ true
unfolding extended has_expr
extended-has e o [] h = absurd (true_not_false h refl)
extended-has e o (k ∷ ks) h = go (eqb (expr_of k) e) refl h (extended-has e (pushed o k) ks)
  where
    go : (b : Bool) → eqb (expr_of k) e ≡ b → (b || has_expr e ks) ≡ true → (has_expr e ks ≡ true → has_expr e (extended (pushed o k) ks) ≡ true) → has_expr e (extended (pushed o k) ks) ≡ true
    go true q s r = extended-keeps e (pushed o k) ks (subst (λ (x : ℕ). has_expr x (pushed o k) ≡ true) (eqb-true (expr_of k) e q) (pushed-has o k))
    go false q s r = r s

-- extending by what is there changes nothing, as by the ordering itself
pub extended-there : (o ks : List ℕ) → ((i : ℕ) → i < length ks → has_expr (expr_of (get_or ks i 0)) o ≡ true) → extended o ks ≡ o
unfolding extended
extended-there o [] h = refl
extended-there o (k ∷ ks) h = rw (pushed-there o k (h 0 (omega arith))) (extended-there o ks (λ i l. h (suc i) (omega arith)))

pub extended-itself : (o : List ℕ) → extended o o ≡ o
extended-itself o = extended-there o o (λ i l. place-has (expr_of (get_or o i 0)) o i l refl)

-- keys without a repeat, put after an ordering that has none of them, stay as they are
extended_fresh : (o ks : List ℕ) → NoneTwice (o ++ ks) → extended o ks ≡ o ++ ks
unfolding extended
extended_fresh o [] n = sym (append-nil o)
extended_fresh o (k ∷ ks) n =
    rw (pushed-new o k new) (extended_fresh (o ++ (k ∷ [])) ks (rw (append_snoc o k ks) n) ∙ append_snoc o k ks)
  where
    seam : get_or (o ++ k ∷ ks) (length o) 0 ≡ k
    seam = get_or_at o k ks 0 (length o) refl

    go : (b : Bool) → has_expr (expr_of k) o ≡ b → b ≡ false
    go true q = let p = has-place (expr_of k) o q in
        absurd (n p.0 (length o) p.1 (omega (arith, length-append o (k ∷ ks))) (ap (λ (z : ℕ). expr_of z) (get_or-append o (k ∷ ks) 0 p.0 p.1) ∙ p.2 ∙ ap (λ (z : ℕ). expr_of z) (sym seam)))
    go false q = refl

    new : has_expr (expr_of k) o ≡ false
    new = go (has_expr (expr_of k) o) refl

-- so an ordering without a repeat, built anew, is itself
pub built-same : (o : List ℕ) → NoneTwice o → built o ≡ o
unfolding built
built-same o n = extended_fresh [] o n

extended-one : (o : List ℕ) (k : ℕ) → extended o (k ∷ []) ≡ pushed o k
unfolding extended
extended-one o k = refl

-- pushing after extending is extending by what was pushed
extended-pushed : (a b : List ℕ) (k : ℕ) → extended a (pushed b k) ≡ pushed (extended a b) k
extended-pushed a b k = go (has_expr (expr_of k) b) refl
  where
    go : (t : Bool) → has_expr (expr_of k) b ≡ t → extended a (pushed b k) ≡ pushed (extended a b) k
    go true q = ap (λ (x : List ℕ). extended a x) (pushed-there b k q) ∙ sym (pushed-there (extended a b) k (extended-has (expr_of k) a b q))
    go false q = ap (λ (x : List ℕ). extended a x) (pushed-new b k q) ∙ extended-append a b (k ∷ []) ∙ extended-one (extended a b) k

-- extending may be grouped from the left or from the right
pub extended_grouped : (a b c : List ℕ) → extended (extended a b) c ≡ extended a (extended b c)
unfolding extended
extended_grouped a b [] = refl
extended_grouped a b (k ∷ c) = ap (λ (x : List ℕ). extended x c) (sym (extended-pushed a b k)) ∙ extended_grouped a (pushed b k) c

-- so it makes no difference whether the keys were built to an ordering first
pub extended-built : (o ks : List ℕ) → extended o (built ks) ≡ extended o ks
unfolding built extended
extended-built o ks = sym (extended_grouped o [] ks)

-- pushing, extending and building add no more than the keys that are given
pub pushed-fewer : (o : List ℕ) (k : ℕ) → length (pushed o k) ≤ length o + 1
unfolding pushed
pushed-fewer o k = go (has_expr (expr_of k) o)
  where
    go : (b : Bool) → length (if b then o else o ++ (k ∷ [])) ≤ length o + 1
    go true = omega arith
    go false = omega (arith, length-append o (k ∷ []))

pub extended-fewer : (o ks : List ℕ) → length (extended o ks) ≤ length o + length ks
unfolding extended
extended-fewer o [] = omega arith
extended-fewer o (k ∷ ks) = omega (arith, extended-fewer (pushed o k) ks, pushed-fewer o k)

pub built-fewer : (ks : List ℕ) → length (built ks) ≤ length ks
unfolding built
built-fewer ks = omega (arith, extended-fewer [] ks)

-- building from one key more is pushing it
pub built-more : (ks : List ℕ) (k : ℕ) → built (ks ++ (k ∷ [])) ≡ pushed (built ks) k
unfolding built
built-more ks k = extended-append [] ks (k ∷ []) ∙ extended-one (extended [] ks) k

-- what is extended or built is good, if it is not too long
pub extended-good : (o ks : List ℕ) → GoodOrdering o → length (extended o ks) ≤ 16 → GoodOrdering (extended o ks)
extended-good o ks g h =
    let w = extended-begins o ks in
    let l = ap (λ (p : List ℕ). length p) w.1 ∙ length-append o w.0 in
    record { filled = omega (arith, g.filled); few = h; distinct = extended-none_twice o ks g.distinct }

pub built-good : (ks : List ℕ) → 0 < length ks → length (built ks) ≤ 16 → GoodOrdering (built ks)
unfolding built extended pushed has_expr
built-good [] l h = absurd (omega arith)
built-good (k ∷ ks) l h =
    let w = extended-begins (k ∷ []) ks in
    let e = ap (λ (p : List ℕ). length p) w.1 ∙ length-append (k ∷ []) w.0 in
    record { filled = omega arith; few = h; distinct = built-none_twice (k ∷ ks) }
