-- Where expressions stand: how often a number is among the members, the class of an expression, and what a class removed, changed or added comes to.
use Rattle.std.specs.Prelude.{if◌then◌else◌, Option, None, Some}
use Prim.Native.Nat.{ℕ, zero, suc, ◌+◌, ◌-◌, ◌<◌, ◌≤◌}
use mathlib.Core.Bool.{Bool, true, false, ◌||◌}
use mathlib.Core.List.{List, [], ◌∷◌, ◌++◌}
use mathlib.Core.Logic.{◌⊎◌, inl, inr}
use mathlib.Core.Path.{◌≡◌, refl, sym, ap, ◌∙◌, subst}
use native.Mathlib.Decide.{ℕ_discrete, dec_lt}
use native.Mathlib.Omega.{arith}
use borrow.Author.Tests.{eqb-true, eq-eqb, ne_eqb}
use lib.Dec.{eqb}
use lib.ListN.{length, get_or, take, set, length-append, length-set, get_or-append}
use lib.Seq.{take-length, take-suc, set_out, get_or-set_same, get_or-set_other, get_or-take, get_or-append_seam, length-take-le}
use Rattle.laws.proofs.Booleans.{true_not_false}
use Rattle.laws.proofs.First.{first_some, first-none, first-only, first-missing}
use Rattle.classes.specs.Class.{Constant, no_constant, Class, merged}
use Rattle.classes.specs.Group.{among, class_at, class_of, total, removed, length_removed, merged_at}
use Rattle.classes.specs.Good.{flat, Distinct}

-- a sum over a list
unfoldable pub sum : {A : Type 0} → (A → ℕ) → List A → ℕ
sum f [] = 0
sum f (x ∷ l) = f x + sum f l

module _ {A : Type 0} (f : A → ℕ) where
  pub sum-append : (l m : List A) → sum f (l ++ m) ≡ sum f l + sum f m
  unfolding sum
  sum-append [] m = omega arith
  sum-append (x ∷ l) m = let h = sum-append l m in omega arith

  pub sum_one : (x : A) → sum f (x ∷ []) ≡ f x
  unfolding sum
  sum_one x = omega arith

  -- one element is part of it, and so are two
  pub sum-at : (l : List A) (i : ℕ) (d : A) → i < length l → f (get_or l i d) ≤ sum f l
  unfolding sum
  sum-at [] i d h = absurd (omega arith)
  sum-at (x ∷ l) zero d h = omega arith
  sum-at (x ∷ l) (suc i) d h = let r = sum-at l i d (omega arith) in omega arith

  pub sum-two : (l : List A) (i j : ℕ) (d : A) → i < j → j < length l → f (get_or l i d) + f (get_or l j d) ≤ sum f l
  unfolding sum
  sum-two [] i j d a h = absurd (omega arith)
  sum-two (x ∷ l) i zero d a h = absurd (omega arith)
  sum-two (x ∷ l) zero (suc j) d a h = let r = sum-at l j d (omega arith) in omega arith
  sum-two (x ∷ l) (suc i) (suc j) d a h = let r = sum-two l i j d (omega arith) (omega arith) in omega arith

  -- an element in another's place
  pub sum-set : (l : List A) (i : ℕ) (a d : A) → i < length l → sum f (set l i a) + f (get_or l i d) ≡ sum f l + f a
  unfolding sum
  sum-set [] i a d h = absurd (omega arith)
  sum-set (x ∷ l) zero a d h = omega arith
  sum-set (x ∷ l) (suc i) a d h = let r = sum-set l i a d (omega arith) in omega arith

  -- without the last
  pub sum-last : (l : List A) (d : A) → 0 < length l → sum f (take (length l - 1) l) + f (get_or l (length l - 1) d) ≡ sum f l
  sum-last l d h =
      let e : suc (length l - 1) ≡ length l = omega arith in
      let t = sym (take-suc l (length l - 1) d (omega arith)) ∙ ap (λ (n : ℕ). take n l) e ∙ take-length l in
      let s = ap (λ (m : List A). sum f m) t in
      let u = sum-append (take (length l - 1) l) (get_or l (length l - 1) d ∷ []) in
      let w = sum_one (get_or l (length l - 1) d) in
      omega arith

  -- without the one at i, with the last in its place
  pub sum-gap : (l : List A) (i : ℕ) (d : A) → i < length l → sum f (set (take (length l - 1) l) i (get_or l (length l - 1) d)) + f (get_or l i d) ≡ sum f l
  sum-gap l i d h = at (ℕ_discrete i (length l - 1))
    where
      short : length (take (length l - 1) l) ≡ length l - 1
      short = length-take-le (length l - 1) l (omega arith)

      at : Dec (i ≡ length l - 1) → sum f (set (take (length l - 1) l) i (get_or l (length l - 1) d)) + f (get_or l i d) ≡ sum f l
      at (yes e) = rw (e, set_out (take (length l - 1) l) (length l - 1) (get_or l (length l - 1) d) (omega (arith, short))) (sum-last l d (omega arith))
      at (no n) =
          let a = sum-set (take (length l - 1) l) i (get_or l (length l - 1) d) d (omega (arith, short)) in
          let b = sum-last l d (omega arith) in
          let c = ap (λ (x : A). f x) (get_or-take (length l - 1) l i d (omega arith)) in
          omega arith

-- how often a number stands in a list
unfoldable pub count : ℕ → List ℕ → ℕ
count e [] = 0
count e (m ∷ ms) = (if eqb m e then 1 else 0) + count e ms

pub count-append : (e : ℕ) (xs ys : List ℕ) → count e (xs ++ ys) ≡ count e xs + count e ys
unfolding count
count-append e [] ys = omega arith
count-append e (x ∷ xs) ys = let h = count-append e xs ys in omega arith

pub count_same : (e : ℕ) → count e (e ∷ []) ≡ 1
unfolding count
count_same e = rw (eq-eqb e e refl)

pub count-other : (e x : ℕ) → (x ≡ e → ⊥) → count e (x ∷ []) ≡ 0
unfolding count
count-other e x n = rw (ne_eqb x e n)

-- among them: at least once
pub among-once : (e : ℕ) (xs : List ℕ) → among e xs ≡ true → 0 < count e xs
unfolding among count
among-once e [] h = absurd (true_not_false h refl)
among-once e (x ∷ xs) h = go (eqb x e) h (among-once e xs)
  where
    go : (b : Bool) → (b || among e xs) ≡ true → (among e xs ≡ true → 0 < count e xs) → 0 < (if b then 1 else 0) + count e xs
    go true q r = omega arith
    go false q r = let s = r q in omega arith

-- not among them: not once
pub among-never : (e : ℕ) (xs : List ℕ) → among e xs ≡ false → count e xs ≡ 0
unfolding among count
among-never e [] h = refl
among-never e (x ∷ xs) h = go (eqb x e) h (among-never e xs)
  where
    go : (b : Bool) → (b || among e xs) ≡ false → (among e xs ≡ false → count e xs ≡ 0) → (if b then 1 else 0) + count e xs ≡ 0
    go true q r = absurd (true_not_false refl q)
    go false q r = let s = r q in omega arith

pub once-among : (e : ℕ) (xs : List ℕ) → 0 < count e xs → among e xs ≡ true
once-among e xs h = go (among e xs) refl
  where
    go : (b : Bool) → among e xs ≡ b → b ≡ true
    go true q = refl
    go false q = absurd (omega (arith, among-never e xs q))

pub never-among : (e : ℕ) (xs : List ℕ) → count e xs ≡ 0 → among e xs ≡ false
never-among e xs h = go (among e xs) refl
  where
    go : (b : Bool) → among e xs ≡ b → b ≡ false
    go true q = absurd (omega (arith, among-once e xs q))
    go false q = refl

-- among two lists, one after the other
pub among-append : (e : ℕ) (xs ys : List ℕ) → among e (xs ++ ys) ≡ (among e xs || among e ys)
unfolding among
among-append e [] ys = refl
among-append e (x ∷ xs) ys = go (eqb x e) (among-append e xs ys)
  where
    go : (b : Bool) → among e (xs ++ ys) ≡ (among e xs || among e ys) → (b || among e (xs ++ ys)) ≡ ((b || among e xs) || among e ys)
    go true h = refl
    go false h = h

pub among-left : (e : ℕ) (xs ys : List ℕ) → among e xs ≡ true → among e (xs ++ ys) ≡ true
among-left e xs ys h = among-append e xs ys ∙ rw h

pub among-right : (e : ℕ) (xs ys : List ℕ) → among e ys ≡ true → among e (xs ++ ys) ≡ true
among-right e xs ys h = once-among e (xs ++ ys) (omega (arith, count-append e xs ys, among-once e ys h))

pub among-either : (e : ℕ) (xs ys : List ℕ) → among e (xs ++ ys) ≡ true → (among e xs ≡ true) ⊎ (among e ys ≡ true)
among-either e xs ys h = go (among e xs) refl
  where
    go : (b : Bool) → among e xs ≡ b → (b ≡ true) ⊎ (among e ys ≡ true)
    go true q = inl refl
    go false q = inr (once-among e ys (omega (arith, count-append e xs ys, among-once e (xs ++ ys) h, among-never e xs q)))

pub among_one : (e x : ℕ) → among e (x ∷ []) ≡ true → x ≡ e
among_one e x h = go (ℕ_discrete x e)
  where
    go : Dec (x ≡ e) → x ≡ e
    go (yes q) = q
    go (no q) = absurd (omega (arith, count-other e x q, among-once e (x ∷ []) h))

pub one-among : (e : ℕ) → among e (e ∷ []) ≡ true
one-among e = once-among e (e ∷ []) (omega (arith, count_same e))

-- an element is among them
pub get_or-among : (xs : List ℕ) (i : ℕ) → i < length xs → among (get_or xs i 0) xs ≡ true
unfolding among
get_or-among [] i h = absurd (omega arith)
get_or-among (x ∷ xs) zero h = rw (eq-eqb x x refl)
get_or-among (x ∷ xs) (suc i) h = go (eqb x (get_or xs i 0)) (get_or-among xs i (omega arith))
  where
    go : (b : Bool) → among (get_or xs i 0) xs ≡ true → (b || among (get_or xs i 0) xs) ≡ true
    go true r = refl
    go false r = r

-- and what is among them has a place
pub among-place : (e : ℕ) (xs : List ℕ) → among e xs ≡ true → (i : ℕ) × (i < length xs) × (get_or xs i 0 ≡ e)
unfolding among
among-place e [] h = absurd (true_not_false h refl)
among-place e (x ∷ xs) h = go (eqb x e) refl h (among-place e xs)
  where
    go : (b : Bool) → eqb x e ≡ b → (b || among e xs) ≡ true → (among e xs ≡ true → (i : ℕ) × (i < length xs) × (get_or xs i 0 ≡ e))
        → (i : ℕ) × (i < length (x ∷ xs)) × (get_or (x ∷ xs) i 0 ≡ e)
    go true q s r = (0, omega arith, eqb-true x e q)
    go false q s r = let p = r s in (suc p.0, omega (arith, p.1), p.2)

-- no number twice: none stands there more than once
pub distinct-count : (xs : List ℕ) → Distinct xs → (e : ℕ) → count e xs ≤ 1
unfolding count
distinct-count [] d e = omega arith
distinct-count (x ∷ xs) d e = go (eqb x e) refl (distinct-count xs (record { apart = λ i j a b q. d.apart (suc i) (suc j) (omega arith) (omega arith) q }) e)
  where
    go : (b : Bool) → eqb x e ≡ b → count e xs ≤ 1 → (if b then 1 else 0) + count e xs ≤ 1
    go true q r = at (among e xs) refl
      where
        at : (b : Bool) → among e xs ≡ b → 1 + count e xs ≤ 1
        at true s = let p = among-place e xs s in absurd (d.apart 0 (suc p.0) (omega arith) (omega (arith, p.1)) (eqb-true x e q ∙ sym p.2))
        at false s = omega (arith, among-never e xs s)
    go false q r = omega arith

-- where two places have one number, it stands there twice
count_twice : (xs : List ℕ) (i j : ℕ) → i < j → j < length xs → get_or xs i 0 ≡ get_or xs j 0 → 1 < count (get_or xs j 0) xs
unfolding count
count_twice [] i j a b q = absurd (omega arith)
count_twice (x ∷ xs) i zero a b q = absurd (omega arith)
count_twice (x ∷ xs) zero (suc j) a b q =
    rw (eq-eqb x (get_or xs j 0) q) (omega (arith, among-once (get_or xs j 0) xs (get_or-among xs j (omega arith))))
count_twice (x ∷ xs) (suc i) (suc j) a b q = let r = count_twice xs i j (omega arith) (omega arith) q in omega arith

pub count-distinct : (xs : List ℕ) → ((e : ℕ) → count e xs ≤ 1) → Distinct xs
count-distinct xs h = record { apart = λ i j a b q. omega (arith, count_twice xs i j a b q, h (get_or xs j 0)) }

-- a sum of nothing but zeros
sum-zero : {A : Type 0} (f : A → ℕ) (l : List A) (d : A) → ((i : ℕ) → i < length l → f (get_or l i d) ≡ 0) → sum f l ≡ 0
unfolding sum
sum-zero f [] d h = refl
sum-zero f (x ∷ l) d h = let r = sum-zero f l d (λ i b. h (suc i) (omega arith)) in omega (arith, h 0 (omega arith))

-- how often a number is a member
abbrev pub counts : ℕ → List Class → ℕ
counts e cs = sum (λ c. count e c.members) cs

-- no number is a member twice
abbrev pub Once : List Class → Type 0
Once cs = (e : ℕ) → counts e cs ≤ 1

-- the empty class, which stands past the end
abbrev pub nothing : Class
nothing = record { members = []; constant = no_constant }

-- among all members, one class after the other
pub count-flat : (e : ℕ) (cs : List Class) → count e (flat cs) ≡ counts e cs
unfolding flat sum count
count-flat e [] = refl
count-flat e (c ∷ cs) = let h = count-flat e cs in let a = count-append e c.members (flat cs) in omega arith

pub distinct-once : (cs : List Class) → Distinct (flat cs) → Once cs
distinct-once cs d e = omega (arith, count-flat e cs, distinct-count (flat cs) d e)

pub once-distinct : (cs : List Class) → Once cs → Distinct (flat cs)
once-distinct cs o = count-distinct (flat cs) (λ e. omega (arith, count-flat e cs, o e))

pub flat-once : (e : ℕ) (cs : List Class) → among e (flat cs) ≡ true → 0 < counts e cs
flat-once e cs h = omega (arith, count-flat e cs, among-once e (flat cs) h)

pub once-flat : (e : ℕ) (cs : List Class) → 0 < counts e cs → among e (flat cs) ≡ true
once-flat e cs h = once-among e (flat cs) (omega (arith, count-flat e cs))

-- how many members all classes have, as a sum
pub total-sum : (cs : List Class) → total cs ≡ sum (λ c. length c.members) cs
unfolding total sum
total-sum [] = refl
total-sum (c ∷ cs) = let h = total-sum cs in omega arith

pub length-flat : (cs : List Class) → length (flat cs) ≡ total cs
unfolding flat total
length-flat [] = refl
length-flat (c ∷ cs) = let h = length-flat cs in let a = length-append c.members (flat cs) in omega arith

-- a member of a class is a member
pub class-once : (cs : List Class) (e i : ℕ) → i < length cs → among e (class_at cs i).members ≡ true → 0 < counts e cs
class-once cs e i l h =
    let a = among-once e (class_at cs i).members h in
    let b = sum-at (λ (c : Class). count e c.members) cs i nothing l in
    omega arith

-- a member of two classes is a member twice
class_twice : (cs : List Class) (e i j : ℕ) → i < j → j < length cs → among e (class_at cs i).members ≡ true → among e (class_at cs j).members ≡ true → 1 < counts e cs
class_twice cs e i j a l h g =
    let b = sum-two (λ (c : Class). count e c.members) cs i j nothing a l in
    omega (arith, among-once e (class_at cs i).members h, among-once e (class_at cs j).members g)

-- where no number is a member twice, a member has one class
pub one_class : (cs : List Class) → Once cs → (e i j : ℕ) → i < length cs → j < length cs → among e (class_at cs i).members ≡ true → among e (class_at cs j).members ≡ true → j ≡ i
one_class cs o e i j a b h g = go (ℕ_discrete j i) (dec_lt i j)
  where
    go : Dec (j ≡ i) → Dec (i < j) → j ≡ i
    go (yes q) d = q
    go (no q) (yes l) = absurd (omega (arith, class_twice cs e i j l b h g, o e))
    go (no q) (no l) = absurd (omega (arith, class_twice cs e j i (omega arith) a g h, o e))

-- what the class of an expression is
pub class_of-some : (cs : List Class) (e i : ℕ) → class_of cs e ≡ Some i → (i < length cs) × (among e (class_at cs i).members ≡ true)
unfolding class_of
class_of-some cs e i q = let f = first_some (λ (j : ℕ). among e (class_at cs j).members) (length cs) i q in (f.below, f.passes)

pub class_of-none : (cs : List Class) (e : ℕ) → class_of cs e ≡ None → counts e cs ≡ 0
unfolding class_of
class_of-none cs e q =
    sum-zero (λ (c : Class). count e c.members) cs nothing
    (λ i l. among-never e (class_at cs i).members (first-none (λ (j : ℕ). among e (class_at cs j).members) (length cs) q i l))

pub class_of-missing : (cs : List Class) (e : ℕ) → counts e cs ≡ 0 → class_of cs e ≡ None
unfolding class_of
class_of-missing cs e q =
    first-missing (λ (j : ℕ). among e (class_at cs j).members) (length cs)
    (λ i l. never-among e (class_at cs i).members (omega (arith, sum-at (λ (c : Class). count e c.members) cs i nothing l)))

pub class_of-one : (cs : List Class) → Once cs → (e i : ℕ) → i < length cs → among e (class_at cs i).members ≡ true → class_of cs e ≡ Some i
unfolding class_of
class_of-one cs o e i l h = first-only (λ (j : ℕ). among e (class_at cs j).members) (length cs) i l h (λ j b g. one_class cs o e i j l b h g)

-- the same in the words of Good: the class of an expression is unique
pub class_of-only : (cs : List Class) → Distinct (flat cs) → (e i : ℕ) → i < length cs → among e (class_at cs i).members ≡ true → class_of cs e ≡ Some i
class_of-only cs d e i l h = class_of-one cs (distinct-once cs d) e i l h

pub class_of-none-flat : (cs : List Class) (e : ℕ) → class_of cs e ≡ None → among e (flat cs) ≡ false
class_of-none-flat cs e q = never-among e (flat cs) (count-flat e cs ∙ class_of-none cs e q)

pub flat-class_of-none : (cs : List Class) (e : ℕ) → among e (flat cs) ≡ false → class_of cs e ≡ None
flat-class_of-none cs e q = class_of-missing cs e (sym (count-flat e cs) ∙ among-never e (flat cs) q)

-- a class has it: it is among all members
pub class-flat : (cs : List Class) (e i : ℕ) → i < length cs → among e (class_at cs i).members ≡ true → among e (flat cs) ≡ true
class-flat cs e i l h = once-flat e cs (class-once cs e i l h)

-- and what is among all members some class has
pub flat-class : (cs : List Class) (e : ℕ) → among e (flat cs) ≡ true → (i : ℕ) × (i < length cs) × (among e (class_at cs i).members ≡ true)
flat-class cs e h = go (class_of cs e) refl
  where
    go : (o : Option ℕ) → class_of cs e ≡ o → (i : ℕ) × (i < length cs) × (among e (class_at cs i).members ≡ true)
    go None q = absurd (true_not_false h (class_of-none-flat cs e q))
    go (Some i) q = let f = class_of-some cs e i q in (i, f.0, f.1)

-- a class removed
pub removed-gap : (cs : List Class) (i : ℕ) → i < length cs - 1 → class_at (removed cs i) i ≡ class_at cs (length cs - 1)
unfolding removed
removed-gap cs i l =
    get_or-set_same (take (length cs - 1) cs) i (class_at cs (length cs - 1)) nothing (omega (arith, length-take-le (length cs - 1) cs (omega arith)))

pub removed-other : (cs : List Class) (i j : ℕ) → j < length cs - 1 → (j ≡ i → ⊥) → class_at (removed cs i) j ≡ class_at cs j
unfolding removed
removed-other cs i j l n =
    get_or-set_other (take (length cs - 1) cs) i j (class_at cs (length cs - 1)) nothing n ∙ get_or-take (length cs - 1) cs j nothing l

pub counts-removed : (e : ℕ) (cs : List Class) (i : ℕ) → i < length cs → counts e (removed cs i) + count e (class_at cs i).members ≡ counts e cs
unfolding removed
counts-removed e cs i l = sum-gap (λ (c : Class). count e c.members) cs i nothing l

pub total-removed : (cs : List Class) (i : ℕ) → i < length cs → total (removed cs i) + length (class_at cs i).members ≡ total cs
unfolding removed
total-removed cs i l =
    let s = sum-gap (λ (c : Class). length c.members) cs i nothing l in
    omega (arith, total-sum (removed cs i), total-sum cs)

-- a class in another's place
pub counts-set : (e : ℕ) (cs : List Class) (i : ℕ) (c : Class) → i < length cs → counts e (set cs i c) + count e (class_at cs i).members ≡ counts e cs + count e c.members
counts-set e cs i c l = sum-set (λ (c : Class). count e c.members) cs i c nothing l

-- a class with another constant: the members are the same
pub flat-same : (cs : List Class) (i : ℕ) (k : Constant) → flat (set cs i (record { members = (class_at cs i).members; constant = k })) ≡ flat cs
unfolding flat
flat-same [] i k = refl
flat-same (c ∷ cs) zero k = refl
flat-same (c ∷ cs) (suc i) k = ap (λ (t : List ℕ). c.members ++ t) (flat-same cs i k)

pub total-same : (cs : List Class) (i : ℕ) (k : Constant) → total (set cs i (record { members = (class_at cs i).members; constant = k })) ≡ total cs
unfolding total
total-same [] i k = refl
total-same (c ∷ cs) zero k = refl
total-same (c ∷ cs) (suc i) k = omega (arith, total-same cs i k)

-- a class merged in
pub length-merged_at : (cs : List Class) (i : ℕ) (d : Class) → length (merged_at cs i d) ≡ length cs
unfolding merged_at
length-merged_at cs i d = length-set cs i (merged (class_at cs i) d)

pub merged_at-same : (cs : List Class) (i : ℕ) (d : Class) → i < length cs → class_at (merged_at cs i d) i ≡ merged (class_at cs i) d
unfolding merged_at
merged_at-same cs i d l = get_or-set_same cs i (merged (class_at cs i) d) nothing l

pub merged_at-other : (cs : List Class) (i j : ℕ) (d : Class) → (j ≡ i → ⊥) → class_at (merged_at cs i d) j ≡ class_at cs j
unfolding merged_at
merged_at-other cs i j d n = get_or-set_other cs i j (merged (class_at cs i) d) nothing n

pub counts-merged_at : (e : ℕ) (cs : List Class) (i : ℕ) (d : Class) → i < length cs → counts e (merged_at cs i d) ≡ counts e cs + count e d.members
unfolding merged_at merged
counts-merged_at e cs i d l =
    let s = counts-set e cs i (merged (class_at cs i) d) l in
    let a = count-append e (class_at cs i).members d.members in
    omega arith

pub total-merged_at : (cs : List Class) (i : ℕ) (d : Class) → i < length cs → total (merged_at cs i d) ≡ total cs + length d.members
unfolding merged_at merged
total-merged_at cs i d l =
    let s = sum-set (λ (c : Class). length c.members) cs i (merged (class_at cs i) d) nothing l in
    let a = length-append (class_at cs i).members d.members in
    omega (arith, total-sum (merged_at cs i d), total-sum cs)

-- a class at the end
pub counts-more : (e : ℕ) (cs : List Class) (c : Class) → counts e (cs ++ (c ∷ [])) ≡ counts e cs + count e c.members
counts-more e cs c =
    let f : Class → ℕ = λ c. count e c.members in
    sum-append f cs (c ∷ []) ∙ ap (λ (n : ℕ). counts e cs + n) (sum_one f c)

pub total-more : (cs : List Class) (c : Class) → total (cs ++ (c ∷ [])) ≡ total cs + length c.members
total-more cs c =
    let f : Class → ℕ = λ c. length c.members in
    let a = sum-append f cs (c ∷ []) in
    let b = sum_one f c in
    omega (arith, total-sum (cs ++ (c ∷ [])), total-sum cs)

-- what holds for every class
abbrev pub All : (Class → Type 0) → List Class → Type 0
All P cs = (i : ℕ) → i < length cs → P (class_at cs i)

pub all_set : (P : Class → Type 0) (cs : List Class) (i : ℕ) (c : Class) → All P cs → (i < length cs → P c) → All P (set cs i c)
all_set P cs i c h p j l = go (ℕ_discrete j i)
  where
    go : Dec (j ≡ i) → P (class_at (set cs i c) j)
    go (yes q) =
        let b : i < length cs = omega (arith, length-set cs i c) in
        subst (λ (k : ℕ). P (class_at (set cs i c) k)) (sym q) (subst P (sym (get_or-set_same cs i c nothing b)) (p b))
    go (no q) = subst P (sym (get_or-set_other cs i j c nothing q)) (h j (omega (arith, length-set cs i c)))

pub all-removed : (P : Class → Type 0) (cs : List Class) (i : ℕ) → All P cs → All P (removed cs i)
all-removed P cs i h j l = go (ℕ_discrete j i)
  where
    go : Dec (j ≡ i) → P (class_at (removed cs i) j)
    go (yes q) =
        let b : i < length cs - 1 = omega (arith, length_removed cs i) in
        subst (λ (k : ℕ). P (class_at (removed cs i) k)) (sym q) (subst P (sym (removed-gap cs i b)) (h (length cs - 1) (omega arith)))
    go (no q) =
        let b : j < length cs - 1 = omega (arith, length_removed cs i) in
        subst P (sym (removed-other cs i j b q)) (h j (omega arith))

pub all-merged_at : (P : Class → Type 0) (cs : List Class) (i : ℕ) (d : Class) → All P cs → (i < length cs → P (merged (class_at cs i) d)) → All P (merged_at cs i d)
unfolding merged_at
all-merged_at P cs i d h p = all_set P cs i (merged (class_at cs i) d) h p

-- the classes with one more at the end
pub more-old : (cs : List Class) (c : Class) (i : ℕ) → i < length cs → class_at (cs ++ (c ∷ [])) i ≡ class_at cs i
more-old cs c i l = get_or-append cs (c ∷ []) nothing i l

pub more-new : (cs : List Class) (c : Class) → class_at (cs ++ (c ∷ [])) (length cs) ≡ c
more-new cs c = get_or-append_seam cs c [] nothing

pub length_more : (cs : List Class) (c : Class) → length (cs ++ (c ∷ [])) ≡ length cs + 1
length_more cs c = length-append cs (c ∷ [])

pub all_more : (P : Class → Type 0) (cs : List Class) (c : Class) → All P cs → P c → All P (cs ++ (c ∷ []))
all_more P cs c h p j l = go (dec_lt j (length cs))
  where
    go : Dec (j < length cs) → P (class_at (cs ++ (c ∷ [])) j)
    go (yes q) = subst P (sym (more-old cs c j q)) (h j q)
    go (no q) =
        let e : length cs ≡ j = omega (arith, length_more cs c) in
        subst (λ (k : ℕ). P (class_at (cs ++ (c ∷ [])) k)) e (subst P (sym (more-new cs c)) p)
