-- What says that a struct is the layout of its classes: tables filled up with zeros, sums of sizes, and the members one class after the other.
use Prim.Native.Nat.{ℕ, zero, suc, ◌+◌, ◌-◌, ◌<◌, ◌≤◌}
use mathlib.Core.List.{List, [], ◌∷◌}
use mathlib.Core.Path.{◌≡◌, refl, sym, ap, ◌∙◌, subst}
use native.Mathlib.Decide.{dec_lt}
use native.Mathlib.Omega.{arith}
use lib.ListN.{length, get_or, take}
use lib.Seq.{take-length, ext_get_or}
use Rattle.laws.proofs.Table.{length-table, get_or-table}
use Rattle.classes.specs.Class.{Class}
use Rattle.classes.specs.Group.{class_at, total}
use Rattle.classes.specs.Good.{flat}
use Rattle.classes.specs.Layout.{padded, sum_to, class_in, decode}
use Rattle.classes.specs.declared.Group.{Group}
use Rattle.classes.proofs.Places.{nothing}
use Rattle.classes.proofs.Codec.{at-padded, length-padded, total-take, at-flat}

-- a table of n places with the list's numbers and zeros after them is the list filled up
pub padded-is : (n : ℕ) (xs ys : List ℕ) → length xs ≤ n → length ys ≡ n → ((k : ℕ) → k < n → get_or xs k 0 ≡ get_or ys k 0) → padded n xs ≡ ys
padded-is n xs ys l e h =
    ext_get_or 0 (padded n xs) ys (length-padded n xs l ∙ sym e)
    (λ k b. at-padded n xs k ∙ h k (omega (arith, length-padded n xs l)))

-- where a table holds the classes' sizes, the sum up to j is the total of the first j classes
pub sum-total : (xs : List ℕ) (cs : List Class) → ((j : ℕ) → j < length cs → get_or xs j 0 ≡ length (class_at cs j).members)
    → (j : ℕ) → j ≤ length cs → sum_to xs j ≡ total (take j cs)
unfolding sum_to total
sum-total xs cs h zero l = refl
sum-total xs cs h (suc j) l = omega (arith, sum-total xs cs h j (omega arith), h j l, total-take cs j)

-- the sum up to the number of classes is the total
pub sum-whole : (xs : List ℕ) (cs : List Class) → ((j : ℕ) → j < length cs → get_or xs j 0 ≡ length (class_at cs j).members) → sum_to xs (length cs) ≡ total cs
sum-whole xs cs h = sum-total xs cs h (length cs) (omega arith) ∙ ap total (take-length cs)

-- a place among all members is a place of one class
record Within (cs : List Class) (k : ℕ) : Type 0 where
  class : ℕ
  place : ℕ
  there : class < length cs
  inside : place < length (class_at cs class).members
  is : total (take class cs) + place ≡ k

within : (cs : List Class) (k : ℕ) → k < total cs → Within cs k
unfolding total
within [] k l = absurd (omega arith)
within (c ∷ cs) k l = at (dec_lt k (length c.members)) (within cs (k - length c.members))
  where
    at : Dec (k < length c.members) → (k - length c.members < total cs → Within cs (k - length c.members)) → Within (c ∷ cs) k
    at (yes b) r = record { class = 0; place = k; there = omega arith; inside = b; is = omega arith }
    at (no b) r =
        let w = r (omega arith) in
        record { class = suc w.class; place = w.place; there = omega (arith, w.there); inside = w.inside; is = omega (arith, w.is) }

-- a table that holds each class's members at their places holds all members
pub flat-is : (xs : List ℕ) (cs : List Class)
    → ((j k : ℕ) → j < length cs → k < length (class_at cs j).members → get_or xs (total (take j cs) + k) 0 ≡ get_or (class_at cs j).members k 0)
    → (k : ℕ) → k < total cs → get_or (flat cs) k 0 ≡ get_or xs k 0
flat-is xs cs h k l =
    let w = within cs k l in
    subst (λ (m : ℕ). get_or (flat cs) m 0 ≡ get_or xs m 0) w.is
    (at-flat cs w.class w.place w.inside ∙ sym (h w.class w.place w.there w.inside))

module _ (g : Group) where
  -- a class of a struct
  pub class-decode : (j : ℕ) → j < g.count → class_at (decode g) j ≡ class_in g j
  unfolding decode
  class-decode j l = get_or-table (λ (j : ℕ). class_in g j) g.count j nothing l

  -- the members of class j of a struct
  pub length-class_in : (j : ℕ) → length (class_in g j).members ≡ get_or g.sizes j 0
  unfolding class_in
  length-class_in j = length-table (λ (k : ℕ). get_or g.members (sum_to g.sizes j + k) 0) (get_or g.sizes j 0)

  pub member-class_in : (j k : ℕ) → k < get_or g.sizes j 0 → get_or (class_in g j).members k 0 ≡ get_or g.members (sum_to g.sizes j + k) 0
  unfolding class_in
  member-class_in j k l = get_or-table (λ (k : ℕ). get_or g.members (sum_to g.sizes j + k) 0) (get_or g.sizes j 0) k 0 l
