-- Classes that say nothing: which they are by their size and their flavour, and what is left when they go, back to front.
use Prim.Native.Nat.{ℕ, zero, suc, ◌-◌, ◌<◌, ◌≤◌}
use mathlib.Core.Bool.{Bool, true, false, not}
use mathlib.Core.List.{List}
use mathlib.Core.Path.{◌≡◌, refl, sym, ap, ◌∙◌}
use native.Mathlib.Omega.{arith}
use borrow.Author.Tests.{eq-eqb, ne_eqb}
use lib.Dec.{eqb}
use lib.ListN.{length, get_or}
use Rattle.classes.specs.declared.Constant.{Constant}
use Rattle.classes.specs.declared.Constant.TheVariants.{NoConstant as no_constant, Heterogeneous as heterogeneous, Unknown as unknown, Known as known}
use Rattle.classes.specs.Class.{Class, is_constant}
use Rattle.classes.specs.Group.{class_at, total, removed, length_removed}
use Rattle.classes.specs.Layout.{flavour_of, encode, decode}
use Rattle.classes.specs.Inner.{Coded}
use Rattle.classes.specs.declared.Group.{Group}
use Rattle.classes.proofs.Codec.{built-count, built-limit, built-classes, built-coded, length-decode, used-is, size_is, flavour-is}
use Rattle.classes.proofs.Places.{total-removed}
use Rattle.merging.specs.Extending.{is_trivial}
use Rattle.merging.specs.Merging.{dropped_at, drop_below, kept_classes}

-- only where there is no constant the flavour is 0
flavour-none : (k : Constant) → eqb (flavour_of k) 0 ≡ not (is_constant k)
unfolding flavour_of is_constant
flavour-none no_constant = refl
flavour-none heterogeneous = refl
flavour-none unknown = refl
flavour-none (known v) = refl

-- a class by its size and its flavour
module _ (g : Group) (v : Coded g) (i : ℕ) where
  pub trivial_empty : get_or g.sizes i 0 ≡ 0 → true ≡ is_trivial (class_at (decode g) i)
  unfolding is_trivial
  trivial_empty e = rw (eq-eqb (length (class_at (decode g) i).members) 0 (sym (size_is g v i) ∙ e))

  pub trivial_larger : (get_or g.sizes i 0 ≡ 0 → ⊥) → (get_or g.sizes i 0 ≡ 1 → ⊥) → false ≡ is_trivial (class_at (decode g) i)
  unfolding is_trivial
  trivial_larger n m =
      rw (ne_eqb (length (class_at (decode g) i).members) 0 (λ e. n (size_is g v i ∙ e)), ne_eqb (length (class_at (decode g) i).members) 1 (λ e. m (size_is g v i ∙ e)))

  pub trivial_one : (get_or g.sizes i 0 ≡ 0 → ⊥) → get_or g.sizes i 0 ≡ 1 → eqb (get_or g.flavours i 0) 0 ≡ is_trivial (class_at (decode g) i)
  unfolding is_trivial
  trivial_one n e =
      rw (ne_eqb (length (class_at (decode g) i).members) 0 (λ e. n (size_is g v i ∙ e)), eq-eqb (length (class_at (decode g) i).members) 1 (sym (size_is g v i) ∙ e), flavour-is g v i)
      (flavour-none (class_at (decode g) i).constant)

-- the class at a place, dropped if it says nothing
module _ (cs : List Class) (i : ℕ) where
  dropped-gone : is_trivial (class_at cs i) ≡ true → dropped_at cs i ≡ removed cs i
  unfolding dropped_at
  dropped-gone q = rw q

  dropped-kept : is_trivial (class_at cs i) ≡ false → dropped_at cs i ≡ cs
  unfolding dropped_at
  dropped-kept q = rw q

  -- at most one class is gone
  pub dropped-most : length cs - 1 ≤ length (dropped_at cs i)
  dropped-most = go (is_trivial (class_at cs i)) refl
    where
      go : (b : Bool) → is_trivial (class_at cs i) ≡ b → length cs - 1 ≤ length (dropped_at cs i)
      go true q = rw (dropped-gone q) (omega (arith, length_removed cs i))
      go false q = rw (dropped-kept q) (omega arith)

  -- and none is new
  pub dropped-few : length (dropped_at cs i) ≤ length cs
  dropped-few = go (is_trivial (class_at cs i)) refl
    where
      go : (b : Bool) → is_trivial (class_at cs i) ≡ b → length (dropped_at cs i) ≤ length cs
      go true q = rw (dropped-gone q) (omega (arith, length_removed cs i))
      go false q = rw (dropped-kept q) (omega arith)

  -- so there are no more members
  pub dropped-small : i < length cs → total (dropped_at cs i) ≤ total cs
  dropped-small l = go (is_trivial (class_at cs i)) refl
    where
      go : (b : Bool) → is_trivial (class_at cs i) ≡ b → total (dropped_at cs i) ≤ total cs
      go true q = rw (dropped-gone q) (omega (arith, total-removed cs i l))
      go false q = rw (dropped-kept q) (omega arith)

-- one place after the other: the list so far
pub below_none : (cs : List Class) → drop_below 0 cs ≡ cs
unfolding drop_below
below_none cs = refl

pub below_next : (i : ℕ) (cs : List Class) → 0 < i → drop_below i cs ≡ drop_below (i - 1) (dropped_at cs (i - 1))
unfolding drop_below
below_next zero cs l = absurd (omega arith)
below_next (suc i) cs l = let e : i ≡ suc i - 1 = omega arith in ap (λ (n : ℕ). drop_below n (dropped_at cs n)) e

-- the struct
module _ (g : Group) (v : Coded g) (i : ℕ) where
  -- one class
  pub drop-gone : (b : Bool) → b ≡ is_trivial (class_at (decode g) i) → b ≡ true → (r : Group) → r ≡ encode g.limit (removed (decode g) i) → r ≡ encode g.limit (dropped_at (decode g) i)
  drop-gone b t h r q = q ∙ ap (λ (cs : List Class). encode g.limit cs) (sym (dropped-gone (decode g) i (sym t ∙ h)))

  pub drop-kept : (b : Bool) → b ≡ is_trivial (class_at (decode g) i) → b ≡ false → g ≡ encode g.limit (dropped_at (decode g) i)
  drop-kept b t h = sym v.coded ∙ ap (λ (cs : List Class). encode g.limit cs) (sym (dropped-kept (decode g) i (sym t ∙ h)))

-- what is kept of g so far: the places before i are still to be looked at
pub record Kept (g : Group) (out : Group) (i : ℕ) : Type 0 where
  pub coded : Coded out
  pub limit : out.limit ≡ g.limit
  pub below : i ≤ out.count
  pub goes : drop_below i (decode out) ≡ kept_classes (decode g)

-- it begins with all of them
pub kept-begins : (g : Group) → Coded g → Kept g g g.count
unfolding kept_classes
kept-begins g v = record { coded = v; limit = refl; below = omega arith; goes = ap (λ (n : ℕ). drop_below n (decode g)) (sym (length-decode g)) }

-- one place less
pub kept_next : (g out : Group) (i : ℕ) → 0 < i → Kept g out i → (r : Group) → r ≡ encode out.limit (dropped_at (decode out) (i - 1)) → Kept g r (i - 1)
kept_next g out i l k r p =
    let cs = dropped_at (decode out) (i - 1) in
    record {
      coded = built-coded out.limit cs r p (omega (arith, dropped-few (decode out) (i - 1), length-decode out, k.coded.few)) (omega (arith, dropped-small (decode out) (i - 1) (omega (arith, length-decode out, k.below)), used-is out k.coded, k.coded.small));
      limit = built-limit out.limit cs r p ∙ k.limit;
      below = omega (arith, built-count out.limit cs r p, dropped-most (decode out) (i - 1), length-decode out, k.below);
      goes = ap (λ (ds : List Class). drop_below (i - 1) ds) (built-classes out.limit cs r p) ∙ sym (below_next i (decode out) l) ∙ k.goes;
    }

-- and ends with none
pub kept-ends : (g out : Group) (i : ℕ) → i ≤ 0 → Kept g out i → out ≡ encode g.limit (kept_classes (decode g))
kept-ends g out i l k =
    let z : i ≡ 0 = omega arith in
    sym k.coded.coded
    ∙ ap (λ (n : ℕ). encode n (decode out)) k.limit
    ∙ ap (λ (cs : List Class). encode g.limit cs) (sym (below_none (decode out)) ∙ ap (λ (n : ℕ). drop_below n (decode out)) (sym z) ∙ k.goes)
