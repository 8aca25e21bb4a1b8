-- A lent list's classes and members, counted on the way through it.
use Prim.Native.Nat.{ℕ, ◌+◌, ◌<◌, ◌≤◌}
use mathlib.Core.Bool.{true, false}
use mathlib.Core.List.{List, ◌++◌}
use mathlib.Core.Path.{◌≡◌, refl, sym, ap}
use native.Mathlib.Omega.{arith}
use borrow.Author.Tests.{leb-true}
use lib.Dec.{leb}
use lib.ListN.{length, length-append}
use Rattle.laws.proofs.Booleans.{and_left, and_right}
use Rattle.laws.proofs.Table.{length-table}
use Rattle.classes.specs.Class.{Class}
use Rattle.classes.specs.Group.{total}
use Rattle.classes.specs.Good.{flat}
use Rattle.classes.specs.Steps.{fits}
use Rattle.classes.proofs.Places.{length-flat}
use Rattle.classes.proofs.Codec.{flat_append}
use Rattle.conditions.proofs.ConstantLaws.{fits-full, fits-many, fits_both}
use Rattle.lent_classes.specs.Lent.{size_lent, member_lent, class_lent, classes_from, classes_lent}
use Rattle.lent_classes.proofs.LentParts.{classes_end, classes-next}

-- the members of two lists of classes, one after the other
pub total-append : (cs ds : List Class) → total (cs ++ ds) ≡ total cs + total ds
total-append cs ds =
    omega (arith, length-flat (cs ++ ds), ap (λ (t : List ℕ). length t) (flat_append cs ds), length-append (flat cs) (flat ds), length-flat cs, length-flat ds)

-- what fits has few classes and few members
pub fits-few : (cs : List Class) → fits 256 cs ≡ true → length cs ≤ 64
unfolding fits
fits-few cs h = leb-true (length cs) 64 (and_right (leb (total cs) 256) (leb (length cs) 64) h)

pub fits-small : (cs : List Class) → fits 256 cs ≡ true → total cs ≤ 256
unfolding fits
fits-small cs h = leb-true (total cs) 256 (and_left (leb (total cs) 256) (leb (length cs) 64) h)

-- the class at a place has as many members as it says
pub size-lent : (numbers : List ℕ) (at : ℕ) → length (class_lent numbers at).members ≡ size_lent numbers at
unfolding class_lent
size-lent numbers at = length-table (λ k. member_lent numbers at k) (size_lent numbers at)

-- how many classes and members there are from a place on: at the end, and by one class
module _ (numbers : List ℕ) (at : ℕ) where
  pub count_end : length numbers ≤ at → length (classes_from numbers at) ≡ 0
  count_end l = ap (λ (cs : List Class). length cs) (classes_end numbers at l)

  pub total_end : length numbers ≤ at → total (classes_from numbers at) ≡ 0
  unfolding total
  total_end l = ap total (classes_end numbers at l)

  pub count_next : (next : ℕ) → at < length numbers → next ≡ at + 3 + size_lent numbers at → length (classes_from numbers at) ≡ 1 + length (classes_from numbers next)
  count_next next l e = omega (arith, ap (λ (cs : List Class). length cs) (classes-next numbers at next l e))

  pub total-next : (next : ℕ) → at < length numbers → next ≡ at + 3 + size_lent numbers at → total (classes_from numbers at) ≡ size_lent numbers at + total (classes_from numbers next)
  unfolding total
  total-next next l e = omega (arith, ap total (classes-next numbers at next l e), size-lent numbers at)

-- `count` classes with `used` members stand before a place
pub record Counted (numbers : List ℕ) (count used at : ℕ) : Type 0 where
  pub counts : length (classes_lent numbers) ≡ count + length (classes_from numbers at)
  pub sums : total (classes_lent numbers) ≡ used + total (classes_from numbers at)

-- none before the first
pub counted-begins : (numbers : List ℕ) → Counted numbers 0 0 0
unfolding classes_lent
counted-begins numbers = record { counts = omega arith; sums = omega arith }

module _ (numbers : List ℕ) (count used at : ℕ) (v : Counted numbers count used at) where
  -- one class more
  pub counted-on : (size next : ℕ) → at < length numbers → size ≡ size_lent numbers at → next ≡ at + 3 + size_lent numbers at → Counted numbers (count + 1) (used + size) next
  counted-on size next l s e = record {
    counts = omega (arith, v.counts, count_next numbers at next l e);
    sums = omega (arith, v.sums, s, total-next numbers at next l e);
  }

  -- a class after the first 64, and a member after the first 256
  pub counted-many : at < length numbers → 64 ≤ count → false ≡ fits 256 (classes_lent numbers)
  counted-many l m = sym (fits-many 256 (classes_lent numbers) (omega (arith, v.counts, count_next numbers at (at + 3 + size_lent numbers at) l refl)))

  pub counted-full : at < length numbers → 256 < used + size_lent numbers at → false ≡ fits 256 (classes_lent numbers)
  counted-full l m = sym (fits-full 256 (classes_lent numbers) (omega (arith, v.sums, total-next numbers at (at + 3 + size_lent numbers at) l refl)))

  -- the end
  pub counted-ends : length numbers ≤ at → count ≤ 64 → used ≤ 256 → true ≡ fits 256 (classes_lent numbers)
  counted-ends l few small =
      sym (fits_both 256 (classes_lent numbers) (omega (arith, v.sums, total_end numbers at l)) (omega (arith, v.counts, count_end numbers at l)))
