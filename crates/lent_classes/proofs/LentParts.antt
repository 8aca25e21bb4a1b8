-- Walking the classes of a lent list, as the code does: a test of each class from a place on, what `whole` says of the places that the walk reaches, and the tests of one class by its members.
use Prim.Native.Nat.{ℕ, ◌+◌, ◌<◌, ◌≤◌}
use mathlib.Core.Bool.{Bool, true, false, not, ◌&&◌, ◌||◌}
use mathlib.Core.List.{List, [], ◌∷◌}
use mathlib.Core.Path.{◌≡◌, refl, sym, ap, ◌∙◌}
use borrow.Author.Tests.{leb-true}
use lib.Dec.{eqb, ltb, leb}
use lib.ListN.{length}
use Rattle.laws.specs.Parts.{parts_end, parts_next, each_end, each_next}
use Rattle.laws.proofs.Booleans.{and_left, and_right}
use Rattle.arena.specs.Node.{Node, node_at}
use Rattle.classes.specs.Layout.{is_literal}
use Rattle.lent_classes.specs.Lent.{flavour_lent, size_lent, member_lent, next_class, next-after, each_from, class_lent, classes_from}
use Rattle.lent_classes.specs.Inner.{At}

-- the tests of member k of the class at a place: it is not member i, it may stand in a class of this flavour, it is below m
abbrev pub Unlike : List ℕ → ℕ → ℕ → ℕ → Bool
Unlike numbers at k i = not (eqb (member_lent numbers at i) (member_lent numbers at k))

abbrev pub FitsAt : List Node → List ℕ → ℕ → ℕ → Bool
FitsAt ns numbers at k = not (ltb (member_lent numbers at k) (length ns) && is_literal (node_at ns (member_lent numbers at k))) || leb 2 (flavour_lent numbers at)

abbrev pub Below : ℕ → List ℕ → ℕ → ℕ → Bool
Below m numbers at k = ltb (member_lent numbers at k) m

-- the class at a place ends within the list
abbrev pub WholeAt : List ℕ → ℕ → Bool
WholeAt numbers at = leb (next_class numbers at) (length numbers)

-- the classes from a place on: at the end, and by one class
module _ (numbers : List ℕ) (at : ℕ) where
  pub classes_end : length numbers ≤ at → classes_from numbers at ≡ []
  classes_end l = parts_end (class_lent numbers) (next_class numbers) (length numbers) (next-after numbers) at l

  pub classes-next : (next : ℕ) → at < length numbers → next ≡ at + 3 + size_lent numbers at → classes_from numbers at ≡ class_lent numbers at ∷ classes_from numbers next
  unfolding next_class
  classes-next next l e =
      parts_next (class_lent numbers) (next_class numbers) (length numbers) (next-after numbers) at l ∙ ap (λ (t : ℕ). class_lent numbers at ∷ classes_from numbers t) (sym e)

-- a test of each class
module _ (p : ℕ → Bool) (numbers : List ℕ) where
  -- from a place on, by one class
  each-here : (at next : ℕ) → at < length numbers → next ≡ at + 3 + size_lent numbers at → each_from p numbers at ≡ (p at && each_from p numbers next)
  unfolding next_class
  each-here at next l e = each_next p (next_class numbers) (length numbers) (next-after numbers) at l ∙ ap (λ (t : ℕ). p at && each_from p numbers t) (sym e)

  -- the loop over all classes: what is left of the answer is the answer from here; it goes on, stops, and ends
  abbrev pub Going : ℕ → Type 0
  Going at = each_from p numbers 0 ≡ each_from p numbers at

  pub going_on : (at next : ℕ) → at < length numbers → next ≡ at + 3 + size_lent numbers at → Going at → p at ≡ true → Going next
  going_on at next l e g h = g ∙ each-here at next l e ∙ ap (λ (t : Bool). t && each_from p numbers next) h

  pub going-stops : (at : ℕ) → at < length numbers → Going at → p at ≡ false → false ≡ each_from p numbers 0
  going-stops at l g h = sym (g ∙ each-here at (at + 3 + size_lent numbers at) l refl ∙ ap (λ (t : Bool). t && each_from p numbers (at + 3 + size_lent numbers at)) h)

  pub going-ends : (at : ℕ) → length numbers ≤ at → Going at → true ≡ each_from p numbers 0
  going-ends at l g = sym (g ∙ each_end p (next_class numbers) (length numbers) (next-after numbers) at l)

  -- a test that passes from a place on passes there, and from the next class on
  pub passes-here : (at : ℕ) → at < length numbers → each_from p numbers at ≡ true → p at ≡ true
  passes-here at l h = and_left (p at) (each_from p numbers (at + 3 + size_lent numbers at)) (sym (each-here at (at + 3 + size_lent numbers at) l refl) ∙ h)

  pub passes_on : (at next : ℕ) → at < length numbers → next ≡ at + 3 + size_lent numbers at → each_from p numbers at ≡ true → each_from p numbers next ≡ true
  passes_on at next l e h = and_right (p at) (each_from p numbers next) (sym (each-here at next l e) ∙ h)

-- in a list that is whole from a place on the class there is whole
pub whole-at : (numbers : List ℕ) (at : ℕ) → at < length numbers → each_from (WholeAt numbers) numbers at ≡ true → At numbers at
unfolding next_class
whole-at numbers at l h = record { begins = l; ends = leb-true (at + 3 + size_lent numbers at) (length numbers) (passes-here (WholeAt numbers) numbers at l h) }
