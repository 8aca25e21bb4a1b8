-- The answer of `new`, by its number.
use Prim.Native.Nat.{ℕ}
use mathlib.Core.Bool.{true}
use mathlib.Core.List.{List}
use mathlib.Core.Path.{◌≡◌, ap, ◌∙◌}
use native.Mathlib.Omega.{arith}
use Rattle.std.specs.Prelude.{Ok, Err}
use Rattle.arena.specs.declared.Refusal.{Refusal}
use Rattle.arena.specs.Refusals.{outcome, refusal_number}
use Rattle.arena.proofs.Refusals.{ok-zero, done-zero, err-refusal, refused-number}
use lib.ListN.{length}
use Rattle.classes.specs.Class.{Class}
use Rattle.classes.specs.Group.{total}
use Rattle.classes.specs.Steps.{fits}
use Rattle.classes.specs.Layout.{encode, decode}
use Rattle.classes.specs.Calls.{no_group}
use Rattle.classes.specs.Inner.{Coded}
use Rattle.classes.specs.declared.Group.{Group}
use Rattle.classes.specs.declared.Changed.{Changed}
use Rattle.classes.proofs.Codec.{built-classes, built-coded}
use Rattle.merging.specs.Merging.{from_classes}
use Rattle.lent_classes.specs.Lent.{classes_lent}
use Rattle.merging.specs.Calls.{made_group, new_answer}
use Rattle.lent_classes.specs.Check.{new_number}
use Rattle.merging.proofs.Smaller.{from-few, from-small}
use Rattle.lent_classes.proofs.ListCounts.{fits-few, fits-small}
use Rattle.lent_classes.proofs.NumberLaws.{new-passes, new-listed}

module _ (cells numbers : List ℕ) where
  -- a list that is refused
  pub new-refused : (why : Refusal) → outcome (new_number cells numbers) ≡ Err why → no_group (refusal_number why) ≡ new_answer cells numbers
  unfolding new_answer
  new-refused why h =
      let e = err-refusal _ why h in
      rw e.0 (ap no_group (ap refusal_number e.1 ∙ refused-number _ (new-listed cells numbers) e.0))

  -- one that passes
  module _ (z : outcome (new_number cells numbers) ≡ Ok tt) (list : Group) (l : list ≡ encode 256 (classes_lent numbers)) where
    passed : fits 256 (classes_lent numbers) ≡ true
    passed = (new-passes cells numbers (done-zero _ z)).1.1

    -- the list is a group's, and so is what is made of it
    pub list-coded : Coded list
    list-coded = built-coded 256 (classes_lent numbers) list l (fits-few (classes_lent numbers) passed) (fits-small (classes_lent numbers) passed)

    abbrev made : List Class
    made = from_classes (decode list)

    classes : decode list ≡ classes_lent numbers
    classes = built-classes 256 (classes_lent numbers) list l

    pub group-coded : (g : Group) → g ≡ encode list.limit (from_classes (decode list)) → Coded g
    group-coded g p =
        built-coded list.limit made g p
        (omega (arith, from-few (decode list), ap (λ (cs : List Class). length cs) classes, fits-few (classes_lent numbers) passed))
        (omega (arith, from-small (decode list), ap total classes, fits-small (classes_lent numbers) passed))

    pub new-made : (g : Group) → g ≡ encode list.limit (from_classes (decode list)) → (r : Changed) → r ≡ made_group (decode g) → r ≡ new_answer cells numbers
    unfolding new_answer
    new-made g p r q =
        q ∙ ap made_group (built-classes list.limit made g p ∙ ap from_classes classes) ∙ rw (ok-zero _ z)
