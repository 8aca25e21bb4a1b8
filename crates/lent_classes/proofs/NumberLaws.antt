-- The number of the check of a list of classes by its tests: which test gives which number, and what a list that passes has passed.
use Rattle.std.specs.Prelude.{if◌then◌else◌}
use Prim.Native.Nat.{ℕ}
use mathlib.Core.Bool.{Bool, true, false, ◌&&◌}
use mathlib.Core.List.{List}
use mathlib.Core.Path.{◌≡◌, refl, sym, ap, ◌∙◌}
use native.Mathlib.Omega.{arith}
use lib.ListN.{length}
use Rattle.arena.specs.Layout.{count, lawful, decode as nodes}
use Rattle.arena.specs.Refusals.{outcome, refusal, number_of}
use Rattle.arena.proofs.Layouts.{length-decode}
use Rattle.arena.proofs.Refusals.{Listed, listed-if}
use Rattle.classes.specs.Steps.{fits}
use Rattle.lent_classes.specs.Lent.{flavours_known, whole, members_apart, literals_uniform, members_below, classes_lent}
use Rattle.lent_classes.specs.Check.{new_number}

-- the check of a list of classes
module _ (cells numbers : List ℕ) where
  pub new-flavours : flavours_known numbers ≡ false → 12 ≡ new_number cells numbers
  unfolding new_number
  new-flavours f = rw f

  pub new-arena : flavours_known numbers ≡ true → lawful cells ≡ false → 11 ≡ new_number cells numbers
  unfolding new_number
  new-arena f a = rw (f, a)

  pub new-whole : flavours_known numbers ≡ true → lawful cells ≡ true → whole numbers ≡ false → 11 ≡ new_number cells numbers
  unfolding new_number
  new-whole f a w = rw (f, a, w)

  pub new_apart : flavours_known numbers ≡ true → lawful cells ≡ true → whole numbers ≡ true → members_apart numbers ≡ false → 11 ≡ new_number cells numbers
  unfolding new_number
  new_apart f a w p = rw (f, a, w, p)

  -- once the list is apart
  module _ (f : flavours_known numbers ≡ true) (a : lawful cells ≡ true) (w : whole numbers ≡ true) (p : members_apart numbers ≡ true) where
    pub new-uniform : literals_uniform (nodes cells) numbers ≡ false → 11 ≡ new_number cells numbers
    unfolding new_number
    new-uniform u = rw (f, a, w, p, u)

    pub new-below : literals_uniform (nodes cells) numbers ≡ true → (n : ℕ) → n ≡ count cells → members_below n numbers ≡ false → 1 ≡ new_number cells numbers
    unfolding new_number
    new-below u n e m =
        let b : members_below (length (nodes cells)) numbers ≡ false = ap (λ (k : ℕ). members_below k numbers) (length-decode cells ∙ sym e) ∙ m in
        rw (f, a, w, p, u, b)

    pub new-fits : literals_uniform (nodes cells) numbers ≡ true → (n : ℕ) → n ≡ count cells → members_below n numbers ≡ true → (t : Bool) → fits 256 (classes_lent numbers) ≡ t → (if t then 0 else 4) ≡ new_number cells numbers
    unfolding new_number
    new-fits u n e m t q =
        let b : members_below (length (nodes cells)) numbers ≡ true = ap (λ (k : ℕ). members_below k numbers) (length-decode cells ∙ sym e) ∙ m in
        rw (f, a, w, p, u, b, q)

  -- its number stands in the table
  pub new-listed : Listed (new_number cells numbers)
  unfolding new_number outcome refusal
  new-listed =
      listed-if (flavours_known numbers) _ 12
      (listed-if (lawful cells && (whole numbers && members_apart numbers && literals_uniform (nodes cells) numbers)) _ 11
      (listed-if (members_below (length (nodes cells)) numbers) _ 1 (listed-if (fits 256 (classes_lent numbers)) 0 4 refl refl) refl)
      refl)
      refl

-- its number by its tests
abbrev new_by : Bool → Bool → Bool → Bool → ℕ
new_by f b m t = if f then (if b then (if m then (if t then 0 else 4) else 1) else 11) else 12

new_by_lem : (f l w a u m t : Bool) → new_by f (l && (w && a && u)) m t ≡ 0 → (f ≡ true) × ((w ≡ true) × (t ≡ true))
new_by_lem false l w a u m t e = absurd (omega arith)
new_by_lem true false w a u m t e = absurd (omega arith)
new_by_lem true true false a u m t e = absurd (omega arith)
new_by_lem true true true false u m t e = absurd (omega arith)
new_by_lem true true true true false m t e = absurd (omega arith)
new_by_lem true true true true true false t e = absurd (omega arith)
new_by_lem true true true true true true false e = absurd (omega arith)
new_by_lem true true true true true true true e = (refl, (refl, refl))

-- a list that passes has known flavours, is whole, and fits
pub new-passes : (cells numbers : List ℕ) → new_number cells numbers ≡ 0 → (flavours_known numbers ≡ true) × ((whole numbers ≡ true) × (fits 256 (classes_lent numbers) ≡ true))
unfolding new_number
new-passes cells numbers e =
    new_by_lem (flavours_known numbers) (lawful cells) (whole numbers) (members_apart numbers) (literals_uniform (nodes cells) numbers) (members_below (length (nodes cells)) numbers) (fits 256 (classes_lent numbers)) e
