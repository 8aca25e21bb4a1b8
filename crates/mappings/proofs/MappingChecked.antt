-- What is lent and passes the check: its mapping is whole and small, its group passes, and its struct is checked.
use Rattle.std.specs.Prelude.{if◌then◌else◌}
use Prim.Native.Nat.{ℕ, ◌+◌, ◌<◌, ◌≤◌}
use mathlib.Core.Bool.{Bool, true, false, not, ◌&&◌}
use mathlib.Core.List.{List, []}
use mathlib.Core.Path.{◌≡◌, refl, sym, ap, ◌∙◌}
use native.Mathlib.Omega.{arith}
use borrow.Author.Tests.{leb-true, lt-ltb, eqb-true, eqb-false, not-true}
use lib.Dec.{eqb, ltb, leb}
use lib.ListN.{length}
use Rattle.laws.proofs.Booleans.{true_not_false, and_left, and_right, and_both}
use Rattle.laws.proofs.Each.{each_holds}
use Rattle.laws.proofs.Table.{length-table}
use Rattle.arena.specs.Layout.{decode as nodes}
use Rattle.classes.specs.Layout.{in_set}
use Rattle.classes.specs.Calls.{group_number}
use Rattle.classes.specs.declared.Group.{Group}
use Rattle.mappings.specs.Mapping.{Mapped, mapped_at, sources_apart, mapped_below, mapping_below}
use Rattle.mappings.specs.Lent.{target_count, target_lent, next_source, next-after, empty_at, targets_given, whole_at, whole, mapped_lent, mapping_lent, lawful_mapping}
use Rattle.mappings.specs.Layout.{place_in, mapped_of, decode, Checked}
use Rattle.mappings.specs.Calls.{project_number}
use Rattle.mappings.specs.declared.Mapping.{Mapping}
use Rattle.mappings.proofs.Walks.{Reached, reached}
use Rattle.mappings.proofs.Targets.{mapped-length, decode-length, decode-at}
use Rattle.mappings.proofs.StructTests.{SourceBelow, mapping_below-of, below-expr, below-target}

-- the number by its tests
abbrev number_by : Bool → Bool → Bool → Bool → Bool → Bool → Bool → ℕ → ℕ
number_by t s w l a e b n = if t && s then (if w && l && a then (if e then (if b then 0 else 1) else n) else 11) else 12

-- what has passed
pub record Passed (cells numbers : List ℕ) (g : Group) : Type 0 where
  pub given : targets_given numbers ≡ true
  pub whole-list : whole numbers ≡ true
  pub few : length (mapping_lent numbers) ≤ 64
  pub group : group_number cells g ≡ 0
  pub below : mapping_below (length (nodes cells)) (mapping_lent numbers) ≡ true

number_by_lem : (t s w l a e b : Bool) (n : ℕ) → eqb n 0 ≡ e → number_by t s w l a e b n ≡ 0 → (t ≡ true) × ((w ≡ true) × ((l ≡ true) × ((n ≡ 0) × (b ≡ true))))
number_by_lem false s w l a e b n q z = absurd (omega arith)
number_by_lem true false w l a e b n q z = absurd (omega arith)
number_by_lem true true false l a e b n q z = absurd (omega arith)
number_by_lem true true true false a e b n q z = absurd (omega arith)
number_by_lem true true true true false e b n q z = absurd (omega arith)
number_by_lem true true true true true false b n q z = absurd (eqb-false n 0 q z)
number_by_lem true true true true true true false n q z = absurd (omega arith)
number_by_lem true true true true true true true n q z = (refl, (refl, (refl, (eqb-true n 0 q, refl))))

pub project-passes : (cells numbers : List ℕ) (g : Group) → project_number cells g numbers ≡ 0 → Passed cells numbers g
unfolding project_number lawful_mapping
project-passes cells numbers g z =
    let r = number_by_lem (targets_given numbers) (in_set g) (whole numbers) (leb (length (mapping_lent numbers)) 64) (sources_apart (mapping_lent numbers))
    (eqb (group_number cells g) 0) (mapping_below (length (nodes cells)) (mapping_lent numbers)) (group_number cells g) refl z in
    record { given = r.0; whole-list = r.1.0; few = leb-true (length (mapping_lent numbers)) 64 r.1.1.0; group = r.1.1.1.0; below = r.1.1.1.1 }

-- its mapping is whole, with at most 64 sources, and its group passes
pub mapping-whole : (cells numbers : List ℕ) (g : Group) → project_number cells g numbers ≡ 0 → (whole numbers ≡ true) × (length (mapping_lent numbers) ≤ 64)
mapping-whole cells numbers g z = let v = project-passes cells numbers g z in (v.whole-list, v.few)

pub group-passes : (cells numbers : List ℕ) (g : Group) → project_number cells g numbers ≡ 0 → group_number cells g ≡ 0
group-passes cells numbers g z = (project-passes cells numbers g z).group

-- a source at a place: how many targets it has
pub lent_length : (numbers : List ℕ) (at : ℕ) → length (mapped_lent numbers at).targets ≡ target_count numbers at
unfolding mapped_lent
lent_length numbers at = length-table (λ k. target_lent numbers at k) (target_count numbers at)

-- one that is whole: it ends within the list, and has at most 8 targets
pub whole-ends : (numbers : List ℕ) (at : ℕ) → whole_at numbers at ≡ true → at + 2 + target_count numbers at ≤ length numbers
unfolding whole_at next_source
whole-ends numbers at h =
    leb-true (at + 2 + target_count numbers at) (length numbers) (and_left (leb (at + 2 + target_count numbers at) (length numbers)) (leb (target_count numbers at) 8) h)

pub whole-few : (numbers : List ℕ) (at : ℕ) → whole_at numbers at ≡ true → target_count numbers at ≤ 8
unfolding whole_at
whole-few numbers at h = leb-true (target_count numbers at) 8 (and_right (leb (next_source numbers at) (length numbers)) (leb (target_count numbers at) 8) h)

-- one that says that it has none, and is whole, is what `targetsGiven` refuses
given-some : (numbers : List ℕ) (at : ℕ) → whole_at numbers at ≡ true → not (empty_at numbers at) ≡ true → 0 < target_count numbers at
unfolding empty_at
given-some numbers at w h = go (eqb (target_count numbers at) 0) refl
  where
    inside : ltb (at + 1) (length numbers) ≡ true
    inside = lt-ltb (at + 1) (length numbers) (omega (arith, whole-ends numbers at w))

    go : (b : Bool) → eqb (target_count numbers at) 0 ≡ b → 0 < target_count numbers at
    go true q = absurd (true_not_false (and_both inside q) (not-true (ltb (at + 1) (length numbers) && eqb (target_count numbers at) 0) h))
    go false q = let n : target_count numbers at ≡ 0 → ⊥ = eqb-false (target_count numbers at) 0 q in omega arith

-- source i of a list
module _ (numbers : List ℕ) (i : ℕ) (l : i < length (mapping_lent numbers)) where
  -- it stands at a place of the list
  place_of : Reached (mapped_lent numbers) (next_source numbers) (length numbers) 0 i (record { source = 0; targets = [] })
  unfolding mapping_lent
  place_of = reached (mapped_lent numbers) (next_source numbers) (length numbers) (next-after numbers) (record { source = 0; targets = [] }) 0 i l

  -- and has as many targets as the list says there
  size_of : length (mapped_at (mapping_lent numbers) i).targets ≡ target_count numbers place_of.place
  unfolding mapping_lent
  size_of = ap (λ (p : Mapped). length p.targets) place_of.is ∙ lent_length numbers place_of.place

  -- at most 8 of a list that is whole
  lent-few : whole numbers ≡ true → length (mapped_at (mapping_lent numbers) i).targets ≤ 8
  unfolding whole
  lent-few w = omega (arith, size_of, whole-few numbers place_of.place (place_of.passes (whole_at numbers) w))

  -- and at least one, where no source says that it has none
  pub lent-some : whole numbers ≡ true → targets_given numbers ≡ true → 0 < length (mapped_at (mapping_lent numbers) i).targets
  unfolding whole targets_given
  lent-some w t = omega (arith, size_of, given-some numbers place_of.place (place_of.passes (whole_at numbers) w) (place_of.passes (λ at. not (empty_at numbers at)) t))

-- the struct of a list
module _ (numbers : List ℕ) (m : Mapping) (e : decode m ≡ mapping_lent numbers) where
  lent-place : (i : ℕ) → i < m.count → i < length (mapping_lent numbers)
  lent-place i l = omega (arith, decode-length m, ap (λ (ps : List Mapped). length ps) e)

  lent-size : (i : ℕ) → i < m.count → (place_in m i).size ≡ length (mapped_at (mapping_lent numbers) i).targets
  lent-size i l =
      sym (mapped-length (place_in m i))
      ∙ ap (λ (p : Mapped). length p.targets) (sym (decode-at m i (record { source = 0; targets = [] }) l) ∙ ap (λ (ps : List Mapped). mapped_at ps i) e)

  pub sizes-few : whole numbers ≡ true → (i : ℕ) → i < m.count → (place_in m i).size ≤ 8
  sizes-few w i l = omega (arith, lent-size i l, lent-few numbers i (lent-place i l) w)

  sizes-some : whole numbers ≡ true → targets_given numbers ≡ true → (i : ℕ) → i < m.count → 0 < (place_in m i).size
  sizes-some w t i l = omega (arith, lent-size i l, lent-some numbers i (lent-place i l) w t)

-- the struct of what passes is checked
pub mapping-checked : (cells numbers : List ℕ) (g : Group) (m : Mapping) → project_number cells g numbers ≡ 0 → decode m ≡ mapping_lent numbers → m.count ≤ 64 → Checked (length (nodes cells)) m
mapping-checked cells numbers g m z e l = record {
  bounded = record { few = l; some-target = sizes-some numbers m e v.whole-list v.given; few-targets = sizes-few numbers m e v.whole-list };
  source-below = λ i b. below-expr n (place_in m i) (here i b);
  target_below = λ i k b c. below-target n (place_in m i) (here i b) k c;
}
  where
    v : Passed cells numbers g
    v = project-passes cells numbers g z

    n : ℕ
    n = length (nodes cells)

    here : (i : ℕ) → i < m.count → mapped_below n (mapped_of (place_in m i)) ≡ true
    here i b = each_holds (SourceBelow n m) m.count i (sym (mapping_below-of m n) ∙ ap (λ (ps : List Mapped). mapping_below n ps) e ∙ v.below) b
