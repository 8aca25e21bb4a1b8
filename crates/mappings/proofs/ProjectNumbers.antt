-- The number of the check by its tests: which test gives which number.
use Rattle.std.specs.Prelude.{if◌then◌else◌}
use Prim.Native.Nat.{ℕ, ◌≤◌}
use mathlib.Core.Bool.{Bool, true, false, ◌&&◌}
use mathlib.Core.List.{List}
use mathlib.Core.Path.{◌≡◌, refl, sym, ap, ◌∙◌}
use borrow.Author.Tests.{leb-true}
use lib.Dec.{eqb, leb}
use lib.ListN.{length}
use Rattle.laws.proofs.Booleans.{and_left, and_right}
use Rattle.arena.specs.Layout.{count, decode as nodes}
use Rattle.arena.proofs.Layouts.{length-decode}
use Rattle.classes.specs.Layout.{in_set}
use Rattle.arena.specs.Refusals.{refusal, outcome}
use Rattle.arena.proofs.Refusals.{Listed, listed-if}
use Rattle.group_checks.proofs.Calling.{group-listed}
use Rattle.classes.specs.Calls.{group_number}
use Rattle.classes.specs.declared.Group.{Group}
use Rattle.mappings.specs.Mapping.{Mapped, sources_apart, mapping_below}
use Rattle.mappings.specs.Lent.{targets_given, whole, mapping_lent, lawful_mapping}
use Rattle.mappings.specs.Layout.{decode}
use Rattle.mappings.specs.Calls.{project_number}
use Rattle.mappings.specs.declared.Mapping.{Mapping}

-- the rules of a lent mapping
module _ (numbers : List ℕ) where
  -- what is lawful is whole and small
  pub lawful-whole : lawful_mapping numbers ≡ true → (whole numbers ≡ true) × (length (mapping_lent numbers) ≤ 64)
  unfolding lawful_mapping
  lawful-whole h =
      let b = and_left (whole numbers && leb (length (mapping_lent numbers)) 64) (sources_apart (mapping_lent numbers)) h in (
        and_left (whole numbers) (leb (length (mapping_lent numbers)) 64) b,
        leb-true (length (mapping_lent numbers)) 64 (and_right (whole numbers) (leb (length (mapping_lent numbers)) 64) b),
      )

module _ (cells : List ℕ) (g : Group) (numbers : List ℕ) where
  -- the check's number stands in the table
  pub project-listed : Listed (project_number cells g numbers)
  unfolding project_number outcome refusal
  project-listed =
      listed-if (targets_given numbers && in_set g) _ 12
      (listed-if (lawful_mapping numbers) _ 11
      (listed-if (eqb (group_number cells g) 0) _ (group_number cells g) (listed-if (mapping_below (length (nodes cells)) (mapping_lent numbers)) 0 1 refl refl) (group-listed cells g))
      refl)
      refl

  pub project-empty : targets_given numbers ≡ false → 12 ≡ project_number cells g numbers
  unfolding project_number
  project-empty t = rw t

  -- once the targets are given
  module _ (t : targets_given numbers ≡ true) where
    pub project-set : in_set g ≡ false → 12 ≡ project_number cells g numbers
    unfolding project_number
    project-set o = rw (t, o)

    -- once the group is in its set
    module _ (o : in_set g ≡ true) where
      pub project_unlawful : lawful_mapping numbers ≡ false → 11 ≡ project_number cells g numbers
      unfolding project_number
      project_unlawful f = rw (t, o, f)

      pub project-group : lawful_mapping numbers ≡ true → eqb (group_number cells g) 0 ≡ false → group_number cells g ≡ project_number cells g numbers
      unfolding project_number
      project-group f z = rw (t, o, f, z)

      pub project-below : lawful_mapping numbers ≡ true → eqb (group_number cells g) 0 ≡ true → (m : Mapping) → decode m ≡ mapping_lent numbers
          → (k : ℕ) → k ≡ count cells → (b : Bool) → mapping_below k (decode m) ≡ b → (if b then 0 else 1) ≡ project_number cells g numbers
      unfolding project_number
      project-below f z m d k c b q =
          let below : mapping_below (length (nodes cells)) (mapping_lent numbers) ≡ b =
          ap (λ (i : ℕ). mapping_below i (mapping_lent numbers)) (length-decode cells ∙ sym c) ∙ ap (λ (ps : List Mapped). mapping_below k ps) (sym d) ∙ q in
          rw (t, o, f, z, below)
