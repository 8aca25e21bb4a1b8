-- The sources of a lent mapping by their places: the next one, how many there are, and the tests of one.
use Prim.Native.Nat.{ℕ, ◌+◌, ◌<◌, ◌≤◌}
use mathlib.Core.Bool.{true, false}
use mathlib.Core.List.{List, [], ◌∷◌}
use mathlib.Core.Path.{◌≡◌, refl, sym, ap, ◌∙◌}
use native.Mathlib.Omega.{arith}
use borrow.Author.Tests.{le-leb, lt-leb}
use lib.Dec.{leb}
use lib.ListN.{length}
use Rattle.laws.specs.Parts.{parts_end, parts_next}
use Rattle.mappings.specs.Mapping.{Mapped}
use Rattle.mappings.specs.Lent.{target_count, next_source, next-after, mapped_lent, mapping_from, mapping_lent}

module _ (numbers : List ℕ) (at : ℕ) where
  -- the place after a source, as the code counts it
  pub next_place : (count : ℕ) → count ≡ target_count numbers at → at + (2 + count) ≡ next_source numbers at
  unfolding next_source
  next_place count e = omega arith

  -- the sources from a place on: at the end, and by one source
  pub sources_end : length numbers ≤ at → mapping_from numbers at ≡ []
  sources_end l = parts_end (mapped_lent numbers) (next_source numbers) (length numbers) (next-after numbers) at l

  pub sources_next : (next : ℕ) → at < length numbers → next ≡ next_source numbers at → mapping_from numbers at ≡ mapped_lent numbers at ∷ mapping_from numbers next
  sources_next next l e =
      parts_next (mapped_lent numbers) (next_source numbers) (length numbers) (next-after numbers) at l ∙ ap (λ (t : ℕ). mapped_lent numbers at ∷ mapping_from numbers t) (sym e)

  -- and how many they are
  pub count_end : length numbers ≤ at → length (mapping_from numbers at) ≡ 0
  count_end l = ap (λ (ps : List Mapped). length ps) (sources_end l)

  pub count_next : (next : ℕ) → at < length numbers → next ≡ next_source numbers at → length (mapping_from numbers at) ≡ 1 + length (mapping_from numbers next)
  count_next next l e = omega (arith, ap (λ (ps : List Mapped). length ps) (sources_next next l e))

-- `count` sources stand before a place
abbrev pub Counted : List ℕ → ℕ → ℕ → Type 0
Counted numbers count at = length (mapping_lent numbers) ≡ count + length (mapping_from numbers at)

-- none before the first
pub counted-begins : (numbers : List ℕ) → Counted numbers 0 0
unfolding mapping_lent
counted-begins numbers = omega arith

module _ (numbers : List ℕ) (count at : ℕ) (v : Counted numbers count at) where
  -- one source more
  pub counted-on : (next : ℕ) → at < length numbers → next ≡ next_source numbers at → Counted numbers (count + 1) next
  counted-on next l e = omega (arith, v, count_next numbers at next l e)

  -- a source after the first 64
  pub counted-many : at < length numbers → 64 ≤ count → false ≡ leb (length (mapping_lent numbers)) 64
  counted-many l m = sym (lt-leb (length (mapping_lent numbers)) 64 (omega (arith, v, count_next numbers at (next_source numbers at) l refl)))

  -- the end
  pub counted-ends : length numbers ≤ at → count ≤ 64 → true ≡ leb (length (mapping_lent numbers)) 64
  counted-ends l few = sym (le-leb (length (mapping_lent numbers)) 64 (omega (arith, v, count_end numbers at l)))
