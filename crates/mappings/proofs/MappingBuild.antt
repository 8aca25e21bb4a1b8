-- A lent mapping as a struct that is built source by source, and a source that is built target by target.
use Prim.Native.Nat.{ℕ, ◌+◌, ◌<◌, ◌≤◌}
use mathlib.Core.Bool.{true}
use mathlib.Core.List.{List, [], ◌∷◌, ◌++◌, append_assoc, append-nil}
use mathlib.Core.Path.{◌≡◌, refl, sym, ap, ◌∙◌}
use native.Mathlib.Numerals.{add-one}
use native.Mathlib.Omega.{arith}
use lib.ListN.{length, get_or, set, take, drop, replicate, length-set, length-append, length-drop, length-replicate, get_or-append}
use lib.Seq.{get_or-set_same, get_or-set_other, length-take-le, get_or-take, get_or-drop}
use Rattle.laws.specs.Lists.{table}
use Rattle.laws.proofs.Table.{table_cong}
use Rattle.mappings.specs.Mapping.{Mapped}
use Rattle.mappings.specs.Lent.{target_count, target_lent, next_source, next-after, each_from, whole_at, whole, mapped_lent, mapping_from, mapping_lent}
use Rattle.mappings.specs.Layout.{unused, place_in, mapped_of, decode}
use Rattle.mappings.specs.declared.Source.{Source}
use Rattle.mappings.specs.declared.Mapping.{Mapping}
use Rattle.mappings.proofs.Walks.{passes-here, passes_on}
use Rattle.mappings.proofs.Targets.{decode-length}
use Rattle.mappings.proofs.LentSources.{sources_end, sources_next, count_next}

-- the targets of the source at a place, copied to the front of a table: the source
pub targets-copied : (numbers : List ℕ) (at size : ℕ) → size ≡ target_count numbers at → at + 2 + size ≤ length numbers → (ts rest : List ℕ) → ts ≡ take size (drop (at + 2) numbers) → mapped_of (record { expr = get_or numbers at 0; size = size; targets = ts ++ rest }) ≡ mapped_lent numbers at
unfolding mapped_of mapped_lent
targets-copied numbers at size e l ts rest c =
    ap (λ (xs : List ℕ). record { source = get_or numbers at 0; targets = xs })
    (table_cong (λ j. get_or (ts ++ rest) j 0) (λ j. target_lent numbers at j) size here ∙ ap (table (λ j. target_lent numbers at j)) e)
  where
    here : (j : ℕ) → j < size → get_or (ts ++ rest) j 0 ≡ target_lent numbers at j
    here j b =
        let long : length ts ≡ size = ap (λ (xs : List ℕ). length xs) c ∙ length-take-le size (drop (at + 2) numbers) (omega (arith, length-drop (at + 2) numbers)) in
        get_or-append ts rest 0 j (omega arith) ∙ ap (λ (xs : List ℕ). get_or xs j 0) c ∙ get_or-take size (drop (at + 2) numbers) j 0 b ∙ get_or-drop (at + 2) numbers j 0

-- a struct with one source more at its end
module _ (out : Mapping) (r : Source) where
  abbrev more : Mapping
  more = record { count = out.count + 1; list = set out.list out.count r }

  decode-more : length out.list ≡ 64 → out.count < 64 → decode more ≡ decode out ++ (mapped_of r ∷ [])
  unfolding decode table
  decode-more e l = rw add-one (rw (last, before))
    where
      last : mapped_of (place_in more out.count) ≡ mapped_of r
      last = ap mapped_of (get_or-set_same out.list out.count r unused (omega arith))

      before : table (λ i. mapped_of (place_in more i)) out.count ≡ table (λ i. mapped_of (place_in out i)) out.count
      before =
          table_cong (λ i. mapped_of (place_in more i)) (λ i. mapped_of (place_in out i)) out.count
          (λ i b. ap mapped_of (get_or-set_other out.list out.count i r unused (λ q. absurd (omega arith))))

-- the sources before a place are in the struct
pub record Building (numbers : List ℕ) (out : Mapping) (at : ℕ) : Type 0 where
  pub long : length out.list ≡ 64
  pub mapped : decode out ++ mapping_from numbers at ≡ mapping_lent numbers
  pub whole : each_from (whole_at numbers) numbers at ≡ true

-- none yet
pub building-begins : (numbers : List ℕ) (r : Source) → whole numbers ≡ true → Building numbers (record { count = 0; list = replicate 64 r }) 0
unfolding whole mapping_lent decode table
building-begins numbers r w = record { long = length-replicate 64 r; mapped = refl; whole = w }

module _ (numbers : List ℕ) (out : Mapping) (at : ℕ) (b : Building numbers out at) where
  -- there is room for the source here, and it is whole
  pub building-room : length (mapping_lent numbers) ≤ 64 → at < length numbers → out.count < 64
  building-room few l =
      omega (arith, ap (λ (ps : List Mapped). length ps) b.mapped, length-append (decode out) (mapping_from numbers at), decode-length out, count_next numbers at (next_source numbers at) l refl)

  pub building-whole : at < length numbers → whole_at numbers at ≡ true
  building-whole l = passes-here (whole_at numbers) (next_source numbers) (length numbers) (next-after numbers) at l b.whole

  -- one more
  pub building-on : (r : Source) (next : ℕ) → at < length numbers → out.count < 64 → next ≡ next_source numbers at → mapped_of r ≡ mapped_lent numbers at → Building numbers (more out r) next
  building-on r next l room e q = record {
    long = length-set out.list out.count r ∙ b.long;
    mapped = ap (λ (ps : List Mapped). ps ++ mapping_from numbers next) (decode-more out r b.long room)
        ∙ append_assoc (decode out) (mapped_of r ∷ []) (mapping_from numbers next)
        ∙ ap (λ (p : Mapped). decode out ++ p ∷ mapping_from numbers next) q
        ∙ ap (λ (ps : List Mapped). decode out ++ ps) (sym (sources_next numbers at next l e))
        ∙ b.mapped;
    whole = passes_on (whole_at numbers) (next_source numbers) (length numbers) (next-after numbers) at next l e b.whole;
  }

  -- after the last source it is the mapping
  pub building-ends : length numbers ≤ at → decode out ≡ mapping_lent numbers
  building-ends l = sym (append-nil (decode out)) ∙ ap (λ (ps : List Mapped). decode out ++ ps) (sym (sources_end numbers at l)) ∙ b.mapped

-- a struct that holds the mapping has as many sources
pub count_of : (numbers : List ℕ) (out : Mapping) → decode out ≡ mapping_lent numbers → length (mapping_lent numbers) ≤ 64 → out.count ≤ 64
count_of numbers out e few = omega (arith, decode-length out, ap (λ (ps : List Mapped). length ps) e)
