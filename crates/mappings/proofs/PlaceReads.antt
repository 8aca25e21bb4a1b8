-- The places of a mapping's struct as the code reads them: past the last, which no call reaches, a blank place says what an unused one says.
use Prim.Native.Nat.{ℕ, zero, suc, ◌+◌, ◌<◌, ◌≤◌}
use mathlib.Core.List.{List, [], ◌∷◌}
use mathlib.Core.Path.{◌≡◌, refl, sym, ◌∙◌}
use native.Mathlib.Numerals.{add-one}
use native.Mathlib.Omega.{arith}
use lib.ListN.{get_or, drop}
use lib.Seq.{drop-cons}
use Rattle.laws.specs.Lists.{table}
use Rattle.classes.proofs.Numbers.{zeros-at}
use Rattle.mappings.specs.Mapping.{Mapped, sources}
use Rattle.mappings.specs.Layout.{unused, place_in, mapped_of, decode, Checked}
use Rattle.mappings.specs.declared.Source.{Source}
use Rattle.mappings.specs.declared.Mapping.{Mapping}
use Rattle.mappings.proofs.Targets.{decode-length, decode-at, decode-source}

-- what the code reads past the end
abbrev pub blank : Source
blank = record { expr = 0; size = 0; targets = [] }

-- place i, as the code reads it
abbrev pub read_in : Mapping → ℕ → Source
read_in m i = get_or m.list i blank

-- what is the same of a blank place and of an unused one is the same of a place however it is read
same_read : {A : Type 0} (f : Source → A) → f blank ≡ f unused → (l : List Source) (i : ℕ) → f (get_or l i blank) ≡ f (get_or l i unused)
same_read f h [] i = h
same_read f h (r ∷ l) zero = refl
same_read f h (r ∷ l) (suc i) = same_read f h l i

module _ (m : Mapping) (i : ℕ) where
  -- the source with its targets
  pub read_mapped : mapped_of (read_in m i) ≡ mapped_of (place_in m i)
  unfolding mapped_of table
  read_mapped = same_read mapped_of refl m.list i

  -- its expression
  pub read-expr : (read_in m i).expr ≡ (place_in m i).expr
  read-expr = same_read (λ (r : Source). r.expr) refl m.list i

  -- the number of its targets
  pub read-size : (read_in m i).size ≡ (place_in m i).size
  read-size = same_read (λ (r : Source). r.size) refl m.list i

  -- each of them
  read-target : (k : ℕ) → get_or (read_in m i).targets k 0 ≡ get_or (place_in m i).targets k 0
  read-target k = same_read (λ (r : Source). get_or r.targets k 0) (sym (zeros-at 8 k)) m.list i

  module _ (l : i < m.count) where
    -- it is source i of the mapping
    pub read_at_lem : (d : Mapped) → get_or (decode m) i d ≡ mapped_of (read_in m i)
    read_at_lem d = decode-at m i d l ∙ sym read_mapped

    pub read-source : get_or (sources (decode m)) i 0 ≡ (read_in m i).expr
    read-source = decode-source m i l ∙ sym read-expr

    -- the sources from source i on
    pub read-rest : drop i (decode m) ≡ mapped_of (read_in m i) ∷ drop (i + 1) (decode m)
    read-rest = let d : Mapped = mapped_of (read_in m i) in drop-cons (decode m) i d (omega (arith, decode-length m)) ∙ rw (add-one i, read_at_lem d)

    -- of a checked mapping
    module _ (n : ℕ) (c : Checked n m) where
      pub read_below : (read_in m i).expr < n
      read_below = omega (arith, read-expr, c.source-below i l)

      pub read-few : (read_in m i).size ≤ 8
      read-few = omega (arith, read-size, c.bounded.few-targets i l)

      pub read-targets : (k : ℕ) → k < (read_in m i).size → get_or (read_in m i).targets k 0 < n
      read-targets k b = omega (arith, read-target k, c.target_below i k l (omega (arith, read-size)))
