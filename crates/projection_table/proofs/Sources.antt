-- The search over the sources of a mapping in its struct: its turns, and for another test that agrees.
use Rattle.std.specs.Prelude.{if◌then◌else◌, Some}
use Prim.Native.Nat.{ℕ, suc, ◌+◌, ◌<◌, ◌≤◌}
use mathlib.Core.Bool.{Bool, true, false}
use mathlib.Core.List.{List, [], ◌∷◌}
use mathlib.Core.Path.{◌≡◌, refl, sym, ap, ◌∙◌}
use native.Mathlib.Omega.{arith}
use lib.ListN.{length, get_or, drop, drop_of_length-le}
use Rattle.mappings.specs.Mapping.{Mapped, first_target, target_for, mapped_at}
use Rattle.mappings.specs.Layout.{place_in, mapped_of, decode, Bounded, Checked}
use Rattle.mappings.specs.declared.Mapping.{Mapping}
use Rattle.mappings.proofs.Targets.{mapped-source, mapped-target, decode-length, decode-at}
use Rattle.mappings.proofs.PlaceReads.{read_in, read-size, read-rest, read-targets}
use Rattle.projection_table.specs.Inner.{entry_of}

-- the first target of a source that is read is among the first n
pub target-under : (n : ℕ) (m : Mapping) → Checked n m → (i : ℕ) → i < m.count → get_or (read_in m i).targets 0 0 < n
target-under n m c i l = read-targets m i l n c 0 (omega (arith, read-size m i, c.bounded.some-target i l))

-- what is among the first n is among more
pub checked-wider : (n k : ℕ) (m : Mapping) → Checked n m → n ≤ k → Checked k m
checked-wider n k m c l =
    record { bounded = c.bounded; source-below = λ i b. omega (arith, c.source-below i b); target_below = λ i j b d. omega (arith, c.target_below i j b d) }

-- ---- the loop

-- a search over a mapping has come to place i
pub record Searching (test : ℕ → Bool) (m : Mapping) (i : ℕ) : Type 0 where
  pub within : i ≤ m.count
  pub goes : target_for test (decode m) ≡ target_for test (drop i (decode m))

module _ (test : ℕ → Bool) (m : Mapping) where
  pub searching_begins : Searching test m 0
  searching_begins = record { within = omega arith; goes = refl }

  module _ (i : ℕ) (h : Searching test m i) where
    -- nothing was found
    pub searching_ends : m.count ≤ i → 0 ≡ entry_of (target_for test (decode m))
    unfolding entry_of target_for
    searching_ends l = sym (ap entry_of h.goes ∙ rw (drop_of_length-le (decode m) {i = i} (omega (arith, decode-length m))))

    module _ (l : i < m.count) where
      turn : (b : Bool) → test (read_in m i).expr ≡ b → target_for test (decode m) ≡ (if b then Some (first_target (mapped_of (read_in m i))) else target_for test (drop (i + 1) (decode m)))
      unfolding target_for
      turn b e = h.goes ∙ ap (target_for test) (read-rest m i l) ∙ rw (mapped-source (read_in m i), e)

      -- the source at place i passes
      pub searching_found : Bounded m → test (read_in m i).expr ≡ true → get_or (read_in m i).targets 0 0 + 2 ≡ entry_of (target_for test (decode m))
      unfolding entry_of
      searching_found b e = sym (ap entry_of (turn true e) ∙ rw (mapped-target (read_in m i) 0 (omega (arith, read-size m i, b.some-target i l))))

      -- it doesn't
      pub searching_on : test (read_in m i).expr ≡ false → Searching test m (i + 1)
      searching_on e = record { within = omega arith; goes = turn false e }

-- ---- another test

-- tests that agree on the sources find the same
target_cong : (test other : ℕ → Bool) (ps : List Mapped) → ((k : ℕ) → k < length ps → test (mapped_at ps k).source ≡ other (mapped_at ps k).source) → target_for test ps ≡ target_for other ps
unfolding target_for
target_cong test other [] h = refl
target_cong test other (p ∷ ps) h = rw (h 0 (omega arith), target_cong test other ps (λ k l. h (suc k) (omega arith)))

pub target-same : (test other : ℕ → Bool) (n : ℕ) (m : Mapping) → Checked n m → ((x : ℕ) → x < n → test x ≡ other x) → target_for test (decode m) ≡ target_for other (decode m)
target-same test other n m c h =
    target_cong test other (decode m)
    (λ k l.
    let b : k < m.count = omega (arith, decode-length m) in
    rw (decode-at m k (record { source = 0; targets = [] }) b, mapped-source (place_in m k)) (h (place_in m k).expr (c.source-below k b)))
