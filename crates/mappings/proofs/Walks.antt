-- Walking what is lent in parts, as the code does: a test of each part from a place on, and the place of part i.
use Prim.Native.Nat.{ℕ, zero, suc, ◌+◌, ◌<◌, ◌≤◌}
use mathlib.Core.Bool.{Bool, true, false, ◌&&◌}
use mathlib.Core.List.{List}
use mathlib.Core.Path.{◌≡◌, refl, sym, ap, ◌∙◌}
use native.Mathlib.Omega.{arith}
use borrow.Author.Tests.{ltb-true, ltb-false}
use lib.Dec.{ltb}
use lib.ListN.{length, get_or}
use Rattle.laws.specs.Parts.{parts, parts_end, parts_next, each_part, each_end, each_next}
use Rattle.laws.proofs.Booleans.{and_left, and_right}

-- a test of each part
module _ (p : ℕ → Bool) (next : ℕ → ℕ) (end : ℕ) (after : (at : ℕ) → at < next at) where
  -- from a place on, by one part
  each-here : (at to : ℕ) → at < end → to ≡ next at → each_part p next end at ≡ (p at && each_part p next end to)
  each-here at to l e = each_next p next end after at l ∙ ap (λ (t : ℕ). p at && each_part p next end t) (sym e)

  -- the loop over all parts: what is left of the answer is the answer from here; it goes on, stops, and ends
  abbrev pub Going : ℕ → Type 0
  Going at = each_part p next end 0 ≡ each_part p next end at

  pub going_on : (at to : ℕ) → at < end → to ≡ next at → Going at → p at ≡ true → Going to
  going_on at to l e g h = g ∙ each-here at to l e ∙ ap (λ (t : Bool). t && each_part p next end to) h

  pub going-stops : (at : ℕ) → at < end → Going at → p at ≡ false → false ≡ each_part p next end 0
  going-stops at l g h = sym (g ∙ each-here at (next at) l refl ∙ ap (λ (t : Bool). t && each_part p next end (next at)) h)

  pub going-ends : (at : ℕ) → end ≤ at → Going at → true ≡ each_part p next end 0
  going-ends at l g = sym (g ∙ each_end p next end after at l)

  -- a test that passes from a place on passes there, and from the next part on
  pub passes-here : (at : ℕ) → at < end → each_part p next end at ≡ true → p at ≡ true
  passes-here at l h = and_left (p at) (each_part p next end (next at)) (sym (each-here at (next at) l refl) ∙ h)

  pub passes_on : (at to : ℕ) → at < end → to ≡ next at → each_part p next end at ≡ true → each_part p next end to ≡ true
  passes_on at to l e h = and_right (p at) (each_part p next end to) (sym (each-here at to l e) ∙ h)

-- part i from a place on: where it begins, that it is what f makes of that place, and that a test of each part passes there
pub record Reached {A : Type 0} (f : ℕ → A) (next : ℕ → ℕ) (end at i : ℕ) (d : A) : Type 0 where
  pub place : ℕ
  pub inside : place < end
  pub is : get_or (parts f next end at) i d ≡ f place
  pub passes : (p : ℕ → Bool) → each_part p next end at ≡ true → p place ≡ true

-- every part has its place
module _ {A : Type 0} (f : ℕ → A) (next : ℕ → ℕ) (end : ℕ) (after : (at : ℕ) → at < next at) (d : A) where
  -- the first part, and a later one
  reach_here : (at : ℕ) → at < end → Reached f next end at 0 d
  reach_here at l = record {
    place = at;
    inside = l;
    is = ap (λ (t : List A). get_or t 0 d) (parts_next f next end after at l);
    passes = λ p h. passes-here p next end after at l h;
  }

  reach-later : (at i : ℕ) → at < end → Reached f next end (next at) i d → Reached f next end at (suc i) d
  reach-later at i l r = record {
    place = r.place;
    inside = r.inside;
    is = ap (λ (t : List A). get_or t (suc i) d) (parts_next f next end after at l) ∙ r.is;
    passes = λ p h. r.passes p (passes_on p next end after at (next at) l refl h);
  }

  -- in at most n steps
  reach : (n at i : ℕ) → end ≤ n + at → i < length (parts f next end at) → Reached f next end at i d
  reach zero at i b l = absurd (omega (arith, ap (λ (t : List A). length t) (parts_end f next end after at (omega arith))))
  reach (suc n) at i b l = go (ltb at end) refl i l (λ j k. reach n (next at) j (omega (arith, after at)) k)
    where
      go : (t : Bool) → ltb at end ≡ t → (i : ℕ) → i < length (parts f next end at)
          → ((j : ℕ) → j < length (parts f next end (next at)) → Reached f next end (next at) j d) → Reached f next end at i d
      go false q i k on = absurd (omega (arith, ap (λ (t : List A). length t) (parts_end f next end after at (ltb-false at end q))))
      go true q zero k on = reach_here at (ltb-true at end q)
      go true q (suc j) k on =
          reach-later at j (ltb-true at end q)
          (on j (omega (arith, ap (λ (t : List A). length t) (parts_next f next end after at (ltb-true at end q)))))

  pub reached : (at i : ℕ) → i < length (parts f next end at) → Reached f next end at i d
  reached at i l = reach end at i (omega arith) l
