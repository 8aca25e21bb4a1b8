-- A larger member limit gives the same answers and the same classes, up to the smaller one's first refusal.
use Rattle.std.specs.Prelude.{if◌then◌else◌}
use Prim.Native.Nat.{ℕ, zero, suc, ◌<◌, ◌≤◌}
use mathlib.Core.Bool.{Bool, true, false, ◌&&◌}
use mathlib.Core.List.{List, [], ◌∷◌}
use mathlib.Core.Path.{◌≡◌, refl, sym, ap, ◌∙◌}
use native.Mathlib.Omega.{arith}
use borrow.Author.Tests.{leb-true, le-leb}
use lib.Dec.{leb, ltb}
use lib.ListN.{length, get_or, take}
use lib.Seq.{take-length}
use Rattle.laws.proofs.Booleans.{and_left, and_right, and_both}
use Rattle.arena.specs.Node.{Node}
use Rattle.classes.specs.Class.{Class}
use Rattle.classes.specs.Group.{total, equal_condition}
use Rattle.classes.specs.Steps.{Outcome, refused, fits, judged}
use Rattle.conditions.specs.Steps.{add_equal, outcomes, after}

-- past the end the number is that of the default
number_default : (os : List Outcome) (i : ℕ) (d e : Outcome) → d.number ≡ e.number → (get_or os i d).number ≡ (get_or os i e).number
number_default [] i d e h = h
number_default (o ∷ os) zero d e h = refl
number_default (o ∷ os) (suc i) d e h = number_default os i d e h

-- as many outcomes as pairs
pub length-outcomes : (l : ℕ) (ns : List Node) (cs : List Class) (ps : List (ℕ × ℕ)) → length (outcomes l ns cs ps) ≡ length ps
unfolding outcomes
length-outcomes l ns cs [] = refl
length-outcomes l ns cs (p ∷ ps) = ap suc (length-outcomes l ns (add_equal l ns p.0 p.1 cs).classes ps)

-- the first k pairs are accepted
abbrev pub FirstAccepted : ℕ → List Node → List Class → List (ℕ × ℕ) → ℕ → Type 0
FirstAccepted l ns cs ps k = (i : ℕ) → i < k → i < length ps → (get_or (outcomes l ns cs ps) i (refused 0 cs)).number ≡ 0

-- then so is the first, and after it the first of the others
accepted-head : (l : ℕ) (ns : List Node) (cs : List Class) (p : ℕ × ℕ) (ps : List (ℕ × ℕ)) (k : ℕ)
    → FirstAccepted l ns cs (p ∷ ps) (suc k) → (add_equal l ns p.0 p.1 cs).number ≡ 0
unfolding outcomes
accepted-head l ns cs p ps k h = h 0 (omega arith) (omega arith)

accepted-tail : (l : ℕ) (ns : List Node) (cs : List Class) (p : ℕ × ℕ) (ps : List (ℕ × ℕ)) (k : ℕ)
    → FirstAccepted l ns cs (p ∷ ps) (suc k) → FirstAccepted l ns (add_equal l ns p.0 p.1 cs).classes ps k
unfolding outcomes refused
accepted-tail l ns cs p ps k h i a b =
    let ds = (add_equal l ns p.0 p.1 cs).classes in
    number_default (outcomes l ns ds ps) i (refused 0 ds) (refused 0 cs) refl ∙ h (suc i) (omega arith) (omega arith)

module _ (l m : ℕ) (le : l ≤ m) where
  -- what is within the smaller limit is within the larger
  fits_more : (cs : List Class) → fits l cs ≡ true → fits m cs ≡ true
  unfolding fits
  fits_more cs h =
      let t = leb-true (total cs) l (and_left (leb (total cs) l) (leb (length cs) 64) h) in
      and_both (le-leb (total cs) m (omega arith)) (and_right (leb (total cs) l) (leb (length cs) 64) h)

  -- a step that the smaller limit accepts
  judged-more : (cs : List Class) (o : Bool × List Class) → (judged l cs o).number ≡ 0 → judged m cs o ≡ judged l cs o
  unfolding judged refused
  judged-more cs o h = go (fits l o.1) refl
    where
      go : (b : Bool) → fits l o.1 ≡ b → judged m cs o ≡ judged l cs o
      go true q = rw (q, fits_more o.1 q)
      go false q = absurd (omega (arith, rw q at h))

  -- an equal condition that the smaller limit accepts comes to the same
  pub add-more : (ns : List Node) (a b : ℕ) (cs : List Class) → (add_equal l ns a b cs).number ≡ 0 → add_equal m ns a b cs ≡ add_equal l ns a b cs
  unfolding add_equal
  add-more ns a b cs h = go (ltb a (length ns) && ltb b (length ns)) refl
    where
      go : (t : Bool) → (ltb a (length ns) && ltb b (length ns)) ≡ t
          → (if t then judged m cs (equal_condition ns cs a b) else refused 1 cs) ≡ (if t then judged l cs (equal_condition ns cs a b) else refused 1 cs)
      go true q = judged-more cs (equal_condition ns cs a b) (rw q at h)
      go false q = refl

  -- the first k outcomes are the same where the smaller limit accepts the first k
  pub limit-more-first : (ns : List Node) (cs : List Class) (ps : List (ℕ × ℕ)) (k : ℕ) → FirstAccepted l ns cs ps k → take k (outcomes m ns cs ps) ≡ take k (outcomes l ns cs ps)
  unfolding outcomes
  limit-more-first ns cs [] k h = refl
  limit-more-first ns cs (p ∷ ps) zero h = refl
  limit-more-first ns cs (p ∷ ps) (suc k) h =
      let o = add_equal l ns p.0 p.1 cs in
      rw (add-more ns p.0 p.1 cs (accepted-head l ns cs p ps k h))
      (ap {B = List Outcome} (λ r. o ∷ r) (limit-more-first ns o.classes ps k (accepted-tail l ns cs p ps k h)))

  -- so are the classes after them
  pub limit-more-after : (ns : List Node) (cs : List Class) (ps : List (ℕ × ℕ)) (k : ℕ) → FirstAccepted l ns cs ps k → after m ns cs (take k ps) ≡ after l ns cs (take k ps)
  unfolding after
  limit-more-after ns cs [] zero h = refl
  limit-more-after ns cs [] (suc k) h = refl
  limit-more-after ns cs (p ∷ ps) zero h = refl
  limit-more-after ns cs (p ∷ ps) (suc k) h =
      ap (λ (o : Outcome). after m ns o.classes (take k ps)) (add-more ns p.0 p.1 cs (accepted-head l ns cs p ps k h))
      ∙ limit-more-after ns (add_equal l ns p.0 p.1 cs).classes ps k (accepted-tail l ns cs p ps k h)

  -- a sequence that the smaller limit accepts whole comes to the same
  pub limit-more : (ns : List Node) (cs : List Class) (ps : List (ℕ × ℕ))
      → ((k : ℕ) → k < length ps → (get_or (outcomes l ns cs ps) k (refused 0 cs)).number ≡ 0) → outcomes m ns cs ps ≡ outcomes l ns cs ps
  limit-more ns cs ps h =
      sym (all m) ∙ limit-more-first ns cs ps (length ps) (λ i a b. h i b) ∙ all l
    where
      all : (n : ℕ) → take (length ps) (outcomes n ns cs ps) ≡ outcomes n ns cs ps
      all n = rw (sym (length-outcomes n ns cs ps)) (take-length (outcomes n ns cs ps))
