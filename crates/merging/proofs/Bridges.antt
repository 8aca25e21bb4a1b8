-- Steps of bridging: a class takes in one that overlaps with it, or is passed, and what is left to do is less.
use Prim.Native.Nat.{ℕ, ◌+◌, ◌<◌, ◌≤◌}
use mathlib.Core.List.{List}
use Rattle.std.specs.Prelude.{None, Some}
use mathlib.Core.Path.{◌≡◌, refl, sym, ap, ◌∙◌}
use native.Mathlib.Omega.{arith}
use lib.ListN.{length}
use Rattle.classes.specs.Class.{Class}
use Rattle.classes.specs.Group.{class_at, total, removed, length_removed}
use Rattle.classes.specs.Layout.{encode, decode}
use Rattle.classes.specs.Inner.{Coded}
use Rattle.classes.specs.declared.Group.{Group}
use Rattle.classes.proofs.Codec.{built-count, built-limit, built-classes, built-coded, length-decode, used-is}
use Rattle.classes.proofs.Places.{total-removed, total-merged_at}
use Rattle.merging.specs.Extending.{missing}
use Rattle.merging.specs.Merging.{last_meeting, bridged, length-bridged, bridge_rest, bridge_end, bridge_next, bridge_meets, bridge_classes}
use Rattle.merging.specs.Inner.{Stepped}
use Rattle.merging.proofs.Missing.{missing-length}
use Rattle.merging.proofs.Meetings.{meeting_is}

-- a class that takes in another brings no member more
pub bridged-small : (cs : List Class) (i j : ℕ) → i < j → j < length cs → total (bridged cs i j) ≤ total cs
unfolding bridged
bridged-small cs i j a b =
    omega (arith, total-merged_at (removed cs j) i (missing (class_at cs i) (class_at cs j)) (omega (arith, length_removed cs j)), total-removed cs j b, missing-length (class_at cs i) (class_at cs j))

module _ (g : Group) (v : Coded g) (i : ℕ) (l : i < g.count) where
  -- where the class that overlaps stands
  pub meets-inside : (j : ℕ) → last_meeting (decode g) i ≡ Some j → (i < j) × (j < g.count)
  meets-inside j q = let m = meeting_is (decode g) i j q in (m.0, omega (arith, m.1.0, length-decode g))

  -- the class is passed
  pub step-passed : last_meeting (decode g) i ≡ None → Stepped g i g (i + 1)
  step-passed q = record { coded = v; limit = refl; goes = sym (bridge_next i (decode g) (omega (arith, length-decode g)) q); less = omega arith }

  -- it takes in another
  pub step-meets : (j : ℕ) → last_meeting (decode g) i ≡ Some j → (h : Group) → h ≡ encode g.limit (bridged (decode g) i j) → Stepped g i h i
  step-meets j q h p =
      let cs = bridged (decode g) i j in
      let m = meeting_is (decode g) i j q in
      record {
        coded = built-coded g.limit cs h p (omega (arith, length-bridged (decode g) i j, length-decode g, v.few)) (omega (arith, bridged-small (decode g) i j m.0 m.1.0, used-is g v, v.small));
        limit = built-limit g.limit cs h p;
        goes = ap (λ (ds : List Class). bridge_rest i ds) (built-classes g.limit cs h p) ∙ sym (bridge_meets i (decode g) j (omega (arith, length-decode g)) q);
        less = omega (arith, built-count g.limit cs h p, length-bridged (decode g) i j, length-decode g);
      }

-- bridging that has come from g to out, with the classes from i on still to be looked at
pub record Bridging (g out : Group) (i : ℕ) : Type 0 where
  pub coded : Coded out
  pub limit : out.limit ≡ g.limit
  pub goes : bridge_rest i (decode out) ≡ bridge_rest 0 (decode g)

pub bridging-begins : (g : Group) → Coded g → Bridging g g 0
bridging-begins g v = record { coded = v; limit = refl; goes = refl }

pub bridging-next : (g out : Group) (i : ℕ) → Bridging g out i → (h : Group) (k : ℕ) → Stepped out i h k → Bridging g h k
bridging-next g out i b h k s = record { coded = s.coded; limit = s.limit ∙ b.limit; goes = s.goes ∙ b.goes }

pub bridging-ends : (g out : Group) (i : ℕ) → out.count ≤ i → Bridging g out i → out ≡ encode g.limit (bridge_classes (decode g))
unfolding bridge_classes
bridging-ends g out i l b =
    sym b.coded.coded
    ∙ ap (λ (n : ℕ). encode n (decode out)) b.limit
    ∙ ap (λ (cs : List Class). encode g.limit cs) (sym (bridge_end i (decode out) (omega (arith, length-decode out))) ∙ b.goes)
