-- Dropping and bridging make no class and no member more.
use Prim.Native.Nat.{ℕ, zero, suc, ◌+◌, ◌-◌, ◌≤◌}
use mathlib.Core.List.{List}
use Rattle.std.specs.Prelude.{Option, None, Some}
use mathlib.Core.Path.{◌≡◌, refl, ap, ◌∙◌}
use native.Mathlib.Omega.{arith}
use lib.ListN.{length}
use Rattle.classes.specs.Class.{Class}
use Rattle.classes.specs.Group.{total}
use Rattle.classes.specs.Layout.{encode, decode}
use Rattle.classes.specs.Inner.{Coded}
use Rattle.classes.specs.declared.Group.{Group}
use Rattle.classes.proofs.Codec.{built-limit, built-classes, built-coded, length-decode, used-is}
use Rattle.merging.specs.Merging.{dropped_at, drop_below, kept_classes, last_meeting, bridged, length-bridged, bridge_from, bridge_rest, bridge_classes, from_classes}
use Rattle.merging.proofs.Meetings.{meeting_is}
use Rattle.merging.proofs.Dropping.{dropped-few, dropped-most, dropped-small}
use Rattle.merging.proofs.Bridges.{bridged-small}

-- the places before i looked at
below-few : (i : ℕ) (cs : List Class) → length (drop_below i cs) ≤ length cs
unfolding drop_below
below-few zero cs = omega arith
below-few (suc i) cs = omega (arith, below-few i (dropped_at cs i), dropped-few cs i)

below-small : (i : ℕ) (cs : List Class) → i ≤ length cs → total (drop_below i cs) ≤ total cs
unfolding drop_below
below-small zero cs l = omega arith
below-small (suc i) cs l = omega (arith, below-small i (dropped_at cs i) (omega (arith, dropped-most cs i)), dropped-small cs i (omega arith))

-- the kept list
pub kept-few : (cs : List Class) → length (kept_classes cs) ≤ length cs
unfolding kept_classes
kept-few cs = below-few (length cs) cs

pub kept_small : (cs : List Class) → total (kept_classes cs) ≤ total cs
unfolding kept_classes
kept_small cs = below-small (length cs) cs (omega arith)

-- one step of bridging
module _ (n i : ℕ) (cs : List Class) where
  step-none : last_meeting cs i ≡ None → bridge_from (suc n) i cs ≡ bridge_from n (i + 1) cs
  unfolding bridge_from
  step-none q = rw (q, bridge_from)

  step-some : (j : ℕ) → last_meeting cs i ≡ Some j → bridge_from (suc n) i cs ≡ bridge_from n i (bridged cs i j)
  unfolding bridge_from
  step-some j q = rw (q, bridge_from)

-- n steps of it
steps-few : (n i : ℕ) (cs : List Class) → length (bridge_from n i cs) ≤ length cs
unfolding bridge_from
steps-few zero i cs = omega arith
steps-few (suc n) i cs = go (last_meeting cs i) refl (λ k ds. steps-few n k ds)
  where
    go : (o : Option ℕ) → last_meeting cs i ≡ o → ((k : ℕ) (ds : List Class) → length (bridge_from n k ds) ≤ length ds) → length (bridge_from (suc n) i cs) ≤ length cs
    go None q r = rw (step-none n i cs q) (r (i + 1) cs)
    go (Some j) q r = rw (step-some n i cs j q) (omega (arith, r i (bridged cs i j), length-bridged cs i j))

steps-small : (n i : ℕ) (cs : List Class) → total (bridge_from n i cs) ≤ total cs
unfolding bridge_from
steps-small zero i cs = omega arith
steps-small (suc n) i cs = go (last_meeting cs i) refl (λ k ds. steps-small n k ds)
  where
    go : (o : Option ℕ) → last_meeting cs i ≡ o → ((k : ℕ) (ds : List Class) → total (bridge_from n k ds) ≤ total ds) → total (bridge_from (suc n) i cs) ≤ total cs
    go None q r = rw (step-none n i cs q) (r (i + 1) cs)
    go (Some j) q r =
        let m = meeting_is cs i j q in
        rw (step-some n i cs j q) (omega (arith, r i (bridged cs i j), bridged-small cs i j m.0 m.1.0))

-- the bridged list
pub bridge_few : (cs : List Class) → length (bridge_classes cs) ≤ length cs
unfolding bridge_classes bridge_rest
bridge_few cs = steps-few (length cs - 0) 0 cs

pub bridge_small : (cs : List Class) → total (bridge_classes cs) ≤ total cs
unfolding bridge_classes bridge_rest
bridge_small cs = steps-small (length cs - 0) 0 cs

-- the group of a list of classes
pub from-few : (cs : List Class) → length (from_classes cs) ≤ length cs
unfolding from_classes
from-few cs = omega (arith, bridge_few (kept_classes cs), kept-few cs)

pub from-small : (cs : List Class) → total (from_classes cs) ≤ total cs
unfolding from_classes
from-small cs = omega (arith, bridge_small (kept_classes cs), kept_small cs)

-- the struct: what is kept is a group, and what is bridged after it
module _ (g : Group) (v : Coded g) (kept : Group) (p : kept ≡ encode g.limit (kept_classes (decode g))) where
  pub kept-coded : Coded kept
  kept-coded =
      built-coded g.limit (kept_classes (decode g)) kept p (omega (arith, kept-few (decode g), length-decode g, v.few))
      (omega (arith, kept_small (decode g), used-is g v, v.small))

  pub from_is : (r : Group) → r ≡ encode kept.limit (bridge_classes (decode kept)) → r ≡ encode g.limit (from_classes (decode g))
  unfolding from_classes
  from_is r q =
      q
      ∙ ap (λ (n : ℕ). encode n (bridge_classes (decode kept))) (built-limit g.limit (kept_classes (decode g)) kept p)
      ∙ ap (λ (cs : List Class). encode g.limit (bridge_classes cs)) (built-classes g.limit (kept_classes (decode g)) kept p)
