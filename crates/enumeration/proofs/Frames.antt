-- The way down of an account.
use Prim.Native.Nat.{ℕ, zero, suc, ◌+◌, ◌<◌}
use mathlib.Core.List.{List, ◌∷◌}
use mathlib.Core.Path.{◌≡◌, refl, ap, ap₂, ◌∙◌}
use native.Mathlib.Numerals.{add-one}
use native.Mathlib.Omega.{arith}
use lib.ListN.{length}
use lib.Seq.{get_or-set_same, get_or-set_other}
use Rattle.dependencies.specs.Map.{entry_at}
use Rattle.dependencies.specs.Layout.{decode, place_in}
use Rattle.dependencies.specs.declared.DependencyMap.{DependencyMap}
use Rattle.enumeration.specs.Inner.{frame_at, frame_of, frames_of, deeper}
use Rattle.enumeration.specs.declared.DependencyEnumerator.{DependencyEnumerator}

-- the same frames give the same way down
pub frames_kept : (m : DependencyMap) (e f : DependencyEnumerator) (n : ℕ) → ((i : ℕ) → i < n → frame_at e i ≡ frame_at f i) → frames_of m e n ≡ frames_of m f n
unfolding frames_of
frames_kept m e f zero same = refl
frames_kept m e f (suc n) same =
    ap₂ {C = List (ℕ × List ℕ)} (λ x xs. x ∷ xs) (ap (frame_of m) (same n (omega arith))) (frames_kept m e f n (λ i l. same i (omega arith)))

-- the way down with one key more
pub frames_deeper : (m : DependencyMap) (e : DependencyEnumerator) (i : ℕ) → e.depth < length e.frames → frames_of m (deeper e i) (e.depth + 1) ≡ ((place_in m i).target, (entry_at (decode m) i).dependencies) ∷ frames_of m e e.depth
unfolding frames_of deeper
frames_deeper m e i room =
    ap (frames_of m (deeper e i)) (add-one e.depth)
    ∙ ap₂ {C = List (ℕ × List ℕ)} (λ x xs. x ∷ xs)
    (ap (frame_of m) (get_or-set_same e.frames e.depth (record { place = i; next = 0 }) (record { place = 0; next = 0 }) room))
    (frames_kept m (deeper e i) e e.depth
    (λ j l. get_or-set_other e.frames e.depth j (record { place = i; next = 0 }) (record { place = 0; next = 0 }) (λ q. omega arith)))
