-- The list that a join hands to `new`: the left classes and the shifted right ones are a fair list, and the shifted ones have as many members as before.
use Prim.Native.Nat.{ℕ, zero, suc, ◌≤◌}
use mathlib.Core.Bool.{true}
use mathlib.Core.List.{List, [], ◌∷◌, ◌++◌}
use mathlib.Core.Path.{◌≡◌, refl, ap}
use native.Mathlib.Omega.{arith}
use lib.ListN.{length, take, drop, length-drop}
use lib.Seq.{length-take-le}
use Rattle.arena.specs.Node.{Node}
use Rattle.arena.specs.Arena.{Sound, Extends, placed}
use Rattle.shifting.specs.Inner.{lifted}
use Rattle.arena.proofs.Nodes.{extends-both}
use Rattle.shifting.proofs.Shifts.{lifted-within}
use Rattle.classes.specs.Class.{Class}
use Rattle.classes.specs.Group.{total}
use Rattle.classes.specs.Good.{flat, Distinct, Good}
use Rattle.classes.proofs.Places.{All, length-flat}
use Rattle.merging.specs.Inner.{Fair, AllBelow}
use Rattle.merging.proofs.Reaching.{Sane, sane_fair, sane_from, members-from, distinct-take, distinct-drop, below-take, below-drop, all_append, good_sane, flat-below}
use Rattle.shifted_classes.specs.Shifting.{all_move, shifted_numbers, shifted_classes}
use Rattle.shifted_classes.proofs.ShiftOnce.{lifted-injective, stand-kept, ShiftedTo, numbers-shifted, stand-apart}

-- classes built from numbers of the arena are such as a fair list has
pub sane_shifted : (os : List Node) (rs : List Class) (ks : List ℕ) → AllBelow (length os) ks → All (Sane os) (shifted_classes os rs ks)
unfolding shifted_classes
sane_shifted os [] ks b i l = absurd (omega arith)
sane_shifted os (c ∷ cs) ks b zero l = sane_from os (take (length c.members) ks) (below-take (length os) (length c.members) ks b)
sane_shifted os (c ∷ cs) ks b (suc i) l = sane_shifted os cs (drop (length c.members) ks) (below-drop (length os) (length c.members) ks b) i (omega arith)

-- classes built from different numbers have as many members as before
pub total-shifted : (os : List Node) (rs : List Class) (ks : List ℕ) → total rs ≤ length ks → Distinct ks → total (shifted_classes os rs ks) ≡ total rs
unfolding shifted_classes total
total-shifted os [] ks l d = refl
total-shifted os (c ∷ cs) ks l d =
    let n = length c.members in
    let a = ap length (members-from os (take n ks) (distinct-take n ks d)) in
    let b = length-take-le n ks (omega arith) in
    let r = total-shifted os cs (drop n ks) (omega (arith, length-drop n ks)) (distinct-drop n ks d) in
    omega arith

-- ---- by a lift

module _ (lift : ℕ) (ns ms : List Node) (sound : Sound ns) where
  -- the numbers of what was shifted stand for it
  pub lifted-to : (es ks : List ℕ) → AllBelow (length ns) es → all_move (lifted lift) ns es ≡ true → shifted_numbers (lifted lift) ns es ns ≡ placed ks ms → ShiftedTo (lifted lift) ns es ns ks ms
  lifted-to es ks b m e = numbers-shifted (lifted lift) (lifted-within lift) ns sound es b m ns sound ks ms e

-- shifting is injective, so the shifted classes have as many members as the classes
pub shifted-total : (lift : ℕ) (ns ms os : List Node) (rs : List Class) (ks : List ℕ) → Sound ns → Good ns rs → all_move (lifted lift) ns (flat rs) ≡ true
    → shifted_numbers (lifted lift) ns (flat rs) ns ≡ placed ks ms → total (shifted_classes os rs ks) ≡ total rs
shifted-total lift ns ms os rs ks s g m e =
    let t = (lifted-to lift ns ms s (flat rs) ks (flat-below ns rs g) m e).stand in
    total-shifted os rs ks (omega (arith, t.counted, length-flat rs))
    (stand-apart (lifted lift) (lifted-within lift) ns s (lifted-injective lift) (flat rs) (flat-below ns rs g) m g.distinct ms ks t)

-- the left classes and the shifted right ones are a fair list
pub list_fair : (lift : ℕ) (ns ms os : List Node) (rs : List Class) (ks : List ℕ) → Sound ns → Good ns rs → all_move (lifted lift) ns (flat rs) ≡ true
    → shifted_numbers (lifted lift) ns (flat rs) ns ≡ placed ks ms → Extends ms os → (ls : List Class) → Good ns ls → Fair os (ls ++ shifted_classes os rs ks)
list_fair lift ns ms os rs ks s g m e x ls h =
    let t = lifted-to lift ns ms s (flat rs) ks (flat-below ns rs g) m e in
    sane_fair os (ls ++ shifted_classes os rs ks)
    (all_append (Sane os) ls (shifted_classes os rs ks) (good_sane ns os ls (extends-both t.extends x) h)
    (sane_shifted os rs ks (stand-kept (lifted lift) ns (flat rs) ks x t.stand).below))
