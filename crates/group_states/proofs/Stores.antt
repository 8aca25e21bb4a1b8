-- Loops that write a list into cells, and the cells of a group part by part.
use Prim.Native.Nat.{ℕ, ◌+◌, ◌<◌, ◌≤◌}
use mathlib.Core.List.{List, [], ◌∷◌, ◌++◌, append-nil, append_assoc}
use mathlib.Core.Path.{◌≡◌, refl, sym, ap, ◌∙◌}
use native.Mathlib.Omega.{arith}
use lib.ListN.{length, get_or, set, take, length-set}
use Rattle.classes.specs.declared.Group.{Group}
use Rattle.group_states.specs.Groups.{group_cells}
use Rattle.states.proofs.Taken.{taken-all, written-turn}

-- the first i of xs are written from a cell on
pub record Written (old xs : List ℕ) (at i : ℕ) (now : List ℕ) : Type 0 where
  pub few : i ≤ length xs
  pub long : length now ≡ length old
  pub is : take (at + i) now ≡ take at old ++ take i xs

module _ (old xs : List ℕ) (at : ℕ) where
  -- none yet
  pub written_none : Written old xs at 0 old
  written_none =
      let s : at + 0 ≡ at = omega arith in
      record { few = omega arith; long = refl; is = ap (λ (n : ℕ). take n old) s ∙ sym (append-nil (take at old)) }

  -- one more
  pub written-more : (i : ℕ) (now : List ℕ) (x : ℕ) → at + length xs ≤ length old → i < length xs → Written old xs at i now → x ≡ get_or xs i 0
      → Written old xs at (i + 1) (set now (at + i) x)
  written-more i now x room b w e =
      record {
        few = omega arith;
        long = length-set now (at + i) x ∙ w.long;
        is = rw e (written-turn old now xs at i (omega (arith, w.long)) b w.is);
      }

  -- all of them
  pub written_all_lem : (i : ℕ) (now : List ℕ) → length xs ≤ i → Written old xs at i now → take (at + length xs) now ≡ take at old ++ xs
  written_all_lem i now b w =
      let s : i ≡ length xs = omega (arith, w.few) in
      let t : take (at + length xs) now ≡ take at old ++ take (length xs) xs = rw s at w.is in
      t ∙ ap (λ (l : List ℕ). take at old ++ l) (taken-all xs (length xs) (omega arith))

-- three writes make the first three cells
pub three-written : (l : List ℕ) (a b c : ℕ) → 3 ≤ length l → take 3 (set (set (set l 0 a) 1 b) 2 c) ≡ a ∷ b ∷ c ∷ []
three-written [] a b c h = absurd (omega arith)
three-written (x ∷ []) a b c h = absurd (omega arith)
three-written (x ∷ y ∷ []) a b c h = absurd (omega arith)
three-written (x ∷ y ∷ z ∷ r) a b c h = refl

-- a group's parts, written one after the other, are its cells
pub group-written : (g : Group) (x y z : ℕ) (a b c d e : List ℕ) → x ≡ g.limit → y ≡ g.count → z ≡ g.used → take 3 a ≡ x ∷ y ∷ z ∷ []
    → take 67 b ≡ take 3 a ++ g.sizes → take 131 c ≡ take 67 b ++ g.flavours → take 195 d ≡ take 131 c ++ g.values → e ≡ take 195 d ++ g.members → e ≡ group_cells g
unfolding group_cells
group-written g x y z a b c d e limit count used counts sizes flavours values members =
    let p : List ℕ = g.limit ∷ g.count ∷ g.used ∷ [] in
    let h : take 3 a ≡ p = counts ∙ rw (limit, count, used) in
    let s : take 67 b ≡ p ++ g.sizes = sizes ∙ ap (λ (l : List ℕ). l ++ g.sizes) h in
    let f : take 131 c ≡ p ++ g.sizes ++ g.flavours = flavours ∙ ap (λ (l : List ℕ). l ++ g.flavours) s in
    let v : take 195 d ≡ p ++ g.sizes ++ g.flavours ++ g.values = values ∙ ap (λ (l : List ℕ). l ++ g.values) f in
    members
    ∙ ap (λ (l : List ℕ). l ++ g.members) v
    ∙ append_assoc (p ++ g.sizes ++ g.flavours) g.values g.members
    ∙ append_assoc (p ++ g.sizes) g.flavours (g.values ++ g.members)
    ∙ append_assoc p g.sizes (g.flavours ++ (g.values ++ g.members))
