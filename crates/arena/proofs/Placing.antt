-- Adding a row to the cells, said of the arena in them.
use Prim.Native.Nat.{ℕ, ◌<◌}
use mathlib.Core.Bool.{Bool, true, false}
use mathlib.Core.List.{List, [], ◌∷◌, ◌++◌}
use Rattle.std.specs.Prelude.{None, Some, Ok}
use mathlib.Core.Path.{◌≡◌, refl, sym, ◌∙◌}
use native.Mathlib.Omega.{arith}
use borrow.Author.Tests.{ltb-true, lt-ltb}
use lib.Dec.{ltb}
use lib.ListN.{length}
use Rattle.laws.proofs.First.{first_some}
use Rattle.arena.specs.Arena.{Sound, Allowed, find, placed_at, add}
use Rattle.arena.specs.Layout.{same_row, row_below, count, node_of, decode}
use Rattle.arena.specs.Calls.{answered, in_cells, Outcome}
use Rattle.arena.specs.Inner.{Placeable, appended}
use Rattle.arena.proofs.Nodes.{add-node}
use Rattle.arena.proofs.Rows.{coded-length}
use Rattle.arena.proofs.Layouts.{length-decode, row_below-is, coded-cells, append-cells}

-- the outcome of adding the row's node
abbrev pub outcome : List ℕ → List ℕ → Outcome
outcome s r = answered (decode s) (add (node_of r) (decode s))

module _ (s r : List ℕ) (p : Placeable s r) where
  -- it has 11 cells
  pub placeable-length : length r ≡ 11
  placeable-length = coded-length (count s) r p.coded p.allowed

  same-find : row_below s (count s) r ≡ find (node_of r) (decode s)
  same-find = row_below-is s r p.holds p.coded placeable-length

  -- the number of a node that has it is small
  pub below-few : (i : ℕ) → row_below s (count s) r ≡ Some i → i < 1024
  unfolding row_below
  below-few i e = omega (arith, (first_some (λ i. same_row s i r) (count s) i e).below, p.holds.few)

  -- a row that a node has
  pub place_found : (i : ℕ) → row_below s (count s) r ≡ Some i → in_cells (outcome s r) ≡ (Ok i, s)
  unfolding in_cells answered add placed_at
  place_found i e =
      let f : find (node_of r) (decode s) ≡ Some i = sym same-find ∙ e in
      rw (f, coded-cells s p.holds)

  sound_more : find (node_of r) (decode s) ≡ None → length (decode s) < 1024 → Sound (decode s ++ (node_of r ∷ []))
  unfolding add placed_at
  sound_more f l =
      let a : Allowed (length (decode s)) (node_of r) = rw (length-decode s) p.allowed in
      (add-node (node_of r) (decode s) p.holds.sound a (length (decode s)) (decode s ++ (node_of r ∷ [])) (rw (f, lt-ltb _ _ l))).sound

  -- a row that no node has
  pub place-appended : row_below s (count s) r ≡ None → in_cells (outcome s r) ≡ appended s r
  unfolding in_cells answered add placed_at appended
  place-appended e = go (ltb (count s) 1024) refl
    where
      f : find (node_of r) (decode s) ≡ None
      f = sym same-find ∙ e

      go : (b : Bool) → ltb (count s) 1024 ≡ b → in_cells (outcome s r) ≡ appended s r
      go true t =
          let l : length (decode s) < 1024 = rw (length-decode s) (ltb-true _ _ t) in
          rw (f, length-decode s, t, append-cells s r p.holds p.coded p.allowed (sound_more f l))
      go false t = rw (f, length-decode s, t, coded-cells s p.holds)
