-- `states::maps::put_node` meets its contract.
use Prim.Native.Nat.{ℕ, ◌+◌}
use mathlib.Core.List.{◌∷◌, ◌++◌}
use mathlib.Core.Path.{◌≡◌, ap, ap₂, ◌∙◌}
use native.Mathlib.Omega.{arith}
use lib.ListN.{take, length-set}
use Rattle.states.specs.Maps.{node_cells}
use Rattle.states.proofs.Stored.{length_two, length_three, written-three}
use Rattle.states.proofs.maps.put_node.Goals as goal

pub bounds-cells-at-2 : goal.bounds-cells-at-2
bounds-cells-at-2 c =
    let x = c.args in
    omega (arith, c.requires.0, length-set x.cells.now x.at x.node.key)

pub bounds-cells-at-3 : goal.bounds-cells-at-3
bounds-cells-at-3 c =
    let x = c.args in
    omega (arith, c.requires.0, length_two x.cells.now x.at (x.at + 1) x.node.key c.target_cell.result)

pub put_keys-requires : goal.put_keys-requires
put_keys-requires c =
    let x = c.args in
    omega (arith, c.requires.0, length_three x.cells.now x.at (x.at + 1) (x.at + 2) x.node.key c.target_cell.result c.short.result)

pub shape_of-cells : goal.shape_of-cells
shape_of-cells c =
    let x = c.args in
    let t = c.target_cell.result in
    let s = c.short.result in
    c.put_keys.auto.cells ∙ length_three x.cells.now x.at (x.at + 1) (x.at + 2) x.node.key t s

pub returns : goal.returns
unfolding node_cells
returns c =
    let x = c.args in
    let t = c.target_cell in
    let s = c.short in
    let w = c.put_keys in
    let e : x.at + 19 ≡ x.at + 3 + 16 = omega arith in
    ap (λ (n : ℕ). take n w.new.cells) e
    ∙ w.ensures
    ∙ written-three x.cells.now x.node.dependencies x.at x.node.key t.result s.result (omega (arith, c.requires.0))
    ∙ ap₂ (λ (n m : ℕ). take x.at x.cells.now ++ (x.node.key ∷ n ∷ m ∷ x.node.dependencies)) t.ensures s.ensures
