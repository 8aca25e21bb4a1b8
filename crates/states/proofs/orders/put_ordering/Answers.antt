-- `states::orders::put_ordering` meets its contract.
use Prim.Native.Nat.{ℕ, ◌+◌}
use mathlib.Core.List.{◌∷◌, ◌++◌}
use mathlib.Core.Path.{◌≡◌, refl, ap, ◌∙◌}
use native.Mathlib.Omega.{arith}
use lib.ListN.{take, length-set}
use Rattle.states.specs.Orders.{ordering_cells}
use Rattle.states.proofs.Stored.{written-before}
use borrow.Author.Rules.{rules}
use Rattle.states.proofs.orders.put_ordering.Goals as goal

pub put_keys-requires : goal.put_keys-requires
put_keys-requires c =
    omega (arith, c.requires.0, length-set c.args.cells.now c.args.at c.short.result)

pub shape_of-cells : goal.shape_of-cells
shape_of-cells c =
    let x = c.args in
    c.put_keys.auto.cells ∙ length-set x.cells.now x.at c.short.result

pub returns : goal.returns
unfolding ordering_cells
returns c =
    let x = c.args in
    let s = c.short in
    let w = c.put_keys in
    let e : x.at + 17 ≡ x.at + 1 + 16 = omega arith in
    ap (λ (n : ℕ). take n w.new.cells) e
    ∙ w.ensures
    ∙ written-before x.cells.now x.ordering.keys x.at s.result (x.at + 1) (search rules) refl
    ∙ ap (λ (n : ℕ). take x.at x.cells.now ++ (n ∷ x.ordering.keys)) s.ensures
