-- `arena::adding::place` meets its contract.
use Prim.Native.Nat.{ℕ}
use Rattle.std.specs.Prelude.{None, Some}
use mathlib.Core.Path.{◌≡◌, sym, ap, ◌∙◌}
use native.Mathlib.Omega.{arith}
use Rattle.arena.specs.Layout.{count, row_below}
use Rattle.arena.proofs.Placing.{placeable-length, below-few, place_found, place-appended}
use Rattle.arena.proofs.adding.place.Goals as goal

pub narrow-requires : goal.narrow-requires
narrow-requires c =
    let f : row_below c.args.cells.now (count c.args.cells.now) c.args.row.now ≡ Some c.in-Some.i = ap (λ (n : ℕ). row_below c.args.cells.now n c.args.row.now) (sym c.node_count-n.ensures) ∙ (sym c.row_below.ensures ∙ c.in-Some.is) in
    omega (arith, below-few c.args.cells.now c.args.row.now c.requires _ f)

pub append-requires : goal.append-requires
append-requires c =
    let p = c.requires in
    (p.holds.few, (p.holds.sized, placeable-length _ _ p))

pub returns-in-Some : goal.returns-in-Some
returns-in-Some c =
    let f : row_below c.args.cells.now (count c.args.cells.now) c.args.row.now ≡ Some c.in-Some.i = ap (λ (n : ℕ). row_below c.args.cells.now n c.args.row.now) (sym c.node_count-n.ensures) ∙ (sym c.row_below.ensures ∙ c.in-Some.is) in
    rw (place_found c.args.cells.now c.args.row.now c.requires c.in-Some.i f, c.narrow.ensures)

pub returns-in-None : goal.returns-in-None
returns-in-None c =
    let f : row_below c.args.cells.now (count c.args.cells.now) c.args.row.now ≡ None = ap (λ (n : ℕ). row_below c.args.cells.now n c.args.row.now) (sym c.node_count-n.ensures) ∙ (sym c.row_below.ensures ∙ c.in-None.is) in
    c.append.ensures ∙ sym (place-appended c.args.cells.now c.args.row.now c.requires f)
