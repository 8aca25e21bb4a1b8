-- `group_states::groups::put_widths` meets its contract.
use mathlib.Core.Path.{◌≡◌}
use native.Mathlib.Omega.{arith}
use lib.ListN.{length}
use Rattle.group_states.proofs.Stores.{written_none, written-more, written_all_lem}
use Rattle.group_states.proofs.groups.put_widths.Goals as goal

pub loop-k-init : goal.loop-k-init
loop-k-init c = written_none c.args.cells.now c.args.sizes 3

pub narrow-requires : goal.narrow-requires
narrow-requires c = c.requires.1 c.loop-k.k

pub bounds-cells-k : goal.bounds-cells-k
bounds-cells-k c = omega (arith, c.loop-k.invariant.long, c.requires.0, c.loop-k-test.true)

pub loop-k-preserved : goal.loop-k-preserved
loop-k-preserved c =
    let s = c.loop-k in
    let n : length c.args.sizes ≡ 64 = c.well_formed.0.1.0.1 in
    written-more c.args.cells.now c.args.sizes 3 s.k s.cells c.narrow.result (omega (arith, n, c.requires.0)) (omega (arith, n, c.loop-k-test.true)) s.invariant c.narrow.ensures

pub shape_of-cells : goal.shape_of-cells
shape_of-cells c = c.loop-k.invariant.long

pub returns : goal.returns
returns c =
    let s = c.loop-k in
    let n : length c.args.sizes ≡ 64 = c.well_formed.0.1.0.1 in
    rw n at (written_all_lem c.args.cells.now c.args.sizes 3 s.k s.cells (omega (arith, n, c.loop-k-test.false)) s.invariant)
