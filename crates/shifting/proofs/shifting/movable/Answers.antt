-- `shifting::shifting::movable` meets its contract.
use Prim.Native.Nat.{◌<◌}
use mathlib.Core.Bool.{false}
use mathlib.Core.Path.{◌∙◌}
use native.Mathlib.Omega.{arith}
use lib.ListN.{length, length-set, length-replicate}
use Rattle.shifting.proofs.Moves.{table_more}
use Rattle.shifting.proofs.shifting.movable.Invariants.{Moves}
use Rattle.shifting.proofs.shifting.movable.Goals as goal

pub loop-i-init : goal.loop-i-init
loop-i-init c = (length-replicate 1024 false, λ j l. absurd (omega arith))

pub node_moves-requires : goal.node_moves-requires
node_moves-requires c =
    ((record { holds = c.requires.0.0; below = omega (arith, c.requires.0.1) }, c.requires.1), c.loop-i.invariant.1)

pub bounds-table-i : goal.bounds-table-i
bounds-table-i c =
    let k = c.requires.0 in
    omega (arith, k.1, k.0.few)

pub loop-i-preserved : goal.loop-i-preserved
loop-i-preserved c =
    let l = c.loop-i in
    let k = c.requires.0 in
    let r : l.i < length l.table = omega (arith, l.invariant.0, k.1, k.0.few) in (
      length-set l.table l.i c.node_moves.result ∙ l.invariant.0,
      table_more (Moves c.args.cells.now c.args.lift) l.table l.i c.node_moves.result r l.invariant.1 c.node_moves.ensures,
    )
