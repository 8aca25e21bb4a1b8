-- `projection_table::table::projection_table` meets its contract.
use Prim.Native.Nat.{ℕ, ◌<◌}
use mathlib.Core.Path.{◌∙◌}
use native.Mathlib.Omega.{arith}
use lib.ListN.{length, length-set, length-replicate}
use Rattle.arena.proofs.Layouts.{length-decode}
use Rattle.projection_table.proofs.TableLaws.{table_more}
use Rattle.projection_table.proofs.table.projection_table.Invariants.{Entry}
use Rattle.projection_table.proofs.table.projection_table.Goals as goal

pub class_places-places-requires : goal.class_places-places-requires
class_places-places-requires c = (c.requires.1, omega (arith, c.requires.0.0.few, c.node_count-n.ensures))

pub loop-e-init : goal.loop-e-init
loop-e-init c = (length-replicate {A = ℕ} 1024 0, λ j l. absurd (omega arith))

pub node_entry-entry-requires : goal.node_entry-entry-requires
node_entry-entry-requires c =
    let n = c.node_count-n.ensures in
    let l = c.loop-e in
    let places = rw n at c.class_places-places.ensures in
    (((record { holds = c.requires.0.0; below = omega (arith, n) }, c.requires.0.1), places), l.invariant.1)

pub offset_bounds-table-e : goal.offset_bounds-table-e
offset_bounds-table-e c =
    omega (arith, c.requires.0.0.few, c.node_count-n.ensures)

pub bounds-table-e : goal.bounds-table-e
bounds-table-e c =
    omega (arith, c.requires.0.0.few, c.node_count-n.ensures)

pub loop-e-preserved : goal.loop-e-preserved
loop-e-preserved c =
    let l = c.loop-e in
    let r : l.e < length l.table = omega (arith, l.invariant.0, c.requires.0.0.few, c.node_count-n.ensures) in (
      length-set l.table l.e c.node_entry-entry.result ∙ l.invariant.0,
      table_more (Entry c.args.cells.now c.args.g c.args.m) l.table l.e c.node_entry-entry.result r l.invariant.1 c.node_entry-entry.ensures,
    )

pub returns : goal.returns
returns c =
    λ e b. c.loop-e.invariant.1 e (omega (arith, length-decode c.args.cells.now, c.node_count-n.ensures))
