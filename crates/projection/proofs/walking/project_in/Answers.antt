-- `projection::walking::project_in` meets its contract.
use Prim.Native.Nat.{ℕ}
use mathlib.Core.Path.{ap, ◌∙◌}
use native.Mathlib.Omega.{arith}
use lib.ListN.{get_or}
use Rattle.mappings.specs.Layout.{decode}
use Rattle.arena.specs.Layout.{decode as nodes}
use Rattle.classes.specs.Layout.{decode as classes}
use Rattle.projection_table.specs.Projecting.{projections}
use Rattle.projection.proofs.WalkLaws.{whole-none, whole_ready, whole-walked}
use Rattle.projection.proofs.walking.project_in.Goals as goal

pub projection_table-table-requires : goal.projection_table-table-requires
projection_table-table-requires c =
    ((c.requires.0.0.holds, c.requires.0.1), c.requires.1)

pub offset_bounds-table-wide : goal.offset_bounds-table-wide
offset_bounds-table-wide c =
    omega (arith, c.wide.ensures, c.requires.0.0.below, c.requires.0.0.holds.few)

pub bounds-table-wide : goal.bounds-table-wide
bounds-table-wide c =
    omega (arith, c.wide.ensures, c.requires.0.0.below, c.requires.0.0.holds.few)

pub returns-then-table-wide-eq0 : goal.returns-then-table-wide-eq0
returns-then-table-wide-eq0 c =
    let x = c.projection_table-table in
    whole-none c.args.cells.now x.result c.args.expr (projections (nodes c.args.cells.now) (classes c.args.g) (decode c.args.m)) c.requires.0.0.holds c.requires.0.0.below x.ensures (rw c.wide.ensures at c.if-table-wide-eq0.true)

pub project_node-answer-requires : goal.project_node-answer-requires
project_node-answer-requires c =
    let x = c.projection_table-table in
    whole_ready c.args.cells.now x.result c.args.expr (projections (nodes c.args.cells.now) (classes c.args.g) (decode c.args.m)) c.requires.0.0.holds c.requires.0.0.below x.ensures (λ z. c.if-table-wide-eq0.false (ap (λ (k : ℕ). get_or x.result k 0) c.wide.ensures ∙ z))

pub returns : goal.returns
returns c =
    let x = c.projection_table-table in
    let y = c.project_node-answer in
    c.restored.ensures ∙ whole-walked c.args.cells.now x.result c.args.expr (projections (nodes c.args.cells.now) (classes c.args.g) (decode c.args.m)) c.requires.0.0.holds c.requires.0.0.below x.ensures y.new.cells y.new.table y.result y.ensures
