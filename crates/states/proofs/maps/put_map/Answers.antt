-- `states::maps::put_map` meets its contract.
use Prim.Native.Nat.{◌+◌, ◌*◌}
use mathlib.Core.List.{◌++◌}
use mathlib.Core.Path.{sym, ap, subst, ◌∙◌}
use native.Mathlib.Omega.{arith}
use lib.ListN.{take}
use Rattle.dependencies.specs.Layout.{place_in}
use Rattle.dependencies.specs.declared.DependencyNode.{DependencyNode}
use Rattle.dependencies.proofs.MapChecks.{sized, read_is}
use Rattle.states.specs.Maps.{node_cells, map_cells}
use Rattle.states.specs.Inner.{NodeFits}
use Rattle.states.proofs.Stored.{rows_none, rows_more, rows_all}
use Rattle.states.proofs.maps.put_map.Goals as goal

pub loop-i-init : goal.loop-i-init
loop-i-init c =
    let x = c.args in
    rows_none (λ j. node_cells (place_in x.map j)) x.map.count 19 64 x.cells.now c.short.result c.short.ensures

pub put_node-requires : goal.put_node-requires
put_node-requires c =
    let m = c.args.map in
    let i = c.loop-i.i in
    let l = c.loop-i-test.true in
    (omega (arith, l), subst NodeFits (sym (read_is m (sized m _ c.well_formed.0) i l)) (c.requires.nodes i))

pub loop-i-preserved : goal.loop-i-preserved
loop-i-preserved c =
    let m = c.args.map in
    let s = c.loop-i in
    let l = c.loop-i-test.true in
    let w = c.put_node in
    rows_more (λ j. node_cells (place_in m j)) m.count 19 64 s.i s.cells w.new.cells l s.invariant (omega arith) w.auto.cells
    (w.ensures ∙ ap (λ (n : DependencyNode). take (1 + 19 * s.i) s.cells ++ node_cells n) (read_is m (sized m _ c.well_formed.0) s.i l))

pub returns : goal.returns
unfolding map_cells
returns c =
    let m = c.args.map in
    let s = c.loop-i in
    rows_all (λ j. node_cells (place_in m j)) m.count 19 64 s.i s.cells (omega arith) c.loop-i-test.false s.invariant
