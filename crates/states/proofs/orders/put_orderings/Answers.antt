-- `states::orders::put_orderings` meets its contract.
use Prim.Native.Nat.{◌+◌, ◌*◌}
use mathlib.Core.List.{◌++◌}
use mathlib.Core.Path.{ap, ◌∙◌}
use native.Mathlib.Omega.{arith}
use lib.ListN.{take}
use Rattle.orderings.specs.Layout.{place_in}
use Rattle.orderings.specs.declared.Ordering.{Ordering}
use Rattle.orderings.proofs.ListChecks.{sized, read_is}
use Rattle.states.specs.Orders.{ordering_cells, orderings_cells}
use Rattle.states.proofs.Stored.{rows_none, rows_more, rows_all}
use Rattle.states.proofs.orders.put_orderings.Goals as goal

pub loop-i-init : goal.loop-i-init
loop-i-init c =
    let x = c.args in
    rows_none (λ j. ordering_cells (place_in x.orderings j)) x.orderings.count 17 32 x.cells.now c.short.result c.short.ensures

pub put_ordering-requires : goal.put_ordering-requires
put_ordering-requires c =
    let g = c.args.orderings in
    let i = c.loop-i.i in
    let l = c.loop-i-test.true in (
      omega (arith, l),
      omega (arith, ap (λ (o : Ordering). o.size) (read_is g (sized g _ c.well_formed.0) i l), c.requires.sizes i),
    )

pub loop-i-preserved : goal.loop-i-preserved
loop-i-preserved c =
    let g = c.args.orderings in
    let s = c.loop-i in
    let l = c.loop-i-test.true in
    let w = c.put_ordering in
    rows_more (λ j. ordering_cells (place_in g j)) g.count 17 32 s.i s.cells w.new.cells l s.invariant (omega arith) w.auto.cells
    (w.ensures ∙ ap (λ (o : Ordering). take (1 + 17 * s.i) s.cells ++ ordering_cells o) (read_is g (sized g _ c.well_formed.0) s.i l))

pub returns : goal.returns
unfolding orderings_cells
returns c =
    let x = c.args in
    let s = c.loop-i in
    rows_all (λ j. ordering_cells (place_in x.orderings j)) x.orderings.count 17 32 s.i s.cells (omega arith) c.loop-i-test.false s.invariant
