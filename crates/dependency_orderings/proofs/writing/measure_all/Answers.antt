-- `dependency_orderings::writing::measure_all` meets its contract.
use Prim.Native.Nat.{◌+◌}
use native.Mathlib.Omega.{arith}
use mathlib.Core.Path.{◌∙◌}
use Rattle.arena.proofs.Refusals.{handed-on}
use lib.ListN.{drop}
use Rattle.products.specs.Orders.{product}
use Rattle.products.specs.Generate.{in_all_orders, all_orders}
use Rattle.products.specs.Inner.{choice_of, lists_of}
use Rattle.dependency_orderings.proofs.Measures.{measuring_begins, measuring_on, measuring_stops, measuring_ends, ready-few, ready_in, ready-chosen, ready-next, ready-done}
use Rattle.dependency_orderings.proofs.writing.measure_all.Goals as goal

pub loop-k-init : goal.loop-k-init
loop-k-init c = (measuring_begins (all_orders (product (lists_of c.args.l))), omega arith)

pub choice_at-requires : goal.choice_at-requires
choice_at-requires c =
    (c.requires.laid, (omega (arith, c.requires.number, ready-few c.args.l c.args.n c.requires), ready_in c.args.l c.args.n c.requires c.loop-k.k c.loop-k-test.true))

pub measure_choice-requires : goal.measure_choice-requires
measure_choice-requires c =
    ready-chosen c.args.l c.args.n c.requires c.loop-k.k c.loop-k-test.true c.choice_at.result c.choice_at.ensures

pub returns-in_err-total : goal.returns-in_err-total
returns-in_err-total c =
    let o = c.loop-k in
    let x = c.choice_at in
    let cs = product (lists_of c.args.l) in
    handed-on _ _ c.from_residual.ensures.1
    ∙ measuring_stops (all_orders cs) (all_orders (drop o.k cs)) (in_all_orders (choice_of x.result)) (all_orders (drop (o.k + 1) cs)) o.total o.invariant.0
    (ready-next c.args.l c.args.n c.requires o.k c.loop-k-test.true x.result x.ensures) _ c.in_err-total.ensures.0

pub overflow_add-total : goal.overflow_add-total
overflow_add-total c = omega (arith, c.loop-k.invariant.1, c.in_ok-total.ensures.1, ready-few c.args.l c.args.n c.requires)

pub loop-k-preserved : goal.loop-k-preserved
loop-k-preserved c =
    let o = c.loop-k in
    let x = c.choice_at in
    let cs = product (lists_of c.args.l) in (
      measuring_on (all_orders cs) (all_orders (drop o.k cs)) (in_all_orders (choice_of x.result)) (all_orders (drop (o.k + 1) cs)) o.total o.invariant.0
          (ready-next c.args.l c.args.n c.requires o.k c.loop-k-test.true x.result x.ensures) _ c.in_ok-total.ensures.0,
      omega (arith, o.invariant.1, c.in_ok-total.ensures.1),
    )

pub returns : goal.returns
returns c =
    let o = c.loop-k in
    let cs = product (lists_of c.args.l) in
    measuring_ends (all_orders cs) (all_orders (drop o.k cs)) o.total o.invariant.0 (ready-done c.args.l c.args.n c.requires o.k (omega (arith, c.loop-k-test.false)))
