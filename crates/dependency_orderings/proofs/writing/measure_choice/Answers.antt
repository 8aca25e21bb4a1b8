-- `dependency_orderings::writing::measure_choice` meets its contract.
use Prim.Native.Nat.{◌<◌}
use mathlib.Core.Path.{◌∙◌}
use native.Mathlib.Omega.{arith}
use Rattle.arena.proofs.Refusals.{handed-on}
use lib.ListN.{drop}
use Rattle.orderings.specs.Lists.{ordering_at}
use Rattle.products.specs.Generate.{in_all_orders}
use Rattle.products.specs.Inner.{choice_of, factorial}
use Rattle.products.proofs.Choices.{factorial-few}
use Rattle.dependency_orderings.proofs.Measures.{measuring_begins, measuring_ends, one_size, choice_on, choice_stops, orders-done}
use Rattle.dependency_orderings.proofs.writing.measure_choice.Goals as goal

pub factorial-orders-requires : goal.factorial-orders-requires
factorial-orders-requires c = c.requires.few

pub loop-k-init : goal.loop-k-init
loop-k-init c = (measuring_begins (in_all_orders (choice_of c.args.c)), omega arith)

pub ordering_at-requires : goal.ordering_at-requires
ordering_at-requires c = (c.requires, omega (arith, c.factorial-orders.ensures, c.loop-k-test.true))

pub returns-in_err-o : goal.returns-in_err-o
returns-in_err-o c =
    let l = c.loop-k in
    let b : l.k < factorial c.args.c.size = omega (arith, c.factorial-orders.ensures, c.loop-k-test.true) in
    let p = handed-on _ _ c.from_residual.ensures.1 in
    (p ∙ choice_stops c.args.c l.k b l.total l.invariant.0 _ c.in_err-o.ensures, rw p tt)

pub overflow_mul-total : goal.overflow_mul-total
overflow_mul-total c = omega (arith, one_size _ (ordering_at (in_all_orders (choice_of c.args.c)) c.loop-k.k) c.in_ok-o.ensures)

pub overflow_add-total : goal.overflow_add-total
overflow_add-total c = omega (arith, one_size _ (ordering_at (in_all_orders (choice_of c.args.c)) c.loop-k.k) c.in_ok-o.ensures)

pub overflow_add-total-in-loop-k : goal.overflow_add-total-in-loop-k
overflow_add-total-in-loop-k c =
    let l = c.loop-k in
    omega (arith, one_size _ (ordering_at (in_all_orders (choice_of c.args.c)) l.k) c.in_ok-o.ensures, l.invariant.1, c.factorial-orders.ensures, factorial-few c.args.c.size c.requires.few)

pub loop-k-preserved : goal.loop-k-preserved
loop-k-preserved c =
    let l = c.loop-k in
    let b : l.k < factorial c.args.c.size = omega (arith, c.factorial-orders.ensures, c.loop-k-test.true) in
    (choice_on c.args.c l.k b l.total l.invariant.0 _ c.in_ok-o.ensures, omega (arith, one_size _ (ordering_at (in_all_orders (choice_of c.args.c)) l.k) c.in_ok-o.ensures, l.invariant.1))

pub returns : goal.returns
returns c =
    let o = c.loop-k in
    let os = in_all_orders (choice_of c.args.c) in (
      measuring_ends os (drop o.k os) o.total o.invariant.0 (orders-done c.args.c o.k (omega (arith, c.factorial-orders.ensures, c.loop-k-test.false))),
      omega (arith, o.invariant.1, c.factorial-orders.ensures, factorial-few c.args.c.size c.requires.few),
    )
