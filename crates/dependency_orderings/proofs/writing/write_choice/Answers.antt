-- `dependency_orderings::writing::write_choice` meets its contract.
use Prim.Native.Nat.{◌<◌}
use mathlib.Core.Path.{sym, ◌∙◌}
use native.Mathlib.Omega.{arith}
use borrow.Author.Rules.{rules}
use lib.ListN.{drop}
use Rattle.products.specs.Generate.{in_all_orders}
use Rattle.products.specs.Inner.{choice_of, factorial}
use Rattle.dependency_orderings.proofs.WrittenLaws.{out-begins, out-length, out_within, out-ends}
use Rattle.dependency_orderings.proofs.Measures.{order-there, order_short, order_room, order_on, orders-done}
use Rattle.dependency_orderings.proofs.writing.write_choice.Goals as goal

pub factorial-n-requires : goal.factorial-n-requires
factorial-n-requires c = c.requires.0.few

pub loop-number-init : goal.loop-number-init
loop-number-init c =
    (out-begins (in_all_orders (choice_of c.args.c)) c.args.out.now c.requires.1.1 c.requires.1.0)

pub ordering_at-requires : goal.ordering_at-requires
ordering_at-requires c = (c.requires.0, omega (arith, c.factorial-n.ensures, c.loop-number-test.true))

pub unwrap-o-requires : goal.unwrap-o-requires
unwrap-o-requires c =
    let o = c.loop-number in
    let b : o.number < factorial c.args.c.size = omega (arith, c.factorial-n.ensures, c.loop-number-test.true) in
    let e = c.ordering_at.ensures ∙ order-there c.args.c o.number b c.args.out.now c.requires.1.1 o.out o.at o.invariant in
    rw e (search rules)

pub offset_bounds-out-at : goal.offset_bounds-out-at
offset_bounds-out-at c =
    let o = c.loop-number in
    let os = in_all_orders (choice_of c.args.c) in
    omega (arith, c.well_formed.0.1, out_within os c.args.out.now c.requires.1.1 (drop o.number os) o.out o.at o.invariant)

pub slice_bounds-write_ordering-count : goal.slice_bounds-write_ordering-count
slice_bounds-write_ordering-count c =
    let o = c.loop-number in
    let os = in_all_orders (choice_of c.args.c) in
    omega (arith, out_within os c.args.out.now c.requires.1.1 (drop o.number os) o.out o.at o.invariant, out-length os c.args.out.now c.requires.1.1 (drop o.number os) o.out o.at o.invariant)

pub slice_bounds-write_ordering-start : goal.slice_bounds-write_ordering-start
slice_bounds-write_ordering-start c =
    let o = c.loop-number in
    let os = in_all_orders (choice_of c.args.c) in
    omega (arith, out_within os c.args.out.now c.requires.1.1 (drop o.number os) o.out o.at o.invariant, out-length os c.args.out.now c.requires.1.1 (drop o.number os) o.out o.at o.invariant)

pub slice_bounds-write_ordering-end : goal.slice_bounds-write_ordering-end
slice_bounds-write_ordering-end c = omega arith

pub write_ordering-requires : goal.write_ordering-requires
write_ordering-requires c =
    let o = c.loop-number in
    let b : o.number < factorial c.args.c.size = omega (arith, c.factorial-n.ensures, c.loop-number-test.true) in
    let q = sym c.unwrap-o.ensures ∙ c.ordering_at.ensures in
    (order_short c.args.c o.number b c.args.out.now c.requires.1.1 o.out o.at o.invariant _ q, order_room c.args.c o.number b c.args.out.now c.requires.1.1 o.out o.at o.invariant _ q)

pub overflow_mul-at : goal.overflow_mul-at
overflow_mul-at c =
    let o = c.loop-number in
    let b : o.number < factorial c.args.c.size = omega (arith, c.factorial-n.ensures, c.loop-number-test.true) in
    omega (arith, (order_short c.args.c o.number b c.args.out.now c.requires.1.1 o.out o.at o.invariant _ (sym c.unwrap-o.ensures ∙ c.ordering_at.ensures)).short)

pub overflow_add-at : goal.overflow_add-at
overflow_add-at c =
    let o = c.loop-number in
    let b : o.number < factorial c.args.c.size = omega (arith, c.factorial-n.ensures, c.loop-number-test.true) in
    omega (arith, (order_short c.args.c o.number b c.args.out.now c.requires.1.1 o.out o.at o.invariant _ (sym c.unwrap-o.ensures ∙ c.ordering_at.ensures)).short)

pub overflow_add-at-in-loop-number : goal.overflow_add-at-in-loop-number
overflow_add-at-in-loop-number c =
    let o = c.loop-number in
    let b : o.number < factorial c.args.c.size = omega (arith, c.factorial-n.ensures, c.loop-number-test.true) in
    let os = in_all_orders (choice_of c.args.c) in
    omega (arith, (order_short c.args.c o.number b c.args.out.now c.requires.1.1 o.out o.at o.invariant _ (sym c.unwrap-o.ensures ∙ c.ordering_at.ensures)).short, c.well_formed.0.1, out_within os c.args.out.now c.requires.1.1 (drop o.number os) o.out o.at o.invariant)

pub loop-number-preserved : goal.loop-number-preserved
loop-number-preserved c =
    let o = c.loop-number in
    let b : o.number < factorial c.args.c.size = omega (arith, c.factorial-n.ensures, c.loop-number-test.true) in
    let v = c.write_ordering in
    order_on c.args.c o.number b c.args.out.now c.requires.1.1 o.out o.at o.invariant _ (sym c.unwrap-o.ensures ∙ c.ordering_at.ensures) v.new.out v.ensures

pub shape_of-out : goal.shape_of-out
shape_of-out c =
    let o = c.loop-number in
    let os = in_all_orders (choice_of c.args.c) in
    out-length os c.args.out.now c.requires.1.1 (drop o.number os) o.out o.at o.invariant

pub returns : goal.returns
returns c =
    let o = c.loop-number in
    let os = in_all_orders (choice_of c.args.c) in
    out-ends os c.args.out.now c.requires.1.1 (drop o.number os) o.out o.at o.invariant (orders-done c.args.c o.number (omega (arith, c.factorial-n.ensures, c.loop-number-test.false)))
